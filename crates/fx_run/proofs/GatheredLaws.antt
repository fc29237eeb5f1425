-- What the fibers of a run left is gathered one fiber after the other.
use Rattle.std.proofs.Common.{◌≡◌, ◌↔◌, ℕ, ◌<◌, Bool, true, Option, Some, None, List, [], ◌∷◌, ◌++◌, length, map, slice_get, zero, suc}
use Rattle.std.proofs.Common.{refl, sym, ◌∙◌, ap, subst, inl, inr, ⊎_elim, arith}
use Rattle.std.specs.Prelude.{◌==◌, option_map}
use Rattle.std.specs.List.Sorted.{IsStrictlyIncreasing}
use Rattle.std.proofs.lemmas.Bool.{eqb-true}
use Rattle.std.proofs.lemmas.Option.{same_Some}
use Rattle.std.proofs.lemmas.List.Kept.{AllPairs-from_increasing}
use Rattle.fx_term.specs.Lists.{Among}
use Rattle.fx_term.specs.declared.node.Node.{Node}
use Rattle.fx_term.proofs.ListLaws.{Among-append_left, Among-append_right, Among-append}
use Rattle.fx_fiber.specs.Bare.{BareView}
use Rattle.fx_fiber.specs.Fiber.{FiberView}
use Rattle.fx_word.specs.Words as word
use Rattle.fx_word.specs.SeatView as seat
use Rattle.fx_word.specs.declared.seat_view.SeatView.{SeatView}
use Rattle.fx_queue.specs.PassView as queue
use Rattle.fx_queue.specs.Queues.{QueueId, HeldPass, joined_pass}
use Rattle.fx_port.specs.Marks.{is_marked, joined_marks}
use Rattle.fx_port.specs.Rows.{IsRowOf, joined_row}
use Rattle.fx_port.specs.PortView.{PortView}
use Rattle.fx_port.proofs.MarkLaws.{marked_within, joined_long, joined_from, joined_keeps, joined_takes}
use Rattle.fx_port.proofs.RunLaws.{queue_at}
use Rattle.fx_run.specs.declared.gathered.Gathered.{Gathered}
use Rattle.fx_run.specs.FiberAndPort.{FiberAndPort, without_port, entry_by, entry_at}
use Rattle.fx_run.specs.Reported.{AreAscending, bare_at, IsLost, IsLeast}
use Rattle.fx_run.specs.Gathered.{AreGathered, IsGathered, AreAllowed}
use Rattle.fx_run.proofs.Members.{found_is, among_map}
use Rattle.fx_run.proofs.Gathering.{gathers_first, gathers_one}

-- what one fiber had, and what it had taken in, which is nothing
first_of : {A B : Type 0} (had : A → B) (a : A) (own : B) (taken : List B) → own ≡ had a → taken ≡ [] → AreGathered had (a ∷ []) (own ∷ taken)
first_of had a own taken is none = rw (is, none) (gathers_first had a)

one_more_of : {A B : Type 0} (had : A → B) (fibers : List A) (a : A) (own : B) (taken : List B) (other : B) (others : List B)
    → AreGathered had fibers (own ∷ taken) → other ≡ had a → others ≡ [] → AreGathered had (fibers ++ a ∷ []) (own ∷ ((other ∷ others) ++ taken))
one_more_of had fibers a own taken other others h is none = rw (is, none) (gathers_one had fibers a own taken h)

-- the passes at one place of two rows, of which one took the other in
record AreJoined (ss ts : List HeldPass) (q : ℕ) (u : HeldPass) : Type 0 where
  pub one : HeldPass
  pub other : HeldPass
  pub at : slice_get ss q ≡ Some one
  pub other_at : slice_get ts q ≡ Some other
  pub is : u ≡ joined_pass one other

joined_each : (ss ts : List HeldPass) (q : ℕ) (u : HeldPass) → length ts ≡ length ss → slice_get (joined_row ss ts) q ≡ Some u → AreJoined ss ts q u
joined_each [] ts q u l e = let z : ⊥ = cc in absurd z
joined_each (s ∷ ss) [] q u l e = absurd (omega (arith, l))
joined_each (s ∷ ss) (t ∷ ts) zero u l e = record { one = s; other = t; at = refl; other_at = refl; is = sym (same_Some (joined_pass s t) u e) }
joined_each (s ∷ ss) (t ∷ ts) (suc q) u l e =
    let r = joined_each ss ts q u (omega (arith, l)) e in
    record { one = r.one; other = r.other; at = r.at; other_at = r.other_at; is = r.is }

map_more : {A B : Type 0} (f : A → B) (xs : List A) (x : A) → map f (xs ++ x ∷ []) ≡ map f xs ++ f x ∷ []
map_more f [] x = refl
map_more f (y ∷ xs) x = ap (λ l. f y ∷ l) (map_more f xs x)

module _ (nodes : List Node) (words : word.WordsId) (queues : List QueueId) where
  -- the pass of a port is the fiber's own, and had taken in none
  entry_is : (a : FiberAndPort nodes words queues) (q : ℕ) (s : HeldPass) → slice_get a.port.passes q ≡ Some s → s.view.own ≡ entry_at q a.port
  entry_is a q s at = sym (ap (entry_by a.port.words.own.id) at)

  pass_alone : (a : FiberAndPort nodes words queues) (q : ℕ) (s : HeldPass) → slice_get a.port.passes q ≡ Some s
      → (s.view.own.id ≡ a.port.words.own.id) × (s.view.taken ≡ [])
  pass_alone a q s at =
      let of = a.of_run.passes in
      let i = queue_at queues a.port.passes q s of.as_many at in
      let e = of.each q s i.0 at i.1 in
      (e.1, e.4)

  row_of : (a : FiberAndPort nodes words queues) → IsRowOf queues a.port.passes
  row_of a = let of = a.of_run.passes in record { as_many = of.as_many; each = λ q s i hs hi. (of.each q s i hs hi).0 }

  -- some of these ports noted the number
  abbrev SomeNoted : List (FiberAndPort nodes words queues) → ℕ → Type 0
  SomeNoted fibers f = (a : FiberAndPort nodes words queues) × Among a fibers × (is_marked a.port.noted f ≡ true)

  noted_more : (marks : List Bool) (fibers : List (FiberAndPort nodes words queues)) (a : FiberAndPort nodes words queues) → length marks ≡ words.fibers
      → ((f : ℕ) → (is_marked marks f ≡ true) ↔ SomeNoted fibers f)
      → (f : ℕ) → (is_marked (joined_marks marks a.port.noted) f ≡ true) ↔ SomeNoted (fibers ++ a ∷ []) f
  noted_more marks fibers a long h f = (told, back)
    where
      told : is_marked (joined_marks marks a.port.noted) f ≡ true → SomeNoted (fibers ++ a ∷ []) f
      told e = elim (joined_from marks a.port.noted f e) [
        | inl m ↦ (let t = (h f).0 m in (t.0, Among-append_left fibers (a ∷ []) t.0 t.1, t.2))
        | inr m ↦ (a, Among-append_right fibers (a ∷ []) a (inl refl), m)
      ]

      its_own : (b : FiberAndPort nodes words queues) → is_marked b.port.noted f ≡ true → b ≡ a → is_marked (joined_marks marks a.port.noted) f ≡ true
      its_own b m e =
          let n = subst (λ (x : FiberAndPort nodes words queues). is_marked x.port.noted f ≡ true) e m in
          let lt = marked_within a.port.noted f n in
          let short = a.of_run.marks in
          joined_takes marks a.port.noted f (omega (arith, lt, short, long)) n

      back : SomeNoted (fibers ++ a ∷ []) f → is_marked (joined_marks marks a.port.noted) f ≡ true
      back (b, i, m) = elim (Among-append fibers (a ∷ []) b i) [
        | inl j ↦ joined_keeps marks a.port.noted f ((h f).1 (b, j, m))
        | inr j ↦ elim j [ inl e ↦ its_own b m e | inr none ↦ absurd none ]
      ]

  -- of the main fiber what it had itself
  pub gathered_first : (a : FiberAndPort nodes words queues) (g : Gathered) (before : List BareView) → a.port.words.own.id ≡ 0 → before ≡ []
      → g.bares.items ≡ before ++ a.bare ∷ [] → word.IsOf g.seat words
      → g.seat.view ≡ a.port.words → g.passes ≡ a.port.passes → g.noted ≡ a.port.noted → IsGathered nodes words queues g
  gathered_first a g before main none bares seat_of seat passes noted = record {
    fibers = a ∷ [];
    bares = sym (bares ∙ ap (λ (l : List BareView). l ++ a.bare ∷ []) none);
    seat_of = seat_of;
    main = ap (λ (v : SeatView). v.own.id) seat ∙ main;
    entries = first_of (λ (x : FiberAndPort nodes words queues). x.port.words.own) a g.seat.view.own g.seat.view.taken
        (ap (λ (v : SeatView). v.own) seat) (ap (λ (v : SeatView). v.taken) seat ∙ a.of_run.alone);
    row = subst (IsRowOf queues) (sym passes) (row_of a);
    mains = λ q s at. (pass_alone a q s (here q s at)).0 ∙ main;
    passes = λ q s at. first_of (λ (x : FiberAndPort nodes words queues). entry_at q x.port) a s.view.own s.view.taken
        (entry_is a q s (here q s at)) (pass_alone a q s (here q s at)).1;
    marks = ap length noted ∙ a.of_run.marks;
    noted = λ f. (
      (λ m. (a, inl refl, sym (ap (λ l. is_marked l f) noted) ∙ m)),
      (λ t. elim t.1 [
        | inl e ↦ ap (λ l. is_marked l f) noted ∙ subst (λ (x : FiberAndPort nodes words queues). is_marked x.port.noted f ≡ true) e t.2
        | inr none ↦ absurd none
      ]),
    );
  }
    where
      here : (q : ℕ) (s : HeldPass) → slice_get g.passes q ≡ Some s → slice_get a.port.passes q ≡ Some s
      here q s at = ap (λ l. slice_get l q) (sym passes) ∙ at

  module _ (g : Gathered) (h : IsGathered nodes words queues g) where
    -- one more fiber is taken in
    pub gathered_more : (a : FiberAndPort nodes words queues) (g' : Gathered) → g'.bares.items ≡ g.bares.items ++ a.bare ∷ [] → word.IsOf g'.seat words
        → g'.seat.view ≡ seat.joined g.seat.view a.port.words → g'.passes ≡ joined_row g.passes a.port.passes → IsRowOf queues g'.passes
        → g'.noted ≡ joined_marks g.noted a.port.noted → IsGathered nodes words queues g'
    gathered_more a g' bares seat_of seat_is passes row noted = record {
      fibers = h.fibers ++ a ∷ [];
      bares = map_more (λ (x : FiberAndPort nodes words queues). x.bare) h.fibers a ∙ ap (λ l. l ++ a.bare ∷ []) h.bares ∙ sym bares;
      seat_of = seat_of;
      main = ap (λ (v : SeatView). v.own.id) seat_is ∙ h.main;
      entries = subst (λ (v : SeatView). AreGathered (λ (x : FiberAndPort nodes words queues). x.port.words.own) (h.fibers ++ a ∷ []) (seat.entries v))
          (sym seat_is)
          (one_more_of (λ (x : FiberAndPort nodes words queues). x.port.words.own) h.fibers a g.seat.view.own g.seat.view.taken
          a.port.words.own a.port.words.taken h.entries refl a.of_run.alone);
      row = row;
      mains = λ q u at. let j = joined q u at in ap (λ (s : HeldPass). s.view.own.id) j.is ∙ h.mains q j.one j.at;
      passes = λ q u at. let j = joined q u at in
          subst (λ (s : HeldPass). AreGathered (λ (x : FiberAndPort nodes words queues). entry_at q x.port) (h.fibers ++ a ∷ []) (queue.entries s.view))
          (sym j.is)
          (one_more_of (λ (x : FiberAndPort nodes words queues). entry_at q x.port) h.fibers a j.one.view.own j.one.view.taken
          j.other.view.own j.other.view.taken (h.passes q j.one j.at) (entry_is a q j.other j.other_at) (pass_alone a q j.other j.other_at).1);
      marks = ap length noted ∙ joined_long g.noted a.port.noted ∙ h.marks;
      noted = subst (λ (l : List Bool). (f : ℕ) → (is_marked l f ≡ true) ↔ SomeNoted (h.fibers ++ a ∷ []) f) (sym noted)
          (noted_more g.noted h.fibers a h.marks h.noted);
    }
      where
        joined : (q : ℕ) (u : HeldPass) → slice_get g'.passes q ≡ Some u → AreJoined g.passes a.port.passes q u
        joined q u at =
            let many = a.of_run.passes.as_many in
            let same = h.row.as_many in
            joined_each g.passes a.port.passes q u (many ∙ sym same) (ap (λ l. slice_get l q) (sym passes) ∙ at)

-- no number is marked but such as may be named
pub allowed_more : (may : ℕ → Bool) (marks other all : List Bool) → AreAllowed may marks → AreAllowed may other
    → all ≡ joined_marks marks other → AreAllowed may all
allowed_more may marks other all h k is f m =
    ⊎_elim (h f) (k f) (joined_from marks other f (sym (ap (λ l. is_marked l f) is) ∙ m))

-- the fibers rise without their ports as with them
numbers_same : (nodes : List Node) (fs : List (FiberView PortView))
    → map (λ (x : BareView). x.id) (map (without_port nodes) fs) ≡ map (λ (f : FiberView PortView). f.port.words.own.id) fs
numbers_same nodes [] = refl
numbers_same nodes (f ∷ fs) = ap (λ (ns : List ℕ). f.port.words.own.id ∷ ns) (numbers_same nodes fs)

rise_without_ports : (nodes : List Node) (fs : List (FiberView PortView))
    → IsStrictlyIncreasing (map (λ (f : FiberView PortView). f.port.words.own.id) fs) → AreAscending (map (without_port nodes) fs)
rise_without_ports nodes fs rises = subst IsStrictlyIncreasing (sym (numbers_same nodes fs)) rises

-- where the first one is not the main fiber, that one is not given
later_is_above : (x y : BareView) (xs : List BareView) → AreAscending (x ∷ xs) → Among y xs → x.id < y.id
later_is_above x y xs rises i =
    let c = among_map (λ (b : BareView). b.id) xs y i in
    let lt = c.1 in
    subst (λ (n : ℕ). x.id < n) c.2 (AllPairs-from_increasing (map (λ (b : BareView). b.id) (x ∷ xs)) rises 0 (suc c.0) y.id (omega arith) (omega arith))

first_is_lost : (nodes : List Node) (f : FiberView PortView) (fs : List (FiberView PortView))
    → IsStrictlyIncreasing (map (λ (f : FiberView PortView). f.port.words.own.id) (f ∷ fs)) → (f.port.words.own.id ≡ 0 → ⊥)
    → IsLeast (IsLost (map (without_port nodes) (f ∷ fs))) 0
first_is_lost nodes f fs rises other = ((by_find (bare_at (map (without_port nodes) (f ∷ fs)) 0) refl, inl refl), λ g lt. absurd (omega (arith, lt)))
  where
    by_find : (o : Option BareView) → bare_at (map (without_port nodes) (f ∷ fs)) 0 ≡ o → bare_at (map (without_port nodes) (f ∷ fs)) 0 ≡ None
    by_find None is = is
    by_find (Some y) is =
        let found = found_is (λ (x : BareView). x.id == 0) (map (without_port nodes) (f ∷ fs)) y is in
        let zero = eqb-true y.id 0 found.0 in
        elim found.1 [
          | inl e ↦ absurd (other (sym (ap (λ (x : BareView). x.id) e) ∙ zero))
          | inr i ↦ (let lt = later_is_above (without_port nodes f) y (map (without_port nodes) fs) (rise_without_ports nodes (f ∷ fs) rises) i in
              absurd (omega (arith, lt, zero)))
        ]

pub main_is_lost : (nodes : List Node) (all : List (FiberView PortView))
    → IsStrictlyIncreasing (map (λ (f : FiberView PortView). f.port.words.own.id) all)
    → (option_map (λ (f : FiberView PortView). f.port.words.own.id) (slice_get all 0) ≡ Some 0 → ⊥)
    → IsLeast (IsLost (map (without_port nodes) all)) 0
main_is_lost nodes [] rises other = ((refl, inl refl), λ g lt. absurd (omega (arith, lt)))
main_is_lost nodes (f ∷ fs) rises other = first_is_lost nodes f fs rises (λ e. other (ap Some e))

pub rises_so : (nodes : List Node) (all : List (FiberView PortView)) (bares : List BareView) → bares ≡ map (without_port nodes) all
    → IsStrictlyIncreasing (map (λ (f : FiberView PortView). f.port.words.own.id) all) → AreAscending bares
rises_so nodes all bares is rises = subst AreAscending (sym is) (rise_without_ports nodes all rises)

-- the main fiber without its port, and then those after it
pub all_without_ports : (nodes : List Node) (all : List (FiberView PortView)) (main : FiberView PortView) (others : List (FiberView PortView))
    (first bares : List BareView) → all ≡ main ∷ others → first ≡ without_port nodes main ∷ [] → bares ≡ first ++ map (without_port nodes) others
    → bares ≡ map (without_port nodes) all
all_without_ports nodes all main others first bares is one more =
    more ∙ ap (λ (l : List BareView). l ++ map (without_port nodes) others) one ∙ ap (map (without_port nodes)) (sym is)
