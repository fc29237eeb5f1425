-- What the fibers of a run left is all that its end asks for.
use Rattle.std.proofs.Common.{◌≡◌, ℕ, ◌<◌, ◌≤◌, All, Bool, Some, None, List, [], ◌∷◌, length, map, slice_get, zero, suc}
use Rattle.std.proofs.Common.{refl, sym, ◌∙◌, ap, subst, inl, inr, arith}
use Rattle.std.specs.Prelude.{◌==◌, slice_index, slice_index_or}
use Rattle.std.proofs.lemmas.Option.{same_Some}
use Rattle.std.proofs.lemmas.List.{length-map}
use Rattle.fx_term.specs.Lists.{Among}
use Rattle.fx_term.specs.declared.node.Node.{Node}
use Rattle.fx_term.specs.declared.item.Item.{Item}
use Rattle.fx_term.specs.Meaning.{root_term}
use Rattle.fx_term.specs.Script.{ScriptView, total}
use Rattle.fx_model.specs.Report.{ReportView, capacity_of}
use Rattle.fx_fiber.specs.Bare.{BareView}
use Rattle.fx_word.specs.Words as word
use Rattle.fx_word.specs.SeatView as seat
use Rattle.fx_queue.specs.PassView as queue
use Rattle.fx_queue.specs.Queues.{QueueId, HeldPass}
use Rattle.fx_queue.specs.Told.{IsRest}
use Rattle.fx_port.specs.Rows.{AreRests}
use Rattle.fx_port.proofs.MarkLaws.{marked_within}
use Rattle.fx_port.proofs.RunLaws.{queue_at}
use Rattle.fx_run.specs.declared.gathered.Gathered.{Gathered}
use Rattle.fx_run.specs.FiberAndPort.{FiberAndPort, entry_by}
use Rattle.fx_run.specs.RanFiber.{RanFiber, bares_of, ran_at}
use Rattle.fx_run.specs.Gathered.{AreGathered, AreEntries, ArePasses, IsGathered, AreAllowed}
use Rattle.fx_run.specs.Reported.{RanCode, AreAscending, report_of, NoneIsLost, IsReported}
use Rattle.fx_run.specs.EndOfRun.{AreNoted, QueueEnd, IsUntouched, EndsWithReport}
use Rattle.fx_run.specs.Closing.{AreMarked, IsReportOf}
use Rattle.fx_run.proofs.Members.{all_among, found_is}
use Rattle.fx_run.proofs.FiberAndPort.{ran_of}
use Rattle.fx_run.proofs.WholeEntries.{seat_is_whole, pass_is_whole}

-- members of a list that was mapped
pub among_mapped : {A B : Type 0} (h : A → B) (xs : List A) (y : B) → Among y (map h xs) → (x : A) × Among x xs × (y ≡ h x)
among_mapped h [] y i = absurd i
among_mapped h (x ∷ xs) y (inl e) = (x, inl refl, e)
among_mapped h (x ∷ xs) y (inr i) = (let t = among_mapped h xs y i in (t.0, inr t.1, t.2))

pub map_among : {A B : Type 0} (h : A → B) (xs : List A) (x : A) → Among x xs → Among (h x) (map h xs)
map_among h [] x i = absurd i
map_among h (y ∷ xs) x (inl e) = inl (ap h e)
map_among h (y ∷ xs) x (inr i) = inr (map_among h xs x i)

map_twice : {A B C : Type 0} (g : B → C) (h : A → B) (xs : List A) → map g (map h xs) ≡ map (λ x. g (h x)) xs
map_twice g h [] = refl
map_twice g h (x ∷ xs) = ap (λ l. g (h x) ∷ l) (map_twice g h xs)

gathered_as : {A B C : Type 0} (h : A → B) (had : B → C) (xs : List A) (gathered : List C) → AreGathered (λ x. had (h x)) xs gathered
    → AreGathered had (map h xs) gathered
gathered_as h had xs gathered g = record {
  there = λ p i. let t = among_mapped h xs p i in subst (λ c. Among c gathered) (sym (ap had t.2)) (g.there t.0 t.1);
  back = λ c i. let b = g.back c i in (h b.0, map_among h xs b.0 b.1, b.2);
}

-- the element at a place of a list
element_at : {A : Type 0} (xs : List A) (k : ℕ) → k < length xs → (x : A) × (slice_get xs k ≡ Some x)
element_at [] k lt = absurd (omega (arith, lt))
element_at (x ∷ xs) zero lt = (x, refl)
element_at (x ∷ xs) (suc k) lt = element_at xs k (omega (arith, lt))

read_at : {A : Type 0} (xs : List A) (k : ℕ) (x d : A) → slice_get xs k ≡ Some x → slice_index_or xs k d ≡ x
read_at [] k x d e = let z : ⊥ = cc in absurd z
read_at (y ∷ xs) zero x d e = same_Some y x e
read_at (y ∷ xs) (suc k) x d e = read_at xs k x d e

none_at : {A : Type 0} (xs : List A) (k : ℕ) → length xs ≤ k → slice_get xs k ≡ None
none_at [] k le = refl
none_at (x ∷ xs) zero le = absurd (omega (arith, le))
none_at (x ∷ xs) (suc k) le = none_at xs k (omega (arith, le))

pub capacity_at : (queues : List QueueId) (k : ℕ) (i : QueueId) → slice_get queues k ≡ Some i → slice_index (map (λ (j : QueueId). j.cap) queues) k ≡ i.cap
capacity_at [] k i e = let z : ⊥ = cc in absurd z
capacity_at (j ∷ queues) zero i e = ap (λ (h : QueueId). h.cap) (same_Some j i e)
capacity_at (j ∷ queues) (suc k) i e = capacity_at queues k i e

module _ (nodes : List Node) (words : word.WordsId) (queues : List QueueId) (g : Gathered) (h : IsGathered nodes words queues g) where
  abbrev Left : Type 0
  Left = FiberAndPort nodes words queues

  abbrev pub parted : List RanFiber
  parted = map (ran_of nodes words queues) h.fibers

  pub bares_same : bares_of parted ≡ g.bares.items
  bares_same = map_twice (λ (p : RanFiber). p.bare) (ran_of nodes words queues) h.fibers ∙ h.bares

  entries : AreEntries parted g.seat.view
  entries = gathered_as (ran_of nodes words queues) (λ (p : RanFiber). p.words) h.fibers (seat.entries g.seat.view) h.entries

  passes : (q : ℕ) (s : HeldPass) → slice_get g.passes q ≡ Some s → ArePasses q parted s.view
  passes q s at = gathered_as (ran_of nodes words queues) (λ (p : RanFiber). p.passes q) h.fibers (queue.entries s.view) (h.passes q s at)

  -- whose it is
  pub whose : (f : ℕ) (p : RanFiber) → ran_at parted f ≡ Some p → (a : Left) × Among a h.fibers × (p ≡ ran_of nodes words queues a)
  whose f p at = among_mapped (ran_of nodes words queues) h.fibers p (found_is (λ (x : RanFiber). x.bare.id == f) parted p at).1

  pub ran_so : RanCode nodes g.bares.items
  ran_so = subst (RanCode nodes) h.bares (all_among (λ (x : BareView). x.nodes ≡ nodes) (map (λ (a : Left). a.bare) h.fibers)
      (λ x i. let t = among_mapped (λ (a : Left). a.bare) h.fibers x i in ap (λ (b : BareView). b.nodes) t.2 ∙ t.0.code))

  pub all_below : (n : ℕ) → words.fibers ≡ n → All (λ (x : BareView). x.id < n) g.bares.items
  all_below n same = subst (All (λ (x : BareView). x.id < n)) h.bares (all_among (λ (x : BareView). x.id < n) (map (λ (a : Left). a.bare) h.fibers)
      (λ x i. let t = among_mapped (λ (a : Left). a.bare) h.fibers x i in
      let here = t.0.of_run.here in
      let is = ap (λ (b : BareView). b.id) t.2 in
      let number = t.0.number in
      omega (arith, here, is, number, same)))

  -- words and queues can be closed where no fiber is lost
  module _ (lost : NoneIsLost g.bares.items) (ascending : AreAscending g.bares.items) where
    lost_so : NoneIsLost (bares_of parted)
    lost_so = subst NoneIsLost (sym bares_same) lost

    ascending_so : AreAscending (bares_of parted)
    ascending_so = subst AreAscending (sym bares_same) ascending

    pub seat_whole : seat.IsWhole g.seat.view
    seat_whole = seat_is_whole parted lost_so ascending_so g.seat.view entries h.main

    pub passes_whole : (q : ℕ) (s : HeldPass) → slice_get g.passes q ≡ Some s → queue.IsWhole s.view
    passes_whole q s at = pass_is_whole parted lost_so ascending_so q s.view (passes q s at) (h.mains q s at)

    module _ (s : ScriptView) (term : s.term ≡ root_term nodes) (fibers : words.fibers ≡ total s)
        (capacities : map (λ (i : QueueId). i.cap) queues ≡ s.capacities) where
      queues_long : length queues ≡ length s.capacities
      queues_long = sym (length-map queues (λ (i : QueueId). i.cap)) ∙ ap length capacities

      untouched : (q : ℕ) → length s.capacities ≤ q → IsUntouched q parted
      untouched q le f p at =
          let t = whose f p at in
          let many = t.0.of_run.passes.as_many in
          let long = queues_long in
          ap (λ (x : RanFiber). (x.passes q).acts) t.2
          ∙ ap (λ o. (entry_by t.0.port.words.own.id o).acts) (none_at t.0.port.passes q (omega (arith, le, many, long)))

      noted_so : (outside : List ℕ) → AreMarked (total s) g.noted outside → AreNoted parted outside
      noted_so outside told i p at f m =
          let t = whose i p at in
          let marked = (h.noted f).1 (t.0, t.1, sym (ap (λ (x : RanFiber). x.noted f) t.2) ∙ m) in
          let lt = marked_within g.noted f marked in
          let long = h.marks in
          (told f).1 (omega (arith, lt, long, fibers), marked)

      module _ (left : List (List Item)) (rests : AreRests g.passes left) where
        queue_ends : (q : ℕ) → q < length s.capacities → QueueEnd q (capacity_of s q) parted (slice_index_or left q [])
        queue_ends q lt =
            let many = h.row.as_many in
            let as_many = rests.as_many in
            let long = queues_long in
            let pass = element_at g.passes q (omega (arith, lt, many, long)) in
            let items = element_at left q (omega (arith, lt, many, as_many, long)) in
            let i = queue_at queues g.passes q pass.0 many pass.1 in
            record {
              view = pass.0.view;
              sized = (h.row.each q pass.0 i.0 pass.1 i.1).1 ∙ sym (capacity_at queues q i.0 i.1) ∙ ap (λ l. slice_index l q) capacities;
              gathered = passes q pass.0 pass.1;
              rest = subst (IsRest pass.0.view) (sym (read_at left q items.0 [] items.1)) (rests.each q pass.0 items.0 pass.1 items.1);
            }

      pub ends_so : (may : ℕ → Bool) → AreAllowed may g.noted → seat.IsSettled g.seat.view → (late : ℕ) (answer : ReportView)
          → IsReportOf s g late answer → EndsWithReport s may answer
      ends_so may allowed settled late answer r = record {
        nodes = nodes;
        fibers = parted;
        left = r.left;
        outside = r.outside;
        late = late;
        term = term;
        ran = subst (RanCode nodes) (sym bares_same) ran_so;
        ascending = ascending_so;
        noted = noted_so r.outside r.marked;
        named = record { ascending = r.ascending; named = λ f i. let t = (r.marked f).0 i in (t.0, allowed f t.1) };
        words = record { view = g.seat.view; gathered = entries; settled = settled };
        left_by_queue = r.rests.as_many ∙ h.row.as_many ∙ queues_long;
        queues = queue_ends r.left r.rests;
        undeclared = untouched;
        answered = subst (λ bs. IsReported s bs (report_of bs r.left r.outside late) answer) (sym bares_same) r.answered;
      }

      pub ended_fibers : (may : ℕ → Bool) (allowed : AreAllowed may g.noted) (settled : seat.IsSettled g.seat.view) (late : ℕ) (answer : ReportView)
          (r : IsReportOf s g late answer) → (ends_so may allowed settled late answer r).fibers ≡ parted
      unfolding ends_so
      ended_fibers may allowed settled late answer r = refl

      pub ended_nodes : (may : ℕ → Bool) (allowed : AreAllowed may g.noted) (settled : seat.IsSettled g.seat.view) (late : ℕ) (answer : ReportView)
          (r : IsReportOf s g late answer) → (ends_so may allowed settled late answer r).nodes ≡ nodes
      unfolding ends_so
      ended_nodes may allowed settled late answer r = refl
