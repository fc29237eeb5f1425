-- Who started each fiber of a report, and what it began with.
use Rattle.std.proofs.Common.{◌≡◌, ℕ, zero, suc, ◌≤◌, Bool, true, false, Option, Some, None, option_map, List, [], ◌∷◌, map, refl, sym, ◌∙◌, ap, subst, arith}
use Rattle.std.specs.Prelude.{◌==◌, ◌≢◌, if◌then◌else◌}
use Rattle.std.specs.List.Sorted.{IsStrictlyIncreasing}
use Rattle.std.specs.List.{find, list_any}
use Rattle.std.proofs.lemmas.Bool.{eqb-true, eq-eqb, or_left, or_right}
use Rattle.std.proofs.lemmas.Option.{none-some, same_Some}
use Rattle.std.proofs.lemmas.List.Kept.{AllPairs-from_increasing}
use Rattle.fx_term.specs.declared.node.Node.{Node}
use Rattle.fx_term.specs.declared.begin.Begin.{Begin}
use Rattle.fx_term.specs.declared.event.Event.{Event}
use Rattle.fx_term.specs.declared.event.Event.TheVariants as event
use Rattle.fx_term.specs.declared.item.Item.{Item}
use Rattle.fx_model.specs.Row.{Starts}
use Rattle.fx_model.specs.Origin.{Origin, origin_of}
use Rattle.fx_model.specs.Report.{FiberReportView, ReportView, fiber_in, parent_of_report, parent_in}
use Rattle.fx_model.specs.LawfulReport.{is_start_of, starts_of, is_parent, HasStarters}
use Rattle.fx_model.proofs.StartLaws.{run_starts, start_of_trace}
use Rattle.fx_term.specs.Lists.{Among}
use Rattle.fx_fiber.specs.StampedDeed.{deeds_of}
use Rattle.fx_fiber.specs.Bare.{BareView, reached}
use Rattle.fx_word.specs.declared.entry.Entry.{Entry}
use Rattle.fx_word.specs.SeatView.{In, entries}
use Rattle.fx_port.specs.PortView.{beginning_in}
use Rattle.fx_run.specs.RanFiber.{RanFiber, bares_of, ran_at}
use Rattle.fx_run.specs.Reported.{RanCode, AreAscending, parent_of, report_of_bare, NoneIsLost}
use Rattle.fx_run.specs.EndOfRun.{WordsEnd}
use Rattle.fx_run.proofs.Members.{among_all, contains_among, any_among, found_passing, found_is, found_itself}
use Rattle.fx_run.proofs.GivenFibers.{id_at, bare_in, of_bare, report, report_in, report_nowhere, of_report}
use Rattle.fx_run.proofs.DeedLaws.{start_done}
use Rattle.fx_run.proofs.StartsOnce.{starts_at_most_once}
use Rattle.fx_run.proofs.Gathering.{gathered_of, whose}
use Rattle.fx_run.proofs.WholeEntries.{number_at, start_in_trace, part_in_trace, main_is_given, started_is_given}

-- a trace that starts f does so at least once
pub starts_some : (f : ℕ) (es : List Event) → list_any (is_start_of f) es ≡ true → 1 ≤ starts_of f es
starts_some f [] e = absurd cc
starts_some f (v ∷ es) e = by_test (is_start_of f v) refl (starts_some f es)
  where
    by_test : (b : Bool) → is_start_of f v ≡ b → (list_any (is_start_of f) es ≡ true → 1 ≤ starts_of f es) → 1 ≤ starts_of f (v ∷ es)
    by_test true is rest = rw is (omega arith)
    by_test false is rest = rw is (rest (rw is at e))

starts_none : (f : ℕ) (es : List Event) (n : ℕ) → starts_of f es ≡ suc n → list_any (is_start_of f) es ≡ true
starts_none f [] n e = absurd (omega arith)
starts_none f (v ∷ es) n e = by_test (is_start_of f v) refl (starts_none f es n)
  where
    by_test : (b : Bool) → is_start_of f v ≡ b → (starts_of f es ≡ suc n → list_any (is_start_of f) es ≡ true) → list_any (is_start_of f) (v ∷ es) ≡ true
    by_test true is rest = or_left (is_start_of f v) _ is
    by_test false is rest = or_right (is_start_of f v) _ (rest (rw is at e))

-- the report's fibers have the numbers of those given
report_numbers : (bares xs : List BareView) → map (λ (x : FiberReportView). x.id) (map (report_of_bare bares) xs) ≡ map (λ (x : BareView). x.id) xs
report_numbers bares [] = refl
report_numbers bares (x ∷ xs) = ap (λ (ns : List ℕ). x.id ∷ ns) (report_numbers bares xs)

abbrev starts_fiber : ℕ → BareView → Bool
starts_fiber f x = list_any (is_start_of f) x.trace

module _ (nodes : List Node) (ps : List RanFiber) (ran : RanCode nodes (bares_of ps)) (ascending : AreAscending (bares_of ps))
    (lost : NoneIsLost (bares_of ps)) (words : WordsEnd ps) where
  abbrev bares : List BareView
  bares = bares_of ps

  -- its entry is among those gathered, and an entry among these is of a fiber given
  pub in_seat : (f : ℕ) (p : RanFiber) → ran_at ps f ≡ Some p → In p.words words.view
  in_seat f p at = gathered_of ps ascending (λ (z : RanFiber). z.words) (entries words.view) words.gathered f p at

  pub record EntryOf (f : ℕ) (e : Entry) : Type 0 where
    pub fiber : RanFiber
    pub at : ran_at ps f ≡ Some fiber
    pub is : e ≡ fiber.words

  pub entry_of : (f : ℕ) (e : Entry) → In e words.view → e.id ≡ f → EntryOf f e
  entry_of f e i same =
      let o = whose ps ascending (λ (z : RanFiber). z.words) (entries words.view) words.gathered e i in
      let number : o.fiber.bare.id ≡ f =
      sym (number_at ps o.fiber.bare.id o.fiber o.at) ∙ sym (ap (λ (w : Entry). w.id) o.is) ∙ same in
      record { fiber = o.fiber; at = sym (ap (ran_at ps) number) ∙ o.at; is = o.is }

  -- it ran the same code
  pub its_code : (f : ℕ) (p : RanFiber) → ran_at ps f ≡ Some p → p.bare.nodes ≡ nodes
  its_code f p at =
      let found = found_is (λ (y : BareView). y.id == f) bares p.bare (bare_in ps f p at) in
      among_all (λ (x : BareView). x.nodes ≡ nodes) bares p.bare ran found.1

  -- a fiber that a run starts, as it is given
  pub record ChildOf (g f : ℕ) (b : Origin) : Type 0 where
    pub fiber : RanFiber
    pub at : ran_at ps f ≡ Some fiber
    pub begin : Begin
    pub by : fiber.words.begin ≡ Some (g, begin)
    pub is : origin_of fiber.bare.nodes (beginning_in fiber.bare.nodes fiber.words.begin) ≡ b

  pub child_of : (g f : ℕ) (b : Origin) (p : RanFiber) → ran_at ps g ≡ Some p → Among (Starts f b) p.lawful.labels → ChildOf g f b
  child_of g f b p at i =
      let done = start_done p.bare.nodes p.lawful.labels (deeds_of p.lawful.deeds) p.lawful.are_deeds f b i in
      let part = p.lawful.agreed.plain.words_agree.started f done.begin done.done in
      let z = started_is_given ps lost g f p at (start_in_trace f b p i) in
      let begun : z.0.words.begin ≡ Some (p.words.id, done.begin) =
      words.settled.began p.words (in_seat g p at) f done.begin part z.0.words (in_seat f z.0 z.1) (number_at ps f z.0 z.1) in
      record {
        fiber = z.0;
        at = z.1;
        begin = done.begin;
        by = begun ∙ ap (λ (n : ℕ). Some (n, done.begin)) (number_at ps g p at);
        is = ap (origin_of z.0.bare.nodes) (ap (beginning_in z.0.bare.nodes) begun)
            ∙ ap (λ (ns : List Node). origin_of ns done.begin) (its_code f z.0 z.1 ∙ sym (its_code g p at)) ∙ done.is;
      }

  -- nobody split the main fiber off
  pub none_before_main : (p : RanFiber) → ran_at ps 0 ≡ Some p → p.words.begin ≡ None
  none_before_main p at = words.settled.main p.words (in_seat 0 p at) (number_at ps 0 p at)

  -- fiber g, which starts fiber f
  record StarterOf (f g : ℕ) : Type 0 where
    pub fiber : RanFiber
    pub at : ran_at ps f ≡ Some fiber
    pub begin : Begin
    pub by : fiber.words.begin ≡ Some (g, begin)
    pub starter : RanFiber
    pub starter_at : ran_at ps g ≡ Some starter
    pub starts : starts_fiber f starter.bare ≡ true

  starter_of : (g f : ℕ) (p : RanFiber) → ran_at ps g ≡ Some p → starts_fiber f p.bare ≡ true → StarterOf f g
  starter_of g f p at e = by_count (starts_of f p.bare.trace) refl
    where
      by_count : (n : ℕ) → starts_of f p.bare.trace ≡ n → StarterOf f g
      by_count zero is = absurd (let some = starts_some f p.bare.trace e in omega arith)
      by_count (suc n) is =
          let all = run_starts (origin_of p.bare.nodes (beginning_in p.bare.nodes p.words.begin)) p.lawful.labels p.bare.counts (reached p.bare) p.lawful.run in
          let h = start_of_trace (beginning_in p.bare.nodes p.words.begin).next p.lawful.labels f n all (ap (starts_of f) p.lawful.traced ∙ is) in
          let c = child_of g f h.origin p at (contains_among (Starts f h.origin) p.lawful.labels h.holds) in
          record { fiber = c.fiber; at = c.at; begin = c.begin; by = c.by; starter = p; starter_at = at; starts = e }

  -- a fiber whose trace starts f is the one that split it off
  same_starter : (g h f : ℕ) → StarterOf f g → StarterOf f h → g ≡ h
  same_starter g h f a b =
      let same : a.fiber ≡ b.fiber = same_Some a.fiber b.fiber (sym a.at ∙ b.at) in
      let pair : (g, a.begin) ≡ (h, b.begin) = same_Some (g, a.begin) (h, b.begin) (sym a.by ∙ ap (λ (z : RanFiber). z.words.begin) same ∙ b.by) in
      ap (λ (x : ℕ × Begin). x.0) pair

  starts_here : (f : ℕ) (x : BareView) → find (starts_fiber f) bares ≡ Some x → StarterOf f x.id
  starts_here f x e =
      let found = found_is (starts_fiber f) bares x e in
      let o = of_bare ps x.id x (found_itself (λ (b : BareView). b.id) bares (AllPairs-from_increasing _ ascending) x found.1) in
      starter_of x.id f o.fiber o.at (ap (starts_fiber f) (sym o.is) ∙ found.0)

  -- who is reported as the parent started the fiber
  parent_starts : (f h : ℕ) → parent_of bares f ≡ Some h → StarterOf f h
  parent_starts f h e = by_found (find (starts_fiber f) bares) refl e
    where
      by_found : (o : Option BareView) → find (starts_fiber f) bares ≡ o → option_map (λ (x : BareView). x.id) o ≡ Some h → StarterOf f h
      by_found None is n = absurd (none-some h n)
      by_found (Some x) is n = subst (λ (k : ℕ). StarterOf f k) (same_Some x.id h n) (starts_here f x is)

  -- who started the fiber is reported as its parent
  starter_is_parent : (g f : ℕ) (p : RanFiber) → ran_at ps g ≡ Some p → starts_fiber f p.bare ≡ true → parent_of bares f ≡ Some g
  starter_is_parent g f p at e =
      let here = (found_is (λ (y : BareView). y.id == g) bares p.bare (bare_in ps g p at)).1 in
      let found = found_passing (starts_fiber f) bares (any_among (starts_fiber f) bares p.bare here e) in
      let same : found.item.id ≡ g = same_starter found.item.id g f (starts_here f found.item found.found) (starter_of g f p at e) in
      ap (option_map (λ (x : BareView). x.id)) found.found ∙ ap (λ (n : ℕ). Some n) same

  nobody_starts_main : (o : Option ℕ) → parent_of bares 0 ≡ o → o ≡ None
  nobody_starts_main None e = refl
  nobody_starts_main (Some h) e =
      let a = parent_starts 0 h e in absurd (none-some (h, a.begin) (sym (none_before_main a.fiber a.at) ∙ a.by))

  record SomeParent (f : ℕ) : Type 0 where
    pub number : ℕ
    pub is : parent_of bares f ≡ Some number
    pub fiber : RanFiber
    pub at : ran_at ps number ≡ Some fiber

  has_parent : (f : ℕ) (p : RanFiber) → ran_at ps f ≡ Some p → f ≢ 0 → SomeParent f
  has_parent f p at ne =
      let same : p.words.id ≡ f = number_at ps f p at in
      let o = words.settled.started p.words (in_seat f p at) (λ e. ne (sym same ∙ e)) in
      let has = entry_of o.0.id o.0 o.2 refl in
      let q = has.fiber in
      let part : Among (f, o.1) q.words.parts =
      subst (λ (d : Entry). Among (f, o.1) d.parts) has.is (subst (λ (n : ℕ). Among (n, o.1) o.0.parts) same o.3) in
      let start = part_in_trace f o.1 q (q.lawful.agreed.plain.words_agree.parts f o.1 part) in
      let any = any_among (is_start_of f) q.bare.trace (event.Start f) start (eq-eqb f f refl) in
      record { number = o.0.id; is = starter_is_parent o.0.id f q has.at any; fiber = q; at = has.at }

  module _ (left : List (List Item)) (outside : List ℕ) (late : ℕ) where
    abbrev told : ReportView
    told = report ps left outside late

    abbrev view_of : RanFiber → FiberReportView
    view_of p = report_of_bare bares p.bare

    in_report : (f : ℕ) (p : RanFiber) → ran_at ps f ≡ Some p → fiber_in told f ≡ Some (view_of p)
    in_report f p at = report_in ps left outside late f p at

    parent_told : (f : ℕ) (p : RanFiber) → ran_at ps f ≡ Some p → (view_of p).parent ≡ parent_of bares f
    parent_told f p at = ap (parent_of bares) (id_at ps f p at)

    parent_same : (f : ℕ) (p : RanFiber) → ran_at ps f ≡ Some p → parent_in told f ≡ parent_of bares f
    parent_same f p at = ap parent_of_report (in_report f p at) ∙ parent_told f p at

    not_named : (f g : ℕ) (p : RanFiber) → ran_at ps g ≡ Some p → starts_of f p.bare.trace ≡ 0 → (o : Option ℕ) → parent_in told f ≡ o
        → is_parent o g ≡ false
    not_named f g p at none None e = refl
    not_named f g p at none (Some h) e = by_test (h == g) refl
      where
        by_told : (z : Option RanFiber) → ran_at ps f ≡ z → g ≡ h → ⊥
        by_told None is same = none-some h (sym (ap parent_of_report (report_nowhere ps left outside late f is)) ∙ e)
        by_told (Some z) is same =
            let a = parent_starts f h (sym (parent_same f z is) ∙ e) in
            let one : p ≡ a.starter = same_Some p a.starter (sym at ∙ ap (ran_at ps) same ∙ a.starter_at) in
            let some = starts_some f p.bare.trace (ap (λ (y : RanFiber). starts_fiber f y.bare) one ∙ a.starts) in
            omega arith

        by_test : (b : Bool) → (h == g) ≡ b → (h == g) ≡ false
        by_test false is = is
        by_test true is = absurd (by_told (ran_at ps f) refl (sym (eqb-true h g is)))

    starts_as_told : (g f : ℕ) (p : RanFiber) → ran_at ps g ≡ Some p
        → starts_of f p.bare.trace ≡ (if is_parent (parent_in told f) g then 1 else 0)
    starts_as_told g f p at = by_count (starts_of f p.bare.trace) refl
      where
        most : starts_of f p.bare.trace ≤ 1
        most = subst (λ (es : List Event). starts_of f es ≤ 1) p.lawful.traced
            (starts_at_most_once (origin_of p.bare.nodes (beginning_in p.bare.nodes p.words.begin)) p.lawful.labels p.bare.counts (reached p.bare) f
            p.lawful.run)

        by_count : (n : ℕ) → starts_of f p.bare.trace ≡ n → starts_of f p.bare.trace ≡ (if is_parent (parent_in told f) g then 1 else 0)
        by_count zero is = rw (not_named f g p at is (parent_in told f) refl) is
        by_count (suc n) is =
            let any = starts_none f p.bare.trace n is in
            let a = starter_of g f p at any in
            let named : parent_in told f ≡ Some g = parent_same f a.fiber a.at ∙ starter_is_parent g f p at any in
            let one = most in
            rw (named, eq-eqb g g refl) (omega arith)

    pub starters_told : HasStarters told
    starters_told = record {
      ascending = subst IsStrictlyIncreasing (sym (report_numbers bares bares)) ascending;
      main =
          (let m = main_is_given ps lost in
          (view_of m.0, in_report 0 m.0 m.1, parent_told 0 m.0 m.1 ∙ nobody_starts_main (parent_of bares 0) refl));
      others = λ f x e ne.
          (let o = of_report ps left outside late f x e in
          let h = has_parent f o.fiber o.at ne in
          (h.number, view_of h.fiber, ap (λ (z : FiberReportView). z.parent) o.is ∙ parent_told f o.fiber o.at ∙ h.is, in_report h.number h.fiber h.at));
      once = λ g y e f.
          (let o = of_report ps left outside late g y e in
          ap (λ (z : FiberReportView). starts_of f z.trace) o.is ∙ starts_as_told g f o.fiber o.at);
    }
