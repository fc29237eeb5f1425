-- The history that a list of a report's events has of a queue, fiber by fiber.
use Rattle.std.proofs.Common.{◌≡◌, ℕ, zero, suc, ◌+◌, ◌-◌, ◌<◌, ◌≤◌, Bool, true, false, Option, Some, None, List, [], ◌∷◌, length, refl, sym, ◌∙◌, ap}
use Rattle.std.proofs.Common.{subst, arith, inl, inr, ◌⊎◌}
use Rattle.std.specs.Prelude.{◌==◌, map, slice_get, slice_index_or, if◌then◌else◌}
use Rattle.std.specs.List.{filter, flat_map, cons_option, find, AllPairs}
use Rattle.std.proofs.lemmas.Bool.{cases_eq, eqb-true, eqb-false, eq-eqb, ne_eqb, true≢false}
use Rattle.std.proofs.lemmas.List.{length-append}
use Rattle.std.proofs.lemmas.List.Elements.{filter-append}
use Rattle.std.proofs.lemmas.List.Kept.{AllPairs-from_increasing}
use Rattle.std.proofs.lemmas.List.Sorted.{sum_by-IsPermutation}
use Rattle.std.proofs.lemmas.List.Sums.{length-filter}
use Rattle.std.proofs.lemmas.Option.{none-some, same_Some, slice_get_within}
use Rattle.fx_term.specs.declared.event.Event.{Event}
use Rattle.fx_term.specs.declared.event.Event.TheVariants as event
use Rattle.fx_term.specs.declared.queue_event.QueueEvent.{QueueEvent}
use Rattle.fx_term.specs.declared.queue_event.QueueEvent.TheVariants.{Put, Got}
use Rattle.fx_term.specs.Queue.{cut, fiber_of, queue_event, queue_events}
use Rattle.fx_model.specs.Report.{FiberReportView, ReportView, fiber_in, trace_of_report, trace_in, capacity_of}
use Rattle.fx_model.specs.LawfulReport.{HasHistory, IsLawfulReport}
use Rattle.fx_model.specs.ReportStamps.{stamp_in}
use Rattle.fx_term.specs.Script.{ScriptView}
use Rattle.fx_order.specs.declared.occurrence.Occurrence.{Occurrence}
use Rattle.fx_order.specs.Occurrences.{occurrences_from, occurrences_of, occurrences}
use Rattle.fx_counts.specs.Counted.{IsHistory, history_in}
use Rattle.fx_counts.specs.KeepsOrder.{KeepsOrder}

module _ (f : ℕ) where
  abbrev pub is_own : Occurrence → Bool
  is_own x = x.fiber == f

  -- the fiber's events in a list
  abbrev pub own : List Occurrence → List Occurrence
  own ls = filter is_own ls

  abbrev events_of : List Occurrence → List Event
  events_of ls = map (λ (x : Occurrence). x.event) ls

  same_fiber : (q g : ℕ) (e : Event) (d : QueueEvent) → queue_event q g e ≡ Some d → fiber_of d ≡ g
  same_fiber q g (event.Put r n) d is = by_test (r == q) is
    where
      by_test : (b : Bool) → (if b then Some (Put g n) else None) ≡ Some d → fiber_of d ≡ g
      by_test true is = ap fiber_of (sym (same_Some (Put g n) d is))
      by_test false is = absurd (none-some d is)
  same_fiber q g (event.Got r n) d is = by_test (r == q) is
    where
      by_test : (b : Bool) → (if b then Some (Got g n) else None) ≡ Some d → fiber_of d ≡ g
      by_test true is = ap fiber_of (sym (same_Some (Got g n) d is))
      by_test false is = absurd (none-some d is)
  same_fiber q g _ d is = absurd (none-some d is)

  cut_own : (o : Option QueueEvent) (h : List QueueEvent) → ((d : QueueEvent) → o ≡ Some d → fiber_of d ≡ f)
      → cut f (cons_option o h) ≡ cons_option o (cut f h)
  cut_own None h own = refl
  cut_own (Some d) h own = rw (eq-eqb (fiber_of d) f (own d refl)) refl

  cut_other : (o : Option QueueEvent) (h : List QueueEvent) → ((d : QueueEvent) → o ≡ Some d → fiber_of d ≡ f → ⊥)
      → cut f (cons_option o h) ≡ cut f h
  cut_other None h other = refl
  cut_other (Some d) h other = rw (ne_eqb (fiber_of d) f (other d refl)) refl

  -- the history, cut to the fiber, is what its events do
  pub cut_is : (q : ℕ) (ls : List Occurrence) → cut f (history_in q ls) ≡ queue_events q f (events_of (own ls))
  cut_is q [] = refl
  cut_is q (x ∷ ls) = by_test (x.fiber == f) refl (cut_is q ls)
    where
      by_test : (b : Bool) → (x.fiber == f) ≡ b → cut f (history_in q ls) ≡ queue_events q f (events_of (own ls))
          → cut f (cons_option (queue_event q x.fiber x.event) (history_in q ls)) ≡ queue_events q f (events_of (if b then x ∷ own ls else own ls))
      by_test true is rest =
          let here : x.fiber ≡ f = eqb-true x.fiber f is in
          cut_own (queue_event q x.fiber x.event) (history_in q ls) (λ d e. same_fiber q x.fiber x.event d e ∙ here)
          ∙ ap (λ (g : ℕ). cons_option (queue_event q g x.event) (cut f (history_in q ls))) here
          ∙ ap (cons_option (queue_event q f x.event)) rest
      by_test false is rest =
          cut_other (queue_event q x.fiber x.event) (history_in q ls)
          (λ d e same. eqb-false x.fiber f is (sym (same_fiber q x.fiber x.event d e) ∙ same))
          ∙ rest

  -- a fiber's events stand in a list, in their order
  pub record Stand (ls : List Occurrence) (es : List Event) (at : ℕ → ℕ) : Type 0 where
    pub each : (i : ℕ) (e : Event) → slice_get es i ≡ Some e → (x : Occurrence) × (slice_get ls (at i) ≡ Some x) × (x.fiber ≡ f) × (x.event ≡ e)
    pub rise : (i j : ℕ) → i < j → j < length es → at i < at j

  empty_is : {X : Type 0} (xs : List X) → length xs ≤ 0 → xs ≡ []
  empty_is [] le = refl
  empty_is (x ∷ xs) le = absurd (omega arith)

  -- then the fiber has no fewer there, and if it has no more, they are these
  pub record Are (ls : List Occurrence) (es : List Event) : Type 0 where
    pub no_fewer : length es ≤ length (own ls)
    pub same : length (own ls) ≤ length es → events_of (own ls) ≡ es

  later : (y : Occurrence) (ls : List Occurrence) (n : ℕ) (x : Occurrence) → 0 < n → slice_get (y ∷ ls) n ≡ Some x → slice_get ls (n - 1) ≡ Some x
  later y ls n x lt at = let is : n ≡ suc (n - 1) = omega arith in ap (slice_get (y ∷ ls)) (sym is) ∙ at

  -- those of what is left of the list, where the first of it is the first of these events, and where it is not
  pub tail : (y : Occurrence) (ls : List Occurrence) (e : Event) (es : List Event) (at : ℕ → ℕ) → Stand (y ∷ ls) (e ∷ es) at → at 0 ≡ 0
      → Stand ls es (λ i. at (suc i) - 1)
  tail y ls e es at stand here = record {
    each = λ i d is.
        let x = stand.each (suc i) d is in
        let within = slice_get_within es i d is in
        let lt = stand.rise 0 (suc i) (omega arith) (omega arith) in
        (x.0, later y ls (at (suc i)) x.0 (omega arith) x.1, x.2, x.3);
    rise = λ i j lt within.
        let a = stand.rise 0 (suc i) (omega arith) (omega arith) in
        let b = stand.rise (suc i) (suc j) (omega arith) (omega arith) in
        omega arith;
  }

  pub above : (ls : List Occurrence) (e : Event) (es : List Event) (at : ℕ → ℕ) → Stand ls (e ∷ es) at → (i : ℕ) → i < suc (length es)
      → (at 0 ≡ 0 → ⊥) → 0 < at i
  above ls e es at stand zero lt past = let ne : at 0 ≡ 0 → ⊥ = past in omega arith
  above ls e es at stand (suc i) lt past = let a = stand.rise 0 (suc i) (omega arith) (omega arith) in omega arith

  pub whole : (y : Occurrence) (ls : List Occurrence) (e : Event) (es : List Event) (at : ℕ → ℕ) → Stand (y ∷ ls) (e ∷ es) at → (at 0 ≡ 0 → ⊥)
      → Stand ls (e ∷ es) (λ i. at i - 1)
  whole y ls e es at stand past = record {
    each = λ i d is.
        let x = stand.each i d is in
        let within = slice_get_within (e ∷ es) i d is in
        (x.0, later y ls (at i) x.0 (above (y ∷ ls) e es at stand i within past) x.1, x.2, x.3);
    rise = λ i j lt within.
        let a = stand.rise i j lt within in
        let b = above (y ∷ ls) e es at stand i (omega arith) past in
        omega arith;
  }

  pub are : (ls : List Occurrence) (es : List Event) (at : ℕ → ℕ) → Stand ls es at → Are ls es
  are [] [] at stand = record { no_fewer = omega arith; same = λ le. refl }
  are [] (e ∷ es) at stand = let x = stand.each 0 e refl in absurd (none-some x.0 x.1)
  are (y ∷ ls) [] at stand = record { no_fewer = omega arith; same = λ le. ap events_of (empty_is (own (y ∷ ls)) le) }
  are (y ∷ ls) (e ∷ es) at stand =
      by_first (cases_eq (at 0) 0) (λ here. are ls es (λ i. at (suc i) - 1) (tail y ls e es at stand here))
      (λ past. are ls (e ∷ es) (λ i. at i - 1) (whole y ls e es at stand past))
    where
      by_test : (b : Bool) → Are ls (e ∷ es) → (length (e ∷ es) ≤ length (if b then y ∷ own ls else own ls))
          × (length (if b then y ∷ own ls else own ls) ≤ length (e ∷ es) → events_of (if b then y ∷ own ls else own ls) ≡ e ∷ es)
      by_test true rest = let few = rest.no_fewer in (omega arith, λ le. absurd (omega arith))
      by_test false rest = (rest.no_fewer, rest.same)

      by_here : (b : Bool) → b ≡ true → y.event ≡ e → Are ls es → (length (e ∷ es) ≤ length (if b then y ∷ own ls else own ls))
          × (length (if b then y ∷ own ls else own ls) ≤ length (e ∷ es) → events_of (if b then y ∷ own ls else own ls) ≡ e ∷ es)
      by_here false is same rest = absurd (true≢false (sym is))
      by_here true is same rest =
          let few = rest.no_fewer in
          (omega arith, λ le. let all : events_of (own ls) ≡ es = rest.same (omega arith) in cc)

      by_first : (at 0 ≡ 0) ⊎ (at 0 ≡ 0 → ⊥) → (at 0 ≡ 0 → Are ls es) → ((at 0 ≡ 0 → ⊥) → Are ls (e ∷ es)) → Are (y ∷ ls) (e ∷ es)
      by_first (inl here) tails wholes =
          let x = stand.each 0 e refl in
          let is : y ≡ x.0 = same_Some y x.0 (ap (slice_get (y ∷ ls)) (sym here) ∙ x.1) in
          let own_is : y.fiber ≡ f = ap (λ (z : Occurrence). z.fiber) is ∙ x.2 in
          let p = by_here (y.fiber == f) (eq-eqb y.fiber f own_is) (ap (λ (z : Occurrence). z.event) is ∙ x.3) (tails here) in
          record { no_fewer = p.0; same = p.1 }
      by_first (inr past) tails wholes = let p = by_test (y.fiber == f) (wholes past) in record { no_fewer = p.0; same = p.1 }

  none_from : (g i : ℕ) (es : List Event) (ns : List ℕ) → (g ≡ f → ⊥) → own (occurrences_from g i es ns) ≡ []
  none_from g i [] ns other = refl
  none_from g i (e ∷ es) [] other = refl
  none_from g i (e ∷ es) (n ∷ ns) other = rw (ne_eqb g f other) (none_from g (suc i) es ns other)

  one_more_at : (b : Bool) (x : Occurrence) (rest : List Occurrence) (n : ℕ) → length rest ≤ n → length (if b then x ∷ rest else rest) ≤ suc n
  one_more_at true x rest n le = omega arith
  one_more_at false x rest n le = omega arith

  no_more_from : (g i : ℕ) (es : List Event) (ns : List ℕ) → length (own (occurrences_from g i es ns)) ≤ length es
  no_more_from g i [] ns = omega arith
  no_more_from g i (e ∷ es) [] = omega arith
  no_more_from g i (e ∷ es) (n ∷ ns) =
      one_more_at (g == f) (record { fiber = g; place = i; event = e; stamp = n }) (own (occurrences_from g (suc i) es ns)) (length es)
      (no_more_from g (suc i) es ns)

  abbrev ids : List FiberReportView → List ℕ
  ids fs = map (λ (x : FiberReportView). x.id) fs

  abbrev all_of : List FiberReportView → List Occurrence
  all_of fs = flat_map occurrences_of fs

  own_all : (x : FiberReportView) (fs : List FiberReportView) → length (own (all_of (x ∷ fs))) ≡ length (own (occurrences_of x)) + length (own (all_of fs))
  own_all x fs =
      ap length (filter-append is_own (occurrences_of x) (all_of fs)) ∙ length-append (own (occurrences_of x)) (own (all_of fs))

  none_of : (fs : List FiberReportView) → ((j : ℕ) → j < length (ids fs) → slice_index_or (ids fs) j 0 ≡ f → ⊥) → length (own (all_of fs)) ≡ 0
  none_of [] others = refl
  none_of (x ∷ fs) others =
      let here = own_all x fs in
      let none : length (own (occurrences_of x)) ≡ 0 = ap length (none_from x.id 0 x.trace x.stamps (others 0 (omega arith))) in
      let rest = none_of fs (λ j lt. others (suc j) (omega arith)) in
      omega arith

  -- the fibers of a report whose numbers rise: those of this number have no more events than the first
  no_more : (fs : List FiberReportView) → AllPairs (λ (a b : ℕ). a < b) (ids fs) → (o : Option FiberReportView)
      → find (λ (x : FiberReportView). x.id == f) fs ≡ o → length (own (all_of fs)) ≤ length (trace_of_report o)
  no_more [] rise o is = omega arith
  no_more (x ∷ fs) rise o is = by_test (x.id == f) refl (no_more fs (λ i j d lt within. rise (suc i) (suc j) d (omega arith) (omega arith)))
    where
      by_test : (b : Bool) → (x.id == f) ≡ b
          → ((p : Option FiberReportView) → find (λ (y : FiberReportView). y.id == f) fs ≡ p → length (own (all_of fs)) ≤ length (trace_of_report p))
          → length (own (all_of (x ∷ fs))) ≤ length (trace_of_report o)
      by_test true same rest =
          let here = own_all x fs in
          let one = no_more_from x.id 0 x.trace x.stamps in
          let number : x.id ≡ f = eqb-true x.id f same in
          let none = none_of fs (λ j lt e. let up = rise 0 (suc j) 0 (omega arith) (omega arith) in omega arith) in
          let first : Some x ≡ o = rw same at is in
          let all : length (own (all_of (x ∷ fs))) ≤ length x.trace = omega arith in
          subst (λ (p : Option FiberReportView). length (own (all_of (x ∷ fs))) ≤ length (trace_of_report p)) first all
      by_test false same rest =
          let here = own_all x fs in
          let none : length (own (occurrences_of x)) ≡ 0 = ap length (none_from x.id 0 x.trace x.stamps (eqb-false x.id f same)) in
          let later = rest o (rw same at is) in
          omega arith

  -- the fiber's events stand in the list at their moments
  pub stands : (r : ReportView) (list : List Occurrence) (keeps : KeepsOrder r list) → Stand list (trace_in r f) (keeps.moment f)
  stands r list keeps = record {
    each = λ i e is.
        (record { fiber = f; place = i; event = e; stamp = stamp_in r f i }, keeps.stands f i e is, refl, refl);
    rise = λ i j lt within. keeps.rises f i j lt within;
  }

  -- the fiber's events in the list of all are its trace
  pub own_events : (s : ScriptView) (may : ℕ → Bool) (r : ReportView) (lawful : IsLawfulReport s may r) (list : List Occurrence)
      → KeepsOrder r list → events_of (own list) ≡ trace_in r f
  own_events s may r lawful list keeps =
      let few = no_more r.fibers (AllPairs-from_increasing (ids r.fibers) lawful.starters.ascending) (fiber_in r f) refl in
      let as_many : length (own list) ≡ length (own (occurrences r)) =
      length-filter is_own list ∙ sum_by-IsPermutation (λ (x : Occurrence). if is_own x then 1 else 0) (occurrences r) list keeps.each_once
      ∙ sym (length-filter is_own (occurrences r)) in
      (are list (trace_in r f) (keeps.moment f) (stands r list keeps)).same (omega arith)

-- the history of the list is one by which the report is lawful
pub has_history : (s : ScriptView) (may : ℕ → Bool) (r : ReportView) (lawful : IsLawfulReport s may r) (list : List Occurrence) (q : ℕ)
    → KeepsOrder r list → IsHistory s.capacities r list q
    → (h : HasHistory r q (capacity_of s q)) × (h.history ≡ history_in q list)
has_history s may r lawful list q keeps history = (
  record {
    history = history_in q list;
    leaves = history;
    cuts = λ f. cut_is f q list ∙ ap (queue_events q f) (own_events f s may r lawful list keeps);
  },
  refl,
)
