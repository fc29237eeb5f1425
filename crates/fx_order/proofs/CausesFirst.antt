-- A list of all events of a report, ordered by stamp and then by fiber, has causes first.
use Rattle.std.proofs.Common.{◌≡◌, ℕ, zero, suc, ◌+◌, ◌<◌, ◌≤◌, Bool, true, false, refl, sym, ◌∙◌, ap, ap₂, subst, arith, inl, inr}
use Rattle.std.specs.Prelude.{Option, Some, None, List, [], ◌∷◌, ◌++◌, length, slice_get, ◌==◌, Contains}
use Rattle.std.specs.List.{find, flat_map}
use Rattle.std.specs.List.Sorted.{IsPermutation}
use Rattle.std.proofs.lemmas.Bool.{cases_eq, eqb-true}
use Rattle.std.proofs.lemmas.Option.{none-some, same_Some, slice_get_within, slice_get-get_or, slice_get_cases, get_or_from_slice_get}
use Rattle.std.proofs.lemmas.List.Elements.{Contains-append_left, Contains-append_right}
use Rattle.std.proofs.lemmas.List.Sorted.{Contains-permutation}
use Rattle.fx_term.specs.declared.event.Event.{Event}
use Rattle.fx_term.specs.declared.event.Event.TheVariants as event
use Rattle.fx_term.specs.Script.{ScriptView}
use Rattle.fx_model.specs.Report.{FiberReportView, ReportView, fiber_in, trace_of_report, trace_in}
use Rattle.fx_model.specs.Causes.{IsEvent, IsRequestedBefore}
use Rattle.fx_model.specs.KeptStamps.{number_in}
use Rattle.fx_model.specs.Stamps.{IsBelowTop, IsOrderedByStamps}
use Rattle.fx_model.specs.ReportStamps.{stamps_of_report, stamp_in, IsStampedReport}
use Rattle.fx_order.specs.declared.occurrence.Occurrence.{Occurrence}
use Rattle.fx_order.specs.Occurrences.{occurrences_from, occurrences_of, occurrences, IsInOrder}
use Rattle.fx_order.specs.CausalOrder.{IsCausalOrder}

-- an event of a trace is among the occurrences of that trace, where there is a stamp for each
stands_from : (f i : ℕ) (es : List Event) (ns : List ℕ) → length ns ≡ length es → (k : ℕ) (e : Event) → slice_get es k ≡ Some e → (p : ℕ) → p ≡ i + k
    → (m : ℕ) × (slice_get (occurrences_from f i es ns) m ≡ Some (record { fiber = f; place = p; event = e; stamp = number_in ns k }))
stands_from f i [] ns long k e at p is = absurd (none-some e at)
stands_from f i (x ∷ es) [] long k e at p is = absurd (omega arith)
stands_from f i (x ∷ es) (n ∷ ns) long zero e at p is =
    let place : i ≡ p = omega arith in
    (0, ap₂ (λ (q : ℕ) (z : Event). Some (at_place q z)) place (same_Some x e at))
  where
    at_place : ℕ → Event → Occurrence
    at_place q z = record { fiber = f; place = q; event = z; stamp = n }
stands_from f i (x ∷ es) (n ∷ ns) long (suc k) e at p is =
    let rest = stands_from f (suc i) es ns (omega arith) k e at p (omega arith) in
    (suc rest.0, rest.1)

-- so it is among those of the first of some fibers
stands_first : (y : FiberReportView) (fs : List FiberReportView) (f : ℕ) → y.id ≡ f → length y.stamps ≡ length y.trace → (i : ℕ) (e : Event)
    → slice_get y.trace i ≡ Some e
    → Contains (occurrences_of y ++ flat_map occurrences_of fs) (record { fiber = f; place = i; event = e; stamp = number_in y.stamps i })
stands_first y fs f same long i e at =
    let here = stands_from y.id 0 y.trace y.stamps long i e at i (omega arith) in
    let own : Occurrence = record { fiber = y.id; place = i; event = e; stamp = number_in y.stamps i } in
    let among : Contains (occurrences_of y) own =
    (here.0, slice_get_within (occurrences_of y) here.0 own here.1, get_or_from_slice_get (occurrences_of y) here.0 own own here.1) in
    subst
    (λ (k : ℕ). Contains (occurrences_of y ++ flat_map occurrences_of fs) (record { fiber = k; place = i; event = e; stamp = number_in y.stamps i }))
    same (Contains-append_left (occurrences_of y) (flat_map occurrences_of fs) own among)

-- an event of the fiber of a number is among those of all fibers
stands_among : (fs : List FiberReportView) (f : ℕ) (o : Option FiberReportView) → find (λ (y : FiberReportView). y.id == f) fs ≡ o
    → length (stamps_of_report o) ≡ length (trace_of_report o) → (i : ℕ) (e : Event) → slice_get (trace_of_report o) i ≡ Some e
    → Contains (flat_map occurrences_of fs) (record { fiber = f; place = i; event = e; stamp = number_in (stamps_of_report o) i })
stands_among [] f None is long i e at = absurd (none-some e at)
stands_among [] f (Some x) is long i e at = absurd (none-some x is)
stands_among (y ∷ fs) f None is long i e at = absurd (none-some e at)
stands_among (y ∷ fs) f (Some x) is long i e at = by_test (y.id == f) refl (λ later. stands_among fs f (Some x) later long i e at)
  where
    own : Occurrence
    own = record { fiber = f; place = i; event = e; stamp = number_in x.stamps i }

    by_test : (b : Bool) → (y.id == f) ≡ b
        → (find (λ (z : FiberReportView). z.id == f) fs ≡ Some x → Contains (flat_map occurrences_of fs) own)
        → Contains (occurrences_of y ++ flat_map occurrences_of fs) own
    by_test true found rest =
        let same : y ≡ x = same_Some y x (rw found at is) in
        subst
        (λ (z : FiberReportView). length z.stamps ≡ length z.trace → slice_get z.trace i ≡ Some e
        → Contains (occurrences_of y ++ flat_map occurrences_of fs) (record { fiber = f; place = i; event = e; stamp = number_in z.stamps i }))
        same (λ l a. stands_first y fs f (eqb-true y.id f found) l i e a) long at
    by_test false other rest =
        Contains-append_right (occurrences_of y) (flat_map occurrences_of fs) own (rest (rw other at is))

module _ (s : ScriptView) (may : ℕ → Bool) (r : ReportView) (report : IsStampedReport s may r) (below : IsBelowTop (trace_in r) (stamp_in r))
    (list : List Occurrence) (whole : IsPermutation (occurrences r) list) (ordered : IsInOrder list) where
  abbrev in_list : ℕ → ℕ → Event → Occurrence
  in_list f i e = record { fiber = f; place = i; event = e; stamp = stamp_in r f i }

  -- the place of an event in the list
  placed : (f i : ℕ) (o : Option Event) → slice_get (trace_in r f) i ≡ o
      → (m : ℕ) × ((e : Event) → o ≡ Some e → slice_get list m ≡ Some (in_list f i e))
  placed f i None is = (0, λ e none. absurd (none-some e none))
  placed f i (Some e) is =
      let here = Contains-permutation (occurrences r) list (in_list f i e) whole (stands_among r.fibers f (fiber_in r f) refl (report.one_each f) i e is) in (
        here.0,
        λ x same.
            subst (λ (z : Event). slice_get list here.0 ≡ Some (in_list f i z)) (same_Some e x same)
            (slice_get-get_or list here.0 (in_list f i e) here.1 ∙ ap Some here.2),
      )

  abbrev moment : ℕ → ℕ → ℕ
  moment f i = (placed f i (slice_get (trace_in r f) i) refl).0

  stands : (f i : ℕ) (e : Event) → slice_get (trace_in r f) i ≡ Some e → slice_get list (moment f i) ≡ Some (in_list f i e)
  stands f i e is = (placed f i (slice_get (trace_in r f) i) refl).1 e is

  -- the event at a place that is one
  event_at : (f i : ℕ) → IsEvent (trace_in r) f i → (e : Event) × (slice_get (trace_in r f) i ≡ Some e)
  event_at f i lt = elim ((slice_get_cases (trace_in r f) i).1) [ inl h ↦ (h.0, h.2) | inr h ↦ absurd (let le = h.0 in omega arith) ]

  distinct : (f i g j : ℕ) → IsEvent (trace_in r) f i → IsEvent (trace_in r) g j → moment f i ≡ moment g j → (f ≡ g) × (i ≡ j)
  distinct f i g j lf lg same =
      let a = event_at f i lf in
      let b = event_at g j lg in
      let one = same_Some (in_list f i a.0) (in_list g j b.0) (sym (stands f i a.0 a.1) ∙ ap (slice_get list) same ∙ stands g j b.0 b.1) in
      (ap (λ (x : Occurrence). x.fiber) one, ap (λ (x : Occurrence). x.place) one)

  -- one order by these stamps
  by : IsOrderedByStamps s may r report.stamped.lawful (stamp_in r)
  by = report.stamped.ordered below

  -- what comes first in it is not later in the list
  not_after : (f i g j : ℕ) → IsEvent (trace_in r) f i → IsEvent (trace_in r) g j → by.moment f i < by.moment g j → moment g j < moment f i → ⊥
  not_after f i g j lf lg lt after =
      let a = event_at f i lf in
      let b = event_at g j lg in
      elim (ordered (moment g j) (moment f i) (in_list g j b.0) (in_list f i a.0) after (stands g j b.0 b.1) (stands f i a.0 a.1)) [
        | inl less ↦ (let back = by.by_stamp g j f i lg lf (inl less) in omega arith)
        | inr tie ↦ elim tie.1 [
          | inl less ↦ (let back = by.by_stamp g j f i lg lf (inr (tie.0, less)) in omega arith)
          | inr one ↦ same_fiber one.0 one.1
        ]
      ]
    where
      same_fiber : g ≡ f → j ≤ i → ⊥
      same_fiber same le =
          let own : by.moment g j ≡ by.moment f j = ap (λ (k : ℕ). by.moment k j) same in
          elim (cases_eq j i) [
            | inl here ↦ (let at : by.moment f j ≡ by.moment f i = ap (by.moment f) here in omega arith)
            | inr ne ↦ (
                let apart : j ≡ i → ⊥ = ne in
                let there : IsEvent (trace_in r) f j = subst (λ (k : ℕ). IsEvent (trace_in r) k j) same lg in
                let back = by.in_order.keeps f j i there lf (omega arith) in omega arith
                )
          ]

  comes_first : (f i g j : ℕ) → IsEvent (trace_in r) f i → IsEvent (trace_in r) g j → by.moment f i < by.moment g j → moment f i < moment g j
  comes_first f i g j lf lg lt = elim (cases_eq (moment f i) (moment g j)) [
    | inl same ↦ (
        let one = distinct f i g j lf lg same in
        let at : by.moment f i ≡ by.moment g j = ap₂ by.moment one.0 one.1 in absurd (omega arith)
        )
    | inr ne ↦ (let apart : moment f i ≡ moment g j → ⊥ = ne in let back : moment g j < moment f i → ⊥ = not_after f i g j lf lg lt in omega arith)
  ]

  requested_first : (f i : ℕ) → slice_get (trace_in r f) i ≡ Some event.Seen → (Contains r.outside f → ⊥)
      → IsRequestedBefore (trace_in r) moment f (moment f i)
  requested_first f i seen none =
      let q = by.in_order.requested f i seen none in
      record {
        by = q.by;
        place = q.place;
        request = q.request;
        before =
            comes_first q.by q.place f i (slice_get_within (trace_in r q.by) q.place (event.Request f) q.request)
            (slice_get_within (trace_in r f) i event.Seen seen) q.before;
      }

  pub causal_order : IsCausalOrder s may r report.stamped.lawful list
  causal_order = record {
    moment = moment;
    stands = stands;
    in_order = record {
      distinct = distinct;
      keeps = λ f i j lf lg lt. comes_first f i f j lf lg (by.in_order.keeps f i j lf lg lt);
      needed = λ f i g j lf lg need. comes_first g j f i lg lf (by.in_order.needed f i g j lf lg need);
      requested = requested_first;
    };
  }
