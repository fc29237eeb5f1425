-- What is told of event i of a fiber, where the events of a run are told fiber by fiber.
use Rattle.std.proofs.Common.{◌≡◌, ℕ, zero, suc, ◌-◌, ◌<◌, Option, Some, None, List, [], ◌∷◌, ◌++◌, refl, sym, ◌∙◌, ap, arith, inl, inr, drop}
use Rattle.std.proofs.Common.{append_assoc}
use Rattle.std.specs.Prelude.{◌==◌, if◌then◌else◌, slice_get, slice_index_or, option_map}
use Rattle.std.specs.List.{find}
use Rattle.std.proofs.lemmas.Bool.{cases_eq, eq-eqb, ne_eqb}
use Rattle.std.proofs.lemmas.Option.{none-some}
use Rattle.fx_term.specs.declared.event.Event.{Event}
use Rattle.fx_model.specs.Report.{FiberReportView, trace_of_report}
use Rattle.fx_report.proofs.Keys.{RisesFrom}
use Rattle.fx_order.specs.declared.occurrence.Occurrence.{Occurrence}
use Rattle.fx_counts.specs.declared.at_queue.AtQueue.{AtQueue}
use Rattle.fx_follow.specs.declared.stand.Stand.{Stand}
use Rattle.fx_run_events.specs.declared.ran_event.RanEvent.{RanEvent}
use Rattle.fx_run_events.specs.declared.sole_puts.PutAt.{PutAt}
use Rattle.fx_run_events.specs.RanEvents.{counts_of, event_of, events_of, events_in_turn, event_told}

abbrev pub fiber_of : ℕ → List FiberReportView → Option FiberReportView
fiber_of f fibers = find (λ (x : FiberReportView). x.id == f) fibers

-- where fiber f stood, by what is told of all these fibers
abbrev pub stands_for : List (List Stand) → List FiberReportView → ℕ → List Stand
stands_for told [] f = []
stands_for told (x ∷ fibers) f = if x.id == f then slice_index_or told 0 [] else stands_for (drop 1 told) fibers f

after_first : (stands : List Stand) (i : ℕ) → slice_get (drop 1 stands) i ≡ slice_get stands (suc i)
after_first [] i = refl
after_first (stand ∷ stands) i = refl

pub after_first_count : (counts : List (Option AtQueue)) (i : ℕ) → slice_index_or (drop 1 counts) i None ≡ slice_index_or counts (suc i) None
after_first_count [] i = refl
after_first_count (count ∷ counts) i = refl

absent : (f n : ℕ) (fibers : List FiberReportView) → RisesFrom (λ (x : FiberReportView). x.id) n fibers → f < n → fiber_of f fibers ≡ None
absent f n [] rises below = refl
absent f n (x ∷ fibers) rises below =
    let low = rises.0 in rw (ne_eqb x.id f (λ same. omega arith)) (absent f (suc x.id) fibers rises.1 (omega arith))

module _ (puts : List PutAt) (list : List Occurrence) (whole : List FiberReportView) (f : ℕ) where
  -- an event of the fiber, of which the ith of these are told
  abbrev pub told_with : List Stand → List (Option AtQueue) → ℕ → Event → RanEvent
  told_with stands counts i e = event_of puts list whole f (slice_get stands i) (slice_index_or counts i None) e

  abbrev own : ℕ → List Stand → List (Option AtQueue) → List Event → List RanEvent
  own g stands counts es = events_of puts list whole g stands counts es

  past_other : (g : ℕ) (stands : List Stand) (counts : List (Option AtQueue)) (es : List Event) (rest : List RanEvent) (i : ℕ) → (g ≡ f → ⊥)
      → event_told (own g stands counts es ++ rest) f i ≡ event_told rest f i
  past_other g stands counts [] rest i other = refl
  past_other g stands counts (e ∷ es) rest i other = rw (ne_eqb g f other) (past_other g (drop 1 stands) (drop 1 counts) es rest i other)

  one_later : (stands : List Stand) (counts : List (Option AtQueue)) (i : ℕ) (o : Option Event)
      → option_map (told_with (drop 1 stands) (drop 1 counts) i) o ≡ option_map (told_with stands counts (suc i)) o
  one_later stands counts i None = refl
  one_later stands counts i (Some e) = rw (after_first stands i, after_first_count counts i) refl

  own_event : (g : ℕ) (stands : List Stand) (counts : List (Option AtQueue)) (es : List Event) (rest : List RanEvent) → g ≡ f
      → ((k : ℕ) → event_told rest f k ≡ None) → (i : ℕ)
      → event_told (own g stands counts es ++ rest) f i ≡ option_map (told_with stands counts i) (slice_get es i)
  own_event g stands counts [] rest same none i = none i
  own_event g stands counts (e ∷ es) rest same none zero =
      rw (eq-eqb g f same) (ap (λ (h : ℕ). Some (event_of puts list whole h (slice_get stands 0) (slice_index_or counts 0 None) e)) same)
  own_event g stands counts (e ∷ es) rest same none (suc i) =
      let less : suc i - 1 ≡ i = omega arith in
      rw (eq-eqb g f same, ne_eqb (suc i) 0 (λ is. absurd (omega arith)), less)
      (own_event g (drop 1 stands) (drop 1 counts) es rest same none i ∙ one_later stands counts i (slice_get es i))

  abbrev first_of : List (List Stand) → List (Option AtQueue) → FiberReportView → List RanEvent
  first_of told counts x = own x.id (slice_index_or told 0 []) (counts_of x.id list counts) x.trace

  none_told : (told : List (List Stand)) (counts : List (Option AtQueue)) (fibers : List FiberReportView) → fiber_of f fibers ≡ None → (i : ℕ)
      → event_told (events_in_turn puts list whole told counts fibers) f i ≡ None
  none_told told counts [] none i = refl
  none_told told counts (x ∷ fibers) none i = elim (cases_eq x.id f) [
    | inl same ↦ absurd (none-some x (sym (rw (eq-eqb x.id f same) at none)))
    | inr other ↦
        past_other x.id (slice_index_or told 0 []) (counts_of x.id list counts) x.trace (events_in_turn puts list whole (drop 1 told) counts fibers) i other
        ∙ none_told (drop 1 told) counts fibers (rw (ne_eqb x.id f other) at none) i
  ]

  pub told_at : (n : ℕ) (told : List (List Stand)) (counts : List (Option AtQueue)) (fibers : List FiberReportView)
      → RisesFrom (λ (x : FiberReportView). x.id) n fibers → (i : ℕ)
      → event_told (events_in_turn puts list whole told counts fibers) f i
      ≡ option_map (told_with (stands_for told fibers f) (counts_of f list counts) i) (slice_get (trace_of_report (fiber_of f fibers)) i)
  told_at n told counts [] rises i = refl
  told_at n told counts (x ∷ fibers) rises i = elim (cases_eq x.id f) [
    | inl same ↦ rw (eq-eqb x.id f same)
        (own_event x.id (slice_index_or told 0 []) (counts_of x.id list counts) x.trace (events_in_turn puts list whole (drop 1 told) counts fibers) same
        (none_told (drop 1 told) counts fibers (absent f (suc x.id) fibers rises.1 (omega arith))) i
        ∙ ap (λ (g : ℕ). option_map (told_with (slice_index_or told 0 []) (counts_of g list counts) i) (slice_get x.trace i)) same)
    | inr other ↦ rw (ne_eqb x.id f other)
        (past_other x.id (slice_index_or told 0 []) (counts_of x.id list counts) x.trace (events_in_turn puts list whole (drop 1 told) counts fibers) i other
        ∙ told_at (suc x.id) (drop 1 told) counts fibers rises.1 i)
  ]

-- one fiber more
pub one_more : (puts : List PutAt) (list : List Occurrence) (whole : List FiberReportView) (told told' : List (List Stand))
    (counts : List (Option AtQueue)) (rest more : List FiberReportView) (x : FiberReportView) (done done' all : List RanEvent) → rest ≡ x ∷ more
    → told' ≡ drop 1 told
    → done' ≡ done ++ events_of puts list whole x.id (slice_index_or told 0 []) (counts_of x.id list counts) x.trace
    → done ++ events_in_turn puts list whole told counts rest ≡ all → done' ++ events_in_turn puts list whole told' counts more ≡ all
one_more puts list whole told told' counts rest more x done done' all is less one h = rw (one, less) (append_assoc done _ _ ∙ (rw is at h))
