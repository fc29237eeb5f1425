-- What is told at its queue of event i of a fiber is what is told of that event in the list of all.
use Rattle.std.proofs.Common.{◌≡◌, ℕ, zero, suc, ◌-◌, ◌<◌, ◌≤◌, Bool, Option, Some, None, List, [], ◌∷◌, length, refl, sym, ◌∙◌, ap, arith, drop, inl, inr}
use Rattle.std.specs.Prelude.{slice_get, slice_index_or}
use Rattle.std.proofs.lemmas.Bool.{cases_eq, eq-eqb, ne_eqb}
use Rattle.std.proofs.lemmas.List.{length-map}
use Rattle.std.proofs.lemmas.Option.{none-some, same_Some, slice_get_within}
use Rattle.fx_term.specs.declared.event.Event.{Event}
use Rattle.fx_term.specs.Script.{ScriptView}
use Rattle.fx_model.specs.LawfulReport.{IsLawfulReport}
use Rattle.fx_model.specs.Report.{ReportView, trace_in}
use Rattle.fx_order.specs.declared.occurrence.Occurrence.{Occurrence}
use Rattle.fx_counts.specs.declared.at_queue.AtQueue.{AtQueue}
use Rattle.fx_counts.specs.KeepsOrder.{KeepsOrder}
use Rattle.fx_counts.proofs.Histories.{own, Stand, tail, above, whole, are, stands, own_events}
use Rattle.fx_run_events.specs.RanEvents.{first_count, counts_of}
use Rattle.fx_run_events.proofs.RanEvents.{after_first_count}

one_down : (counts : List (Option AtQueue)) (n : ℕ) → 0 < n → slice_index_or (drop 1 counts) (n - 1) None ≡ slice_index_or counts n None
one_down counts zero lt = absurd (omega arith)
one_down counts (suc n) lt = let is : suc n - 1 ≡ n = omega arith in rw is (after_first_count counts n)

module _ (f : ℕ) where
  -- the first of the list is the first event of the fiber
  from_first : (counts own : List (Option AtQueue)) (es : List Event) (at : ℕ → ℕ) → at 0 ≡ 0
      → ((i j : ℕ) → i < j → j < suc (length es) → at i < at j)
      → ((i : ℕ) → i < length es → slice_index_or own i None ≡ slice_index_or (drop 1 counts) (at (suc i) - 1) None)
      → (i : ℕ) → i < suc (length es) → slice_index_or (first_count counts ∷ own) i None ≡ slice_index_or counts (at i) None
  from_first counts own es at here rise more zero within = ap (λ (k : ℕ). slice_index_or counts k None) (sym here)
  from_first counts own es at here rise more (suc i) within =
      let lt = rise 0 (suc i) (omega arith) (omega arith) in more i (omega arith) ∙ one_down counts (at (suc i)) (omega arith)

  -- where the fiber has no more events in the list than these, its counts are those of these, in this order
  pub counts_at : (ls : List Occurrence) (counts : List (Option AtQueue)) (es : List Event) (at : ℕ → ℕ) → Stand f ls es at → length (own f ls) ≤ length es
      → (i : ℕ) → i < length es → slice_index_or (counts_of f ls counts) i None ≡ slice_index_or counts (at i) None
  counts_at ls counts [] at stand few i within = absurd (omega arith)
  counts_at [] counts (e ∷ es) at stand few i within = let x = stand.each 0 e refl in absurd (none-some x.0 x.1)
  counts_at (y ∷ ls) counts (e ∷ es) at stand few i within = elim (cases_eq (at 0) 0) [
    | inl here ↦
        (let x = stand.each 0 e refl in
        let is : y ≡ x.0 = same_Some y x.0 (ap (slice_get (y ∷ ls)) (sym here) ∙ x.1) in
        let own_is : y.fiber ≡ f = ap (λ (z : Occurrence). z.fiber) is ∙ x.2 in
        let fewer = rw (eq-eqb y.fiber f own_is) at few in
        rw (eq-eqb y.fiber f own_is)
        (from_first counts (counts_of f ls (drop 1 counts)) es at here stand.rise
        (counts_at ls (drop 1 counts) es (λ k. at (suc k) - 1) (tail f y ls e es at stand here) (omega arith)) i within))
    | inr past ↦
        (let rest = whole f y ls e es at stand past in
        elim (cases_eq y.fiber f) [
          | inl same ↦
              (let more = (are f ls (e ∷ es) (λ k. at k - 1) rest).no_fewer in
              let fewer = rw (eq-eqb y.fiber f same) at few in
              absurd (omega arith))
          | inr other ↦
              (let fewer = rw (ne_eqb y.fiber f other) at few in
              rw (ne_eqb y.fiber f other)
              (counts_at ls (drop 1 counts) (e ∷ es) (λ k. at k - 1) rest fewer i within
              ∙ one_down counts (at i) (above f (y ∷ ls) e es at stand i within past)))
        ])
  ]

-- at its moment in the list
pub told_in_list : (s : ScriptView) (may : ℕ → Bool) (r : ReportView) (lawful : IsLawfulReport s may r) (list : List Occurrence)
    (counts : List (Option AtQueue)) (keeps : KeepsOrder r list) (f i : ℕ) (e : Event)
    → slice_get (trace_in r f) i ≡ Some e
    → slice_index_or (counts_of f list counts) i None ≡ slice_index_or counts (keeps.moment f i) None
told_in_list s may r lawful list counts keeps f i e at =
    let same : length (own f list) ≡ length (trace_in r f) =
    sym (length-map _ _) ∙ ap length (own_events f s may r lawful list keeps) in
    counts_at f list counts (trace_in r f) (keeps.moment f) (stands f r list keeps) (omega arith) i (slice_get_within (trace_in r f) i e at)

-- what is told there is one of the list of what is told
pub told_is_there : {A : Type 0} (xs : List (Option A)) (k : ℕ) (x : A) → slice_index_or xs k None ≡ Some x → slice_get xs k ≡ Some (Some x)
told_is_there [] k x is = absurd (none-some x is)
told_is_there (y ∷ xs) zero x is = ap Some is
told_is_there (y ∷ xs) (suc k) x is = told_is_there xs k x is

pub is_told_there : {A : Type 0} (xs : List (Option A)) (k : ℕ) (x : A) → slice_get xs k ≡ Some (Some x) → slice_index_or xs k None ≡ Some x
is_told_there [] k x is = absurd (none-some (Some x) is)
is_told_there (y ∷ xs) zero x is = same_Some y (Some x) is
is_told_there (y ∷ xs) (suc k) x is = is_told_there xs k x is
