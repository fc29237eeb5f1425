-- In a report a get stands on the put whose element it took by the history of the list.
use Rattle.std.proofs.Common.{◌≡◌, ℕ, zero, suc, ◌-◌, ◌<◌, ◌≤◌, Bool, true, false, Some, List, [], ◌∷◌, ◌++◌, length, take, drop, refl, sym, ◌∙◌}
use Rattle.std.proofs.Common.{ap, arith, inl, inr}
use Rattle.std.specs.Prelude.{◌==◌, map, slice_get, if◌then◌else◌, option_map}
use Rattle.std.specs.List.{filter}
use Rattle.std.proofs.lemmas.Bool.{cases_eq, eq-eqb, ne_eqb}
use Rattle.std.proofs.lemmas.List.{length-map, map-append, take-append-drop}
use Rattle.std.proofs.lemmas.List.Elements.{filter-append}
use Rattle.std.proofs.lemmas.Option.{none-some, same_Some, slice_get_within, slice_get_cases}
use Rattle.std.proofs.Math.Seq.{take-append_seam}
use Rattle.fx_term.specs.declared.event.Event.{Event}
use Rattle.fx_term.specs.declared.event.Event.TheVariants as event
use Rattle.fx_term.specs.declared.queue_event.QueueEvent.TheVariants.{Put, Got}
use Rattle.fx_term.specs.Element.{Element}
use Rattle.fx_term.specs.Queue.{Taking, QueueState, items_of, next_item, queue_events, replayed, values_put}
use Rattle.fx_term.specs.Script.{ScriptView}
use Rattle.fx_term.proofs.QueueLaws.{elements_are_offers, length-numbered}
use Rattle.fx_model.specs.Causes.{TakesWhatWasPut, takings_of, taking_of, values_got}
use Rattle.fx_model.specs.LawfulReport.{HasHistory, IsLawfulReport}
use Rattle.fx_model.specs.Report.{ReportView, trace_in}
use Rattle.fx_model.specs.ReportStamps.{stamp_in}
use Rattle.fx_model.proofs.Appended.{still_at, at_seam}
use Rattle.fx_model.proofs.Takes.{takes_counted}
use Rattle.fx_order.specs.declared.occurrence.Occurrence.{Occurrence}
use Rattle.fx_counts.specs.Counted.{IsTakenPut, history_in}
use Rattle.fx_counts.specs.KeepsOrder.{KeepsOrder}
use Rattle.fx_counts.proofs.Histories.{own, Stand, tail, above, whole, are, stands, own_events, cut_is}
use Rattle.fx_counts.proofs.TakenPuts.{IsStepAt, get_step, put_step, first_got, got_at, takes_that, past}

one_down : (y : Occurrence) (ls : List Occurrence) (n : ℕ) → 0 < n → slice_get ls (n - 1) ≡ slice_get (y ∷ ls) n
one_down y ls zero lt = absurd (omega arith)
one_down y ls (suc n) lt = let is : suc n - 1 ≡ n = omega arith in ap (slice_get ls) is

-- the first of the list is the first of these
from_first : (y : Occurrence) (ls own : List Occurrence) (n : ℕ) (at : ℕ → ℕ) → at 0 ≡ 0 → ((i j : ℕ) → i < j → j < suc n → at i < at j)
    → ((i : ℕ) → i < n → slice_get own i ≡ slice_get ls (at (suc i) - 1))
    → (i : ℕ) → i < suc n → slice_get (y ∷ own) i ≡ slice_get (y ∷ ls) (at i)
from_first y ls own n at here rise more zero within = ap (slice_get (y ∷ ls)) (sym here)
from_first y ls own n at here rise more (suc i) within =
    let lt = rise 0 (suc i) (omega arith) (omega arith) in more i (omega arith) ∙ one_down y ls (at (suc i)) (omega arith)

module _ (f : ℕ) where
  -- where the fiber has no more events in the list than these, they are those of their moments
  own_of_moments : (ls : List Occurrence) (es : List Event) (at : ℕ → ℕ) → Stand f ls es at → length (own f ls) ≤ length es
      → (i : ℕ) → i < length es → slice_get (own f ls) i ≡ slice_get ls (at i)
  own_of_moments ls [] at stand few i within = absurd (omega arith)
  own_of_moments [] (e ∷ es) at stand few i within = let x = stand.each 0 e refl in absurd (none-some x.0 x.1)
  own_of_moments (y ∷ ls) (e ∷ es) at stand few i within = elim (cases_eq (at 0) 0) [
    | inl here ↦
        (let x = stand.each 0 e refl in
        let is : y ≡ x.0 = same_Some y x.0 (ap (slice_get (y ∷ ls)) (sym here) ∙ x.1) in
        let own_is : y.fiber ≡ f = ap (λ (z : Occurrence). z.fiber) is ∙ x.2 in
        let fewer = rw (eq-eqb y.fiber f own_is) at few in
        rw (eq-eqb y.fiber f own_is)
        (from_first y ls (own f ls) (length es) at here stand.rise
        (own_of_moments ls es (λ k. at (suc k) - 1) (tail f y ls e es at stand here) (omega arith)) i within))
    | inr past ↦
        (let rest = whole f y ls e es at stand past in
        elim (cases_eq y.fiber f) [
          | inl same ↦
              (let more = (are f ls (e ∷ es) (λ k. at k - 1) rest).no_fewer in
              let fewer = rw (eq-eqb y.fiber f same) at few in
              absurd (omega arith))
          | inr other ↦
              (let fewer = rw (ne_eqb y.fiber f other) at few in
              rw (ne_eqb y.fiber f other)
              (own_of_moments ls (e ∷ es) (λ k. at k - 1) rest fewer i within
              ∙ one_down y ls (at i) (above f (y ∷ ls) e es at stand i within past)))
        ])
  ]

  -- an event of the fiber stands behind its earlier ones
  own_at : (ls : List Occurrence) (k : ℕ) (x : Occurrence) → slice_get ls k ≡ Some x → x.fiber ≡ f
      → slice_get (own f ls) (length (own f (take k ls))) ≡ Some x
  own_at [] k x at is = absurd (none-some x at)
  own_at (y ∷ ls) zero x at is = rw (eq-eqb y.fiber f (ap (λ (z : Occurrence). z.fiber) (same_Some y x at) ∙ is)) at
  own_at (y ∷ ls) (suc k) x at is = by_test (y.fiber == f) (own_at ls k x at is)
    where
      by_test : (b : Bool) → slice_get (own f ls) (length (own f (take k ls))) ≡ Some x
          → slice_get (if b then y ∷ own f ls else own f ls) (length (if b then y ∷ own f (take k ls) else own f (take k ls))) ≡ Some x
      by_test true e = e
      by_test false e = e

abbrev events_of : List Occurrence → List Event
events_of ls = map (λ (x : Occurrence). x.event) ls

module _ (s : ScriptView) (may : ℕ → Bool) (r : ReportView) (lawful : IsLawfulReport s may r) (list : List Occurrence)
    (keeps : KeepsOrder r list) where
  -- event k of the list is that of its place in the trace, and the fiber's events before it in the list are those before it in the trace
  record IsOfTrace (k : ℕ) (x : Occurrence) : Type 0 where
    event : slice_get (trace_in r x.fiber) x.place ≡ Some x.event
    before : events_of (own x.fiber (take k list)) ≡ take x.place (trace_in r x.fiber)

  module _ (k : ℕ) (x : Occurrence) (at : slice_get list k ≡ Some x) where
    abbrev f : ℕ
    f = x.fiber

    abbrev n : ℕ
    n = length (own f (take k list))

    abbrev there : Event → Occurrence
    there e = record { fiber = f; place = n; event = e; stamp = stamp_in r f n }

    event_there : n < length (trace_in r f) → (e : Event) × (slice_get (trace_in r f) n ≡ Some e)
    event_there lt = elim ((slice_get_cases (trace_in r f) n).1) [ inl h ↦ (h.0, h.2) | inr h ↦ absurd (let le = h.0 in omega arith) ]

    of_trace : IsOfTrace k x
    of_trace =
        let trace_is = own_events f s may r lawful list keeps in
        let as_many : length (own f list) ≡ length (trace_in r f) = sym (length-map (own f list) (λ (y : Occurrence). y.event)) ∙ ap length trace_is in
        let here = own_at f list k x at refl in
        let within = slice_get_within (own f list) n x here in
        let found = event_there (omega arith) in
        let moment =
        own_of_moments f list (trace_in r f) (keeps.moment f) (stands f r list keeps) (omega arith) n (omega arith) in
        let same : x ≡ there found.0 = same_Some x (there found.0) (sym here ∙ moment ∙ keeps.stands f n found.0 found.1) in
        let place : x.place ≡ n = ap (λ (y : Occurrence). y.place) same in
        let event : x.event ≡ found.0 = ap (λ (y : Occurrence). y.event) same in
        let long : length (events_of (own f (take k list))) ≡ n = length-map (own f (take k list)) (λ (y : Occurrence). y.event) in
        let parts : trace_in r f ≡ events_of (own f (take k list)) ++ events_of (own f (drop k list)) =
        sym trace_is ∙ ap (λ (l : List Occurrence). events_of (own f l)) (sym (take-append-drop k list))
        ∙ ap events_of (filter-append (λ (y : Occurrence). y.fiber == f) (take k list) (drop k list))
        ∙ map-append (λ (y : Occurrence). y.event) (own f (take k list)) (own f (drop k list)) in
        record {
          event = ap (slice_get (trace_in r f)) place ∙ found.1 ∙ ap Some (sym event);
          before = sym (ap (λ (i : ℕ). take i (trace_in r f)) place ∙ ap (take n) parts
              ∙ ap (λ (i : ℕ). take i (events_of (own f (take k list)) ++ events_of (own f (drop k list)))) (sym long)
              ∙ take-append_seam (events_of (own f (take k list))) (events_of (own f (drop k list))));
        }

  -- where the list has that history of the queue, by which the report is lawful
  module _ (q c : ℕ) (h : HasHistory r q c) (is : h.history ≡ history_in q list) (k j : ℕ) (x y : Occurrence)
      (at_get : slice_get list k ≡ Some x) (at_put : slice_get list j ≡ Some y) (taken : IsTakenPut q list k j) where
    abbrev last : QueueState
    last = h.leaves.last

    abbrev taker : ℕ
    taker = x.fiber

    abbrev putter : ℕ
    putter = y.fiber

    abbrev v : ℕ
    v = taken.value

    legal : replayed c (history_in q list) ≡ Some last
    legal = ap (replayed c) (sym is) ∙ h.leaves.legal

    got : x.event ≡ event.Got q v
    got = same_Some x.event (event.Got q v) (sym (ap (option_map (λ (z : Occurrence). z.event)) at_get) ∙ taken.got)

    put : y.event ≡ event.Put q v
    put = same_Some y.event (event.Put q v) (sym (ap (option_map (λ (z : Occurrence). z.event)) at_put) ∙ taken.put)

    get_is : IsStepAt c q list last legal k (Got taker v)
    get_is = get_step c q list last legal k v x at_get got

    put_is : IsStepAt c q list last legal j (Put putter v)
    put_is = put_step c q list last legal j v y at_put put

    abbrev front : Element
    front = (got_at c q list last legal k taker v get_is).front

    same : next_item put_is.state putter v ≡ front
    same = takes_that c q list last legal k taker v j putter v get_is put_is taken.nth

    abbrev taking : Taking
    taking = record { taker = taker; item = front }

    abbrev next : QueueState
    next = (first_got c q list last legal k taker v get_is).next

    takes_one_more : takings_of taker next ≡ takings_of taker get_is.state ++ taking ∷ []
    takes_one_more =
        ap (takings_of taker) (sym (got_at c q list last legal k taker v get_is).after)
        ∙ filter-append (λ (t : Taking). t.taker == taker) get_is.state.taken (taking ∷ [])
        ∙ ap (λ (ts : List Taking). takings_of taker get_is.state ++ ts) (rw (eq-eqb taker taker refl) refl)

    as_many_taken : length (takings_of taker get_is.state) ≡ length (values_got q (take x.place (trace_in r taker)))
    as_many_taken =
        takes_counted c q taker (history_in q (take k list)) get_is.state (take x.place (trace_in r taker)) get_is.so_far
        (cut_is taker q (take k list) ∙ ap (queue_events q taker) (of_trace k x at_get).before)

    as_many_put : length (items_of putter put_is.state.put) ≡ length (values_put q (take y.place (trace_in r putter)))
    as_many_put =
        ap length (elements_are_offers c q putter (history_in q (take j list)) put_is.state (take y.place (trace_in r putter)) put_is.so_far
        (cut_is putter q (take j list) ∙ ap (queue_events q putter) (of_trace j y at_put).before))
        ∙ length-numbered putter 0 (values_put q (take y.place (trace_in r putter)))

    taken_so : taking_of last taker (length (values_got q (take x.place (trace_in r taker)))) ≡ Some taking
    taken_so =
        let first = first_got c q list last legal k taker v get_is in
        let on = past c next (history_in q (drop (suc k) list)) last first.rest in
        let place = length (takings_of taker get_is.state) in
        let all : takings_of taker last ≡ (takings_of taker get_is.state ++ taking ∷ []) ++ filter (λ (t : Taking). t.taker == taker) on.more_taken =
        ap (λ (ts : List Taking). filter (λ (t : Taking). t.taker == taker) ts) on.taken
        ∙ filter-append (λ (t : Taking). t.taker == taker) next.taken on.more_taken
        ∙ ap (λ (ts : List Taking). ts ++ filter (λ (t : Taking). t.taker == taker) on.more_taken) takes_one_more in
        ap (slice_get (takings_of taker last)) (sym as_many_taken) ∙ ap (λ (ts : List Taking). slice_get ts place) all
        ∙ still_at (takings_of taker get_is.state ++ taking ∷ []) (filter (λ (t : Taking). t.taker == taker) on.more_taken) place taking
        (at_seam (takings_of taker get_is.state) taking)

    pub takes_what_was_put : (IsLeft : ℕ → QueueState → Type 0) → IsLeft q last → TakesWhatWasPut (trace_in r) IsLeft taker x.place putter y.place
    takes_what_was_put IsLeft left = record {
      queue = q;
      value = v;
      got = (of_trace k x at_get).event ∙ ap Some got;
      state = last;
      left = left;
      taking = taking;
      taken = taken_so;
      fiber = ap (λ (z : Element). z.fiber) (sym same);
      of_value = ap (λ (z : Element). z.value) (sym same);
      put = (of_trace j y at_put).event ∙ ap Some put;
      nth = sym as_many_put ∙ ap (λ (z : Element). z.nth) same;
    }
