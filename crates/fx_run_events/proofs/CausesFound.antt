-- What is told of a run as the causes of its events is what these stand on.
use Rattle.std.proofs.Common.{◌≡◌, ℕ, suc, Bool, true, Option, Some, None, List, [], ◌∷◌, length, refl, sym, ◌∙◌, ap, subst, arith, inl, inr, ◌⊎◌}
use Rattle.std.specs.Prelude.{MatchOption, is_some, option_and_then, option_map, slice_get, slice_index_or}
use Rattle.std.proofs.lemmas.Bool.{eq-eqb}
use Rattle.std.proofs.lemmas.Option.{none-some, same_Some}
use Rattle.fx_term.specs.declared.event.Event.{Event}
use Rattle.fx_term.specs.declared.event.Event.TheVariants as event
use Rattle.fx_term.specs.declared.node.Node.{Node}
use Rattle.fx_term.specs.declared.queue_event.QueueEvent.{QueueEvent}
use Rattle.fx_term.specs.declared.queue_event.QueueEvent.TheVariants.{Got}
use Rattle.fx_term.specs.Queue.{QueueState, queue_event}
use Rattle.fx_term.specs.Script.{ScriptView}
use Rattle.fx_model.specs.Causes.{TakesWhatWasPut, LearnsOfEnd, Needs, LeavesQueue, taken_element, end_of_other}
use Rattle.fx_model.specs.LawfulReport.{HasHistory, IsLawfulReport}
use Rattle.fx_model.specs.Origin.{Origin, main_origin}
use Rattle.fx_model.specs.Outside.{Outside}
use Rattle.fx_model.specs.Report.{FiberReportView, ReportView, trace_in, final_outside, capacity_of}
use Rattle.fx_model.specs.ReportStamps.{IsStampedReport, stamp_in}
use Rattle.fx_model.specs.Stamps.{IsBelowTop}
use Rattle.fx_model.proofs.CausesFound.{causes_found}
use Rattle.fx_report.proofs.Keys.{rises_from}
use Rattle.fx_counts.specs.KeepsOrder.{KeepsOrder}
use Rattle.fx_order.specs.declared.occurrence.Occurrence.{Occurrence}
use Rattle.fx_counts.specs.declared.at_queue.AtQueue.{AtQueue}
use Rattle.fx_counts.specs.Counted.{IsHistory, AreCounted, history_in, IsPut, IsTakenPut}
use Rattle.fx_counts.proofs.ReportTakes.{takes_what_was_put}
use Rattle.fx_follow.specs.declared.stand.Stand.{Stand}
use Rattle.fx_follow.specs.Followed.{FiberRun, AreEach, HasRunOf, AreFollowed, AreToldBy}
use Rattle.fx_follow.proofs.ToldRuns.{lawful_by_runs_told}
use Rattle.fx_picture.specs.declared.stood.EventAt.{EventAt}
use Rattle.fx_picture.proofs.OneEnd.{last_end}
use Rattle.fx_run_events.specs.Causes.{event_there, taken_put, last_place, last_event, learned_stood, or_else, cause_of}
use Rattle.fx_run_events.specs.CausesTold.{cause_told, TellsCause, IsPutKnown, TellsCausesOfRun}
use Rattle.fx_run_events.specs.Found.{AreFollowedOrNone, followed, not_followed, IsInOwnOrder, AreCountedOrNone, counted, not_counted}
use Rattle.fx_run_events.specs.RanEvents.{counts_of, ran_events, event_told}
use Rattle.fx_run_events.specs.SolePuts.{known_puts, sole_put}
use Rattle.fx_run_events.proofs.Chosen.{ChosenHistory, chosen, given, one_queue}
use Rattle.fx_run_events.proofs.CountsTold.{told_in_list, told_is_there, is_told_there}
use Rattle.fx_run_events.proofs.Learned.{is_learned, nothing_stood}
use Rattle.fx_run_events.proofs.OnePut.{one_put}
use Rattle.fx_run_events.proofs.RanEvents.{stands_for, told_with, told_at}
use Rattle.fx_run_events.proofs.SolePuts.{takes_the_known}

abbrev at : ℕ → ℕ → EventAt
at g j = record { fiber = g; place = j }

-- the last of some events
last_is : (g : ℕ) (es : List Event) (j : ℕ) → suc j ≡ length es → last_place g es ≡ Some (at g j)
last_is g [] j is = absurd (omega (arith, is))
last_is g (e ∷ es) j is = let same : length es ≡ j = omega (arith, is) in ap (λ (n : ℕ). Some (at g n)) same

-- no fibers are followed by nothing
no_runs : (nodes : List Node) (o : Outside) (fibers : List FiberReportView) (runs : List FiberRun) → AreEach nodes o fibers [] runs → (g : ℕ) (b : Origin)
    → HasRunOf runs g b → ⊥
no_runs nodes o [] [] each g b run = absurd run.1
no_runs nodes o [] (x ∷ runs) each g b run = absurd each
no_runs nodes o (y ∷ fibers) runs each g b run = absurd each

none_followed : (nodes : List Node) (s : ScriptView) (r : ReportView) (told : List (List Stand)) → told ≡ [] → AreFollowed nodes s r told → ⊥
none_followed nodes s r [] is are = no_runs nodes (final_outside s r) r.fibers are.runs are.each 0 (main_origin s.term) are.main
none_followed nodes s r (x ∷ told) is are = let none : x ∷ told ≡ [] = is in absurd cc

module _ (s : ScriptView) (may : ℕ → Bool) (r : ReportView) (told : List (List Stand)) (list : List Occurrence) (counts : List (Option AtQueue))
    (lawful : IsLawfulReport s may r) where
  abbrev Takes : ℕ → ℕ → ℕ → ℕ → Type 0
  Takes f i g j = TakesWhatWasPut (trace_in r) (LeavesQueue s may r lawful) f i g j

  -- what is told of event i of a fiber at its queue, and of whose end its step learnt
  abbrev at_queue : ℕ → ℕ → Option AtQueue
  at_queue f i = slice_index_or (counts_of f list counts) i None

  abbrev learned : ℕ → ℕ → Option ℕ
  learned f i = learned_stood (slice_get (stands_for told r.fibers f) i)

  abbrev cause : ℕ → ℕ → Event → Option EventAt
  cause f i e = cause_of (known_puts r.fibers) list r.fibers (slice_get (stands_for told r.fibers f) i) (at_queue f i) e

  -- what is told of the event is that
  told_is : (f i : ℕ) → cause_told (event_told (ran_events told list counts r.fibers) f i)
      ≡ option_and_then (cause f i) (slice_get (trace_in r f) i)
  told_is f i =
      ap cause_told (told_at (known_puts r.fibers) list r.fibers f 0 told counts r.fibers
      (rises_from (λ (x : FiberReportView). x.id) r.fibers lawful.starters.ascending) i) ∙ of_event (slice_get (trace_in r f) i)
    where
      of_event : (o : Option Event)
          → cause_told (option_map (told_with (known_puts r.fibers) list r.fibers f (stands_for told r.fibers f) (counts_of f list counts) i) o)
          ≡ option_and_then (cause f i) o
      of_event None = refl
      of_event (Some e) = refl

  told_of : (f i : ℕ) (e : Event) → slice_get (trace_in r f) i ≡ Some e
      → cause_told (event_told (ran_events told list counts r.fibers) f i) ≡ cause f i e
  told_of f i e shows = told_is f i ∙ ap (option_and_then (cause f i)) shows

  -- What was found is so: a put that a history has a get take was taken, and is told where it is a history of the list; and the first of two is told to have
  -- learnt of the end of which it learnt, if anything is
  record IsFound : Type 0 where
    took : (f i q v : ℕ) → slice_get (trace_in r f) i ≡ Some (event.Got q v) → (x : EventAt) → taken_put list (at_queue f i) ≡ Some x
        → Takes f i x.fiber x.place
    known : (f i q v : ℕ) → slice_get (trace_in r f) i ≡ Some (event.Got q v) → IsInOwnOrder r list → IsHistory s.capacities r list q
        → (x : EventAt) × (taken_put list (at_queue f i) ≡ Some x)
    learnt : ((f i g j : ℕ) → LearnsOfEnd (trace_in r) lawful.runs.labels f i g j → learned f i ≡ Some g) ⊎ ((f i : ℕ) → learned f i ≡ None)

  module _ (found : IsFound) where
    -- the put of a get that is told
    by_put : (f i q v : ℕ) → slice_get (trace_in r f) i ≡ Some (event.Got q v) → (o : Option EventAt) → taken_put list (at_queue f i) ≡ o
        → (x : EventAt) → or_else o (sole_put q v (known_puts r.fibers)) ≡ Some x → Takes f i x.fiber x.place
    by_put f i q v got (Some y) is x told = found.took f i q v got x (is ∙ told)
    by_put f i q v got None is x told = takes_the_known s may r lawful f i q v x got told

    got_takes : (f i q v : ℕ) → slice_get (trace_in r f) i ≡ Some (event.Got q v) → (x : EventAt) → cause f i (event.Got q v) ≡ Some x
        → Takes f i x.fiber x.place
    got_takes f i q v got x told = by_put f i q v got (taken_put list (at_queue f i)) refl x told

    -- the end of a first of two that is told
    end_of : (f i g j : ℕ) → LearnsOfEnd (trace_in r) lawful.runs.labels f i g j → last_event r.fibers g ≡ Some (at g j)
    end_of f i g j so = last_is g (trace_in r g) j (last_end s may r lawful g j so.outcome so.ended)

    first_learns : (f i side : ℕ) → slice_get (trace_in r f) i ≡ Some (event.First side) → (x : EventAt) → cause f i (event.First side) ≡ Some x
        → LearnsOfEnd (trace_in r) lawful.runs.labels f i x.fiber x.place
    first_learns f i side first x told = elim found.learnt [
      | inl learnt ↦
          (let end = (causes_found s may r lawful).ends f i (event.First side) first tt in
          let so = end.2 in
          let is : at end.0 end.1 ≡ x = same_Some (at end.0 end.1) x
          (sym (ap (option_and_then (last_event r.fibers)) (learnt f i end.0 end.1 so) ∙ end_of f i end.0 end.1 so) ∙ told) in
          subst (λ (y : EventAt). LearnsOfEnd (trace_in r) lawful.runs.labels f i y.fiber y.place) is so)
      | inr nothing ↦ absurd (none-some x (sym (ap (option_and_then (last_event r.fibers)) (nothing f i)) ∙ told))
    ]

    by_event : (f i g j : ℕ) (o : Option Event) → slice_get (trace_in r f) i ≡ o → option_and_then (cause f i) o ≡ Some (at g j)
        → Needs (trace_in r) lawful.runs.labels (LeavesQueue s may r lawful) f i g j
    by_event f i g j None shows told = absurd (none-some (at g j) told)
    by_event f i g j (Some (event.Got q v)) shows told = taken_element (got_takes f i q v shows (at g j) told)
    by_event f i g j (Some (event.First side)) shows told = end_of_other (first_learns f i side shows (at g j) told)
    by_event f i g j (Some e) shows told = absurd (none-some (at g j) told)

    only : (f i g j : ℕ) → TellsCause (ran_events told list counts r.fibers) f i g j
        → Needs (trace_in r) lawful.runs.labels (LeavesQueue s may r lawful) f i g j
    only f i g j tells = by_event f i g j (slice_get (trace_in r f) i) refl (sym (told_is f i) ∙ tells)

    -- a put that is known is told
    some_put : (f i q v : ℕ) → slice_get (trace_in r f) i ≡ Some (event.Got q v) → IsPutKnown s.capacities r list q v
        → (x : EventAt) × (cause f i (event.Got q v) ≡ Some x)
    some_put f i q v got (inl history) =
        let x = found.known f i q v got history.0 history.1 in
        (x.0, ap (λ (o : Option EventAt). or_else o (sole_put q v (known_puts r.fibers))) x.1)
    some_put f i q v got (inr sole) = either (taken_put list (at_queue f i)) (sole_put q v (known_puts r.fibers)) sole
      where
        either : (o p : Option EventAt) → is_some p ≡ true → (x : EventAt) × (or_else o p ≡ Some x)
        either (Some x) p sole = (x, refl)
        either None (Some x) sole = (x, refl)
        either None None sole = absurd cc

    puts : (f i g j : ℕ) → (so : Takes f i g j) → IsPutKnown s.capacities r list so.queue so.value
        → TellsCause (ran_events told list counts r.fibers) f i g j
    puts f i g j so known =
        let x = some_put f i so.queue so.value so.got known in
        let same = one_put (trace_in r) (λ q. (lawful.histories q).leaves.last) f i x.0.fiber x.0.place g j
        (got_takes f i so.queue so.value so.got x.0 x.1) so in
        told_of f i (event.Got so.queue so.value) so.got ∙ x.1 ∙ ap (λ (h : ℕ). Some (at h x.0.place)) same.0 ∙ ap (λ (k : ℕ). Some (at g k)) same.1

    -- and so is the end of a first of two, where the fibers were followed
    end_is_told : ((f i g j : ℕ) → LearnsOfEnd (trace_in r) lawful.runs.labels f i g j → learned f i ≡ Some g) → (f i side g j : ℕ)
        → slice_get (trace_in r f) i ≡ Some (event.First side) → LearnsOfEnd (trace_in r) lawful.runs.labels f i g j
        → TellsCause (ran_events told list counts r.fibers) f i g j
    end_is_told learnt f i side g j first so =
        told_of f i (event.First side) first ∙ ap (option_and_then (last_event r.fibers)) (learnt f i g j so) ∙ end_of f i g j so

-- runs by which it is told where the fibers stood, if it is
record RunsTold (nodes : List Node) (s : ScriptView) (may : ℕ → Bool) (r : ReportView) (told : List (List Stand)) : Type 0 where
  by_runs : IsLawfulReport s may r
  are : AreToldBy nodes s r by_runs.runs told ⊎ (told ≡ [])

runs_told : (nodes : List Node) (s : ScriptView) (may : ℕ → Bool) (r : ReportView) (told : List (List Stand)) → IsLawfulReport s may r
    → AreFollowedOrNone nodes s r told → RunsTold nodes s may r told
runs_told nodes s may r told lawful (followed are) =
    let by = lawful_by_runs_told nodes s may r told lawful are in record { by_runs = by.0; are = inl by.1 }
runs_told nodes s may r _ lawful not_followed = record { by_runs = lawful; are = inr refl }

module _ (s : ScriptView) (may : ℕ → Bool) (r : ReportView) (report : IsStampedReport s may r) (below : IsBelowTop (trace_in r) (stamp_in r)) where
  abbrev given_report : IsLawfulReport s may r
  given_report = report.stamped.lawful

  -- what is told of a get at its queue: the list has its history, and which put it took
  record IsToldAt (list : List Occurrence) (q f i v : ℕ) (a : AtQueue) : Type 0 where
    at_place : ℕ
    it : Occurrence
    there : slice_get list at_place ≡ Some it
    is_fiber : it.fiber ≡ f
    is_place : it.place ≡ i
    is_get : it.event ≡ event.Got q v
    history : IsHistory s.capacities r list q
    took : MatchOption a.took (⊥) (IsTakenPut q list at_place)

  module _ (list : List Occurrence) (counts : List (Option AtQueue)) (in_order : IsInOwnOrder r list) (are : AreCounted s.capacities r list counts) where
    abbrev order : KeepsOrder r list
    order = in_order.keeps s may report below

    abbrev occurrence : ℕ → ℕ → Event → Occurrence
    occurrence f i e = record { fiber = f; place = i; event = e; stamp = stamp_in r f i }

    got_event : (q f v : ℕ) → queue_event q f (event.Got q v) ≡ Some (Got f v)
    got_event q f v = rw (eq-eqb q q refl) refl

    told_at_get : (q f i v : ℕ) → slice_get (trace_in r f) i ≡ Some (event.Got q v) → (a : AtQueue)
        → slice_get counts (order.moment f i) ≡ Some (Some a) → IsToldAt list q f i v a
    told_at_get q f i v got a told =
        let there = order.stands f i (event.Got q v) got in
        let so = are.told (order.moment f i) a (occurrence f i (event.Got q v)) there told in
        let queue_is : so.0 ≡ q = one_queue so.0 q f f (event.Got q v) so.1 (Got f v) so.2 (got_event q f v) in
        record {
          at_place = order.moment f i;
          it = occurrence f i (event.Got q v);
          there = there;
          is_fiber = refl;
          is_place = refl;
          is_get = refl;
          history = subst (λ (p : ℕ). IsHistory s.capacities r list p) queue_is so.3;
          took = of_get so.0 queue_is so.1 so.2 a.took so.5;
        }
      where
        of_get : (p : ℕ) → p ≡ q → (d : QueueEvent) → queue_event p f (event.Got q v) ≡ Some d → (o : Option ℕ)
            → MatchOption o (IsPut d) (IsTakenPut p list (order.moment f i)) → MatchOption o ⊥ (IsTakenPut q list (order.moment f i))
        of_get p same d is (Some j) put = subst (λ (n : ℕ). IsTakenPut n list (order.moment f i) j) same put
        of_get p same d is None put =
            let get : d ≡ Got f v =
            same_Some d (Got f v) (sym is ∙ ap (λ (n : ℕ). queue_event n f (event.Got q v)) same ∙ got_event q f v) in
            absurd (subst IsPut get put)

    -- the occurrence that was taken there
    there_is : (q k j : ℕ) → IsTakenPut q list k j → (y : Occurrence) × (slice_get list j ≡ Some y)
    there_is q k j put = by_event (slice_get list j) refl
      where
        by_event : (o : Option Occurrence) → slice_get list j ≡ o → (y : Occurrence) × (slice_get list j ≡ Some y)
        by_event (Some y) is = (y, is)
        by_event None is =
            absurd (none-some (event.Put q put.value) (sym (ap (option_map (λ (x : Occurrence). x.event)) is) ∙ put.put))

    took_of : (q f i v : ℕ) (a : AtQueue) → IsToldAt list q f i v a → (x : EventAt) → taken_put list (Some a) ≡ Some x
        → (history : HasHistory r q (capacity_of s q)) → history.history ≡ history_in q list → (IsLeft : ℕ → QueueState → Type 0)
        → IsLeft q history.leaves.last → TakesWhatWasPut (trace_in r) IsLeft f i x.fiber x.place
    took_of q f i v a so x told history is IsLeft left = by_took a.took so.took told
      where
        by_took : (o : Option ℕ) → MatchOption o ⊥ (IsTakenPut q list so.at_place) → option_and_then (event_there list) o ≡ Some x
            → TakesWhatWasPut (trace_in r) IsLeft f i x.fiber x.place
        by_took None none told = absurd none
        by_took (Some j) put told =
            let y = there_is q so.at_place j put in
            let same : at y.0.fiber y.0.place ≡ x = same_Some (at y.0.fiber y.0.place) x
            (sym (ap (option_map (λ (z : Occurrence). at z.fiber z.place)) y.1) ∙ told) in
            let takes = takes_what_was_put s may r given_report list order q _ history is so.at_place j so.it y.0 so.there y.1 put
            IsLeft left in
            rw (← same, ← so.is_fiber, ← so.is_place) takes

    some_took : (q f i v : ℕ) (a : AtQueue) → IsToldAt list q f i v a → (x : EventAt) × (taken_put list (Some a) ≡ Some x)
    some_took q f i v a so = by_took a.took so.took
      where
        by_took : (o : Option ℕ) → MatchOption o ⊥ (IsTakenPut q list so.at_place) → (x : EventAt) × (option_and_then (event_there list) o ≡ Some x)
        by_took None none = absurd none
        by_took (Some j) put =
            let y = there_is q so.at_place j put in
            (at y.0.fiber y.0.place, ap (option_map (λ (z : Occurrence). at z.fiber z.place)) y.1)

  -- the histories that are chosen, and what is told by them
  record HistoriesTold (list : List Occurrence) (counts : List (Option AtQueue)) : Type 0 where
    chosen_for : (q : ℕ) → HasHistory r q (capacity_of s q)
    took : (f i q v : ℕ) → slice_get (trace_in r f) i ≡ Some (event.Got q v) → (x : EventAt)
        → taken_put list (slice_index_or (counts_of f list counts) i None) ≡ Some x
        → TakesWhatWasPut (trace_in r) (λ p state. state ≡ (chosen_for p).leaves.last) f i x.fiber x.place
    known : (f i q v : ℕ) → slice_get (trace_in r f) i ≡ Some (event.Got q v) → IsInOwnOrder r list → IsHistory s.capacities r list q
        → (x : EventAt) × (taken_put list (slice_index_or (counts_of f list counts) i None) ≡ Some x)

  histories_told : (list : List Occurrence) (counts : List (Option AtQueue)) → AreCountedOrNone s.capacities r list counts → HistoriesTold list counts
  histories_told list counts (counted in_order are) = record {
    chosen_for = λ q. (choice q).history;
    took = λ f i q v got x told. by_count f i q v got x (slice_index_or (counts_of f list counts) i None) refl told;
    known = λ f i q v got again history.
        let some = are.each (moment f i) q (it f i q v) (Got f v) (stands f i q v got) (got_event list counts in_order are q f v) history in
        let told = is_told_there counts (moment f i) some.0 some.1 in
        let x = some_took list counts in_order are q f i v some.0 (told_at_get list counts in_order are q f i v got some.0 some.1) in
        (x.0, ap (taken_put list) (in_list f i q v got ∙ told) ∙ x.1);
  }
    where
      keeps : KeepsOrder r list
      keeps = in_order.keeps s may report below

      moment : ℕ → ℕ → ℕ
      moment f i = keeps.moment f i

      it : ℕ → ℕ → ℕ → ℕ → Occurrence
      it f i q v = record { fiber = f; place = i; event = event.Got q v; stamp = stamp_in r f i }

      stands : (f i q v : ℕ) → slice_get (trace_in r f) i ≡ Some (event.Got q v) → slice_get list (moment f i) ≡ Some (it f i q v)
      stands f i q v got = keeps.stands f i (event.Got q v) got

      choice : (q : ℕ) → ChosenHistory s may r given_report list counts q
      choice q = chosen s may r given_report list counts keeps are q

      in_list : (f i q v : ℕ) → slice_get (trace_in r f) i ≡ Some (event.Got q v)
          → slice_index_or (counts_of f list counts) i None ≡ slice_index_or counts (moment f i) None
      in_list f i q v got = told_in_list s may r given_report list counts keeps f i (event.Got q v) got

      by_count : (f i q v : ℕ) → slice_get (trace_in r f) i ≡ Some (event.Got q v) → (x : EventAt) (o : Option AtQueue)
          → slice_index_or (counts_of f list counts) i None ≡ o → taken_put list (slice_index_or (counts_of f list counts) i None) ≡ Some x
          → TakesWhatWasPut (trace_in r) (λ p state. state ≡ (choice p).history.leaves.last) f i x.fiber x.place
      by_count f i q v got x None none told = absurd (none-some x (sym (ap (taken_put list) none) ∙ told))
      by_count f i q v got x (Some a) some told =
          let so = told_at_get list counts in_order are q f i v got a (told_is_there counts (moment f i) a (sym (in_list f i q v got) ∙ some)) in
          took_of list counts in_order are q f i v a so x (sym (ap (taken_put list) some) ∙ told) (choice q).history
          ((choice q).counted so.history (moment f i) (it f i q v) (Got f v) (stands f i q v got) (got_event list counts in_order are q f v))
          (λ p state. state ≡ (choice p).history.leaves.last) refl
  histories_told _ _ not_counted = record {
    chosen_for = λ q. (given s may r given_report [] [] q refl).history;
    took = λ f i q v got x told. absurd (none-some x told);
    known = λ f i q v got in_order history.
        absurd (none-some _ ((in_order.keeps s may report below).stands f i (event.Got q v) got));
  }

  module _ (nodes : List Node) (told : List (List Stand)) (list : List Occurrence) (counts : List (Option AtQueue))
      (are_followed : AreFollowedOrNone nodes s r told) (are_counted : AreCountedOrNone s.capacities r list counts) where
    abbrev runs : RunsTold nodes s may r told
    runs = runs_told nodes s may r told given_report are_followed

    abbrev histories : HistoriesTold list counts
    histories = histories_told list counts are_counted

    -- by these runs and histories
    abbrev by_all : IsLawfulReport s may r
    by_all = record runs.by_runs { histories = histories.chosen_for }

    found : IsFound s may r told list counts by_all
    found = record {
      took = histories.took;
      known = histories.known;
      learnt = elim runs.are [
        | inl are ↦ inl (λ f i g j so. is_learned nodes s r runs.by_runs.runs told are f i g j so)
        | inr none ↦ inr (λ f i. rw none (rw (nothing_stood r.fibers f) refl))
      ];
    }

    pub causes_of_run_told : TellsCausesOfRun nodes s may r told list (ran_events told list counts r.fibers)
    causes_of_run_told = record {
      lawful = by_all;
      only = only s may r told list counts by_all found;
      puts = puts s may r told list counts by_all found;
      ends = λ are. elim runs.are [
        | inl by ↦ end_is_told s may r told list counts by_all found (λ f i g j so. is_learned nodes s r runs.by_runs.runs told by f i g j so)
        | inr none ↦ absurd (none_followed nodes s r told none are)
      ];
    }
