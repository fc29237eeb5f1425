-- What is told as the cause of a get is the put of the element that it took, by the histories that make the report lawful with its stamps.
use Rattle.std.proofs.Common.{◌≡◌, ℕ, ◌+◌, ◌<◌, ◌≤◌, true, Some, None, List, [], ◌∷◌, ◌++◌, length, refl, sym, ◌∙◌, ap, subst, arith}
use Rattle.std.specs.Prelude.{◌==◌, replicate, slice_get, slice_index_or, take}
use Rattle.std.proofs.lemmas.Bool.{eq-eqb}
use Rattle.std.proofs.lemmas.List.{length-append}
use Rattle.std.proofs.lemmas.List.Elements.{filter-append}
use Rattle.std.proofs.lemmas.Option.{same_Some}
use Rattle.std.proofs.Math.Seq.{take-append_seam}
use Rattle.fx_term.specs.declared.event.Event.{Event}
use Rattle.fx_term.specs.declared.event.Event.TheVariants as event
use Rattle.fx_term.specs.declared.node.Node.{Node}
use Rattle.fx_term.specs.declared.queue_event.QueueEvent.TheVariants.{Got}
use Rattle.fx_term.specs.Queue.{Taking, QueueState, replayed_from, replayed, values_put}
use Rattle.fx_term.specs.Script.{ScriptView, total}
use Rattle.fx_term.proofs.QueueLaws.{IsFirst, first_of_legal, IsGet, get_parts}
use Rattle.fx_model.specs.Causes.{values_got, takings_of, taking_of, TakesWhatWasPut, LeavesQueue, Needs, taken_element}
use Rattle.fx_model.specs.LawfulReport.{IsLawfulReport}
use Rattle.fx_model.specs.Report.{ReportView, trace_in, capacity_of}
use Rattle.fx_model.proofs.Appended.{at_seam}
use Rattle.fx_model.proofs.CausesFound.{causes_found}
use Rattle.fx_model.proofs.Takes.{takes_counted, taken_before}
use Rattle.fx_text.specs.declared.pick.Pick.{Pick}
use Rattle.fx_places.specs.declared.place.FormPlace.{FormPlace}
use Rattle.fx_plain.specs.declared.told.MadeStep.{MadeStep}
use Rattle.fx_plain.specs.declared.told.Told.{Told}
use Rattle.fx_plain.specs.declared.told.Told.TheVariants.{Step}
use Rattle.fx_plain.specs.Chosen.{IsReplay}
use Rattle.fx_plain.specs.ToldQueues.{queue_told}
use Rattle.fx_plain.specs.ToldRun.{TellsRun, events_told}
use Rattle.fx_plain.proofs.ChosenRuns.{replay_is_stamped_report}
use Rattle.fx_plain.proofs.ToldQueues.{cut_told, IsBetween, between, declared_queue, told_history}
use Rattle.fx_plain.proofs.ToldRuns.{events_told-append, told_is_its_trace}
use Rattle.fx_picture.specs.IsDrawn.{Tells}
use Rattle.fx_command.specs.SoFar.{SoFarView, nothing_shown, held_in}
use Rattle.fx_command.specs.StoodEvents.{stood_events}
use Rattle.fx_command.specs.TakesInOrder.{shown_by_all}
use Rattle.fx_command.proofs.CountedEvents.{counted_told}
use Rattle.fx_command.proofs.HeldElements.{PutElements, PutsFront, put_first, in_middle, held_elements}
use Rattle.fx_run_events.proofs.OnePut.{taken_from}
use Rattle.fx_command.proofs.ShownSteps.{shown_by_step, told_then}
use Rattle.fx_command.proofs.ToldFibers.{first_told_below}

module _ (nodes : List Node) (s : ScriptView) (ps : List Pick) (told : List Told) (r : ReportView) (t : TellsRun nodes s ps told) (h : IsReplay s ps r) where
  abbrev lawful : IsLawfulReport s (λ f. true) r
  lawful = (replay_is_stamped_report s ps r h).stamped.lawful

  abbrev TakesSo : ℕ → ℕ → ℕ → ℕ → Type 0
  TakesSo f i g j = TakesWhatWasPut (trace_in r) (LeavesQueue s (λ f. true) r lawful) f i g j

  -- the step that shows a get
  module _ (before after : List Told) (made : MadeStep) (q v : ℕ) (is : told ≡ before ++ Step made ∷ after) (shows : made.event ≡ Some (event.Got q v)) where
    abbrev f : ℕ
    f = made.fiber

    abbrev i : ℕ
    i = length (events_told made.fiber before)

    abbrev last : QueueState
    last = (lawful.histories q).leaves.last

    trace_is : trace_in r f ≡ events_told f before ++ event.Got q v ∷ events_told f after
    trace_is =
        sym (told_is_its_trace nodes s ps told r t h f) ∙ ap (events_told f) is ∙ events_told-append f before (Step made ∷ after)
        ∙ ap (λ (es : List Event). events_told f before ++ es) (rw (eq-eqb f f refl, shows) refl)

    -- the queue before it
    past : IsBetween (capacity_of s q) q before (Step made ∷ after) last
    past =
        between (capacity_of s q) q before (Step made ∷ after) last
        (ap (λ (ts : List Told). replayed (capacity_of s q) (queue_told q ts)) (sym is)
        ∙ ap (replayed (capacity_of s q)) (sym (told_history nodes s q ps told r t h)) ∙ (lawful.histories q).leaves.legal)

    got_first : queue_told q (Step made ∷ after) ≡ Got f v ∷ queue_told q after
    got_first = rw (shows, eq-eqb q q refl) refl

    goes_on : replayed_from (capacity_of s q) (Some past.state) (Got f v ∷ queue_told q after) ≡ Some last
    goes_on = ap (replayed_from (capacity_of s q) (Some past.state)) (sym got_first) ∙ past.goes_on

    step : IsFirst (capacity_of s q) past.state (Got f v) (queue_told q after) last
    step = first_of_legal (capacity_of s q) past.state (Got f v) (queue_told q after) last goes_on

    got : IsGet past.state f v past.state.items step.next
    got = get_parts past.state f v past.state.items step.next step.after

    declared : q < length s.capacities
    declared = declared_queue s q before past.state got.front got.rest past.legal got.items

    -- what it takes, behind all that the fiber had taken there
    abbrev taking : Taking
    taking = record { taker = f; item = got.front }

    takes_one_more : takings_of f step.next ≡ takings_of f past.state ++ taking ∷ []
    takes_one_more =
        ap (takings_of f) (sym got.after) ∙ filter-append (λ (x : Taking). x.taker == f) past.state.taken (taking ∷ [])
        ∙ ap (λ (ts : List Taking). takings_of f past.state ++ ts) (rw (eq-eqb f f refl) refl)

    as_many : length (values_got q (take i (trace_in r f))) ≡ length (takings_of f past.state)
    as_many =
        ap (λ (es : List Event). length (values_got q (take i es))) trace_is
        ∙ ap (λ (es : List Event). length (values_got q es)) (take-append_seam (events_told f before) (event.Got q v ∷ events_told f after))
        ∙ sym (takes_counted (capacity_of s q) q f (queue_told q before) past.state (events_told f before) past.legal (cut_told q f before))

    taken_then : taking_of step.next f (length (values_got q (take i (trace_in r f)))) ≡ Some taking
    taken_then =
        ap (λ (ts : List Taking). slice_get ts (length (values_got q (take i (trace_in r f))))) takes_one_more
        ∙ ap (slice_get (takings_of f past.state ++ taking ∷ [])) as_many ∙ at_seam (takings_of f past.state) taking

    -- so it is what the event takes by the whole history
    taken_so : (g j : ℕ) → TakesSo f i g j → slice_get (trace_in r f) i ≡ Some (event.Got q v)
        → taking_of last f (length (values_got q (take i (trace_in r f)))) ≡ Some taking
    taken_so g j so at =
        let taken = (taken_from (trace_in r) (λ q. (lawful.histories q).leaves.last) f i g j q v so at).1 in
        let more : length (takings_of f step.next) ≡ length (takings_of f past.state) + 1 =
        ap length takes_one_more ∙ length-append (takings_of f past.state) (taking ∷ []) in
        let n = as_many in
        let stood = taken_before (capacity_of s q) f (length (values_got q (take i (trace_in r f)))) step.next (queue_told q after) last so.taking step.rest
        (omega (arith, n, more)) taken in
        taken ∙ ap Some (same_Some so.taking taking (sym stood ∙ taken_then))

    -- the put whose element is at the front of what is told to be held
    module _ (fibers queues : ℕ) (enough : total s ≤ fibers) (as_declared : length s.capacities ≤ queues) where
      abbrev shown_so : SoFarView
      shown_so = shown_by_all (nothing_shown fibers queues) before

      counts : (first rest : List Told) → told ≡ first ++ rest → (g : ℕ)
          → slice_index_or (shown_by_all (nothing_shown fibers queues) first).shown g 0 ≡ length (events_told g first)
      counts first rest parts g = counted_told (total s) fibers queues g enough first (first_told_below nodes s ps told first rest t parts)

      put : PutsFront (λ g. events_told g told) q (held_in shown_so.queues q) got.front
      put =
          let below = declared in
          put_first (λ g. events_told g told) q (held_in shown_so.queues q) got.front got.rest
          (subst (PutElements (λ g. events_told g told) q (held_in shown_so.queues q)) got.items
          (held_elements (capacity_of s q) q fibers queues (omega arith) told counts before (Step made ∷ after) is past.state past.legal))

      takes : TakesSo f i put.at.fiber put.at.place
      takes =
          let at : slice_get (trace_in r f) i ≡ Some (event.Got q v) = rw trace_is (in_middle (events_told f before) (event.Got q v) (events_told f after)) in
          let found = (causes_found s (λ f. true) r lawful).puts f i q v at in
          let same = sym (told_is_its_trace nodes s ps told r t h put.at.fiber) in
          record {
            queue = q;
            value = v;
            got = at;
            state = last;
            left = refl;
            taking = taking;
            taken = taken_so found.0 found.1 found.2 at;
            fiber = put.puts.fiber;
            of_value = got.value;
            put = ap (λ (es : List Event). slice_get es put.at.place) same ∙ put.puts.put ∙ ap (λ (n : ℕ). Some (event.Put q n)) got.value;
            nth = ap (λ (es : List Event). length (values_put q (take put.at.place es))) same ∙ put.puts.nth;
          }

      tells : (places : List FormPlace) → Tells (stood_events places fibers queues told) f i put.at.fiber put.at.place
      tells places =
          subst (λ (ts : List Told). Tells (stood_events places fibers queues ts) f i put.at.fiber put.at.place) (sym is)
          (told_then places made (event.Got q v) shows after (replicate fibers None) (nothing_shown fibers queues) before ∙ put.is)

  -- event i of fiber f takes the element of such a put, which is told
  abbrev IsTold : List FormPlace → ℕ → ℕ → ℕ → ℕ → Type 0
  IsTold places fibers queues f i = (g : ℕ) × (j : ℕ) × TakesSo f i g j × Tells (stood_events places fibers queues told) f i g j

  pub gets_told : (places : List FormPlace) (fibers queues f i q v : ℕ) → total s ≤ fibers → length s.capacities ≤ queues
      → slice_get (trace_in r f) i ≡ Some (event.Got q v) → IsTold places fibers queues f i
  gets_told places fibers queues f i q v enough as_declared at =
      let found = shown_by_step f told i (event.Got q v)
      (subst (λ (es : List Event). slice_get es i ≡ Some (event.Got q v)) (sym (told_is_its_trace nodes s ps told r t h f)) at) in
      let cause = put found.before found.after found.made q v found.is found.shows fibers queues enough as_declared in
      let so : IsTold places fibers queues found.made.fiber (length (events_told found.made.fiber found.before)) = (
        cause.at.fiber,
        cause.at.place,
        takes found.before found.after found.made q v found.is found.shows fibers queues enough as_declared,
        tells found.before found.after found.made q v found.is found.shows fibers queues enough as_declared places,
      ) in
      let same : length (events_told found.made.fiber found.before) ≡ i =
      ap (λ (k : ℕ). length (events_told k found.before)) found.fiber ∙ found.place in
      subst (λ (g : ℕ). IsTold places fibers queues g i) found.fiber (subst (λ (k : ℕ). IsTold places fibers queues found.made.fiber k) same so)

  -- so it stands on it
  pub gets_stand : (places : List FormPlace) (fibers queues f i q v : ℕ) → total s ≤ fibers → length s.capacities ≤ queues
      → slice_get (trace_in r f) i ≡ Some (event.Got q v)
      → (g : ℕ) × (j : ℕ) × Needs (trace_in r) lawful.runs.labels (LeavesQueue s (λ f. true) r lawful) f i g j
      × Tells (stood_events places fibers queues told) f i g j
  gets_stand places fibers queues f i q v enough as_declared at =
      let so = gets_told places fibers queues f i q v enough as_declared at in (so.0, so.1, taken_element so.2, so.3)
