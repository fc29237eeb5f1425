-- What an event stands on by the model is drawn.
use Rattle.std.proofs.Common.{◌≡◌, ℕ, ◌<◌, Bool, true, Option, Some, None, List, refl, sym, ap, subst, ◌∙◌, eq-eqb, slice_get}
use Rattle.std.specs.Prelude.{Contains}
use Rattle.std.proofs.lemmas.Option.{none-some, same_Some, slice_get_within}
use Rattle.fx_term.specs.declared.outcome.Outcome.{Outcome}
use Rattle.fx_term.specs.declared.event.Event.{Event}
use Rattle.fx_term.specs.declared.event.Event.TheVariants as event
use Rattle.fx_term.specs.Script.{ScriptView}
use Rattle.fx_model.specs.Row.{Learns}
use Rattle.fx_model.specs.Report.{FiberReportView, ReportView, fiber_in, trace_in, trace_of_report}
use Rattle.fx_model.specs.LawfulReport.{IsLawfulReport}
use Rattle.fx_model.specs.Causes.{Needs, LearnsOfEnd, LeavesQueue}
use Rattle.fx_model.specs.Causes as needs
use Rattle.fx_model.specs.ReportStamps.{stamp_in}
use Rattle.fx_model.proofs.StepLabels.{IsProper}
use Rattle.fx_model.proofs.EventLabels.{run_is_proper}
use Rattle.fx_model.proofs.ShownLabels.{shown_holds}
use Rattle.fx_order.specs.declared.occurrence.Occurrence.{Occurrence}
use Rattle.fx_order.specs.CausalOrder.{IsCausalOrder}
use Rattle.fx_report.specs.declared.blocked.Blocked.{Blocked}
use Rattle.fx_picture.specs.Handles.{Named}
use Rattle.fx_picture.specs.declared.cause.Cause.{Cause}
use Rattle.fx_picture.specs.declared.cause.Cause.TheVariants.{Start, End, Request, Element}
use Rattle.fx_picture.specs.declared.drawn.Drawn.{Drawn}
use Rattle.fx_picture.specs.declared.stood.Stood.{Stood}
use Rattle.fx_picture.specs.Causes.{is_told_by, is_at, cause_in}
use Rattle.fx_picture.specs.Folds.{sheet_of}
use Rattle.fx_picture.specs.DrawsEach.{TellsEach, DrawsEach}
use Rattle.fx_picture.specs.IsDrawn.{SaysItsCause, Tells, IsDrawn, HasArrow}
use Rattle.fx_picture.proofs.ArrowsDrawn.{none_missing}
use Rattle.fx_picture.proofs.Quiet.{drawn_at, goes_down}
use Rattle.fx_picture.proofs.NamedEnds.{Names, run_names}

-- an event that learns of the end of g, and names who ended, names g
told_by : (g : ℕ) (o : Outcome) (v : Event) → IsProper (Learns g o v) → Names (Learns g o v) → SaysItsCause v → is_told_by g v ≡ true
told_by g o (event.Joined h p) proper named says = eq-eqb h g (sym named)
told_by g o (event.Awaited h) proper named says = eq-eqb h g (sym named)
told_by g o (event.First n) proper named says = absurd says
told_by g o _ proper named says = absurd proper

module _ (s : ScriptView) (may : ℕ → Bool) (r : ReportView) (lawful : IsLawfulReport s may r) (list : List Occurrence)
    (order : IsCausalOrder s may r lawful list) (names : List (List ℕ)) (stood : List Stood) (handles : List Named) (blocked : List Blocked) where
  abbrev event_of : ℕ → ℕ → Event → Occurrence
  event_of f i e = record { fiber = f; place = i; event = e; stamp = stamp_in r f i }

  abbrev drawn : List Drawn
  drawn = (sheet_of stood list).drawn

  -- an event that stands on one above it is drawn with an arrow
  is_drawn : (f i g j : ℕ) (e d : Event) (cause : Cause) → slice_get (trace_in r f) i ≡ Some e → slice_get (trace_in r g) j ≡ Some d
      → order.moment g j < order.moment f i → cause_in stood (event_of g j d) (event_of f i e) ≡ Some cause → IsDrawn names stood handles blocked r list f i g j
  is_drawn f i g j e d cause at by above stands =
      let from = drawn_at stood list (order.moment g j) (event_of g j d) (order.stands g j d by) in
      let to = drawn_at stood list (order.moment f i) (event_of f i e) (order.stands f i e at) in
      let joined : cause_in stood from.0.event to.0.event ≡ Some cause = rw (from.2, to.2) stands in
      record {
        from = from.0;
        to = to.0;
        cause = cause;
        begins = record { fiber = ap (λ (o : Occurrence). o.fiber) from.2; place = ap (λ (o : Occurrence). o.place) from.2 };
        ends = record { fiber = ap (λ (o : Occurrence). o.fiber) to.2; place = ap (λ (o : Occurrence). o.place) to.2 };
        goes_down = goes_down stood list (order.moment g j) (order.moment f i) from.0 to.0 cause above from.1 to.1 joined;
        has = none_missing stood r.fibers names handles blocked list (order.moment g j) (order.moment f i) from.0 to.0 cause above from.1 to.1 joined;
      }

  -- so is the first event of a fiber, whatever that is
  start_is_drawn : (f i g j : ℕ) (e : Event) → slice_get (trace_in r f) i ≡ Some e → i ≡ 0 → slice_get (trace_in r g) j ≡ Some (event.Start f)
      → IsDrawn names stood handles blocked r list f i g j
  start_is_drawn f i g j e at first started =
      let above = order.in_order.needed f i g j (slice_get_within _ i e at) (slice_get_within _ j _ started) (needs.start first started) in
      is_drawn f i g j e (event.Start f) Start at started above (rw (eq-eqb i 0 first, eq-eqb f f refl))

  proper : (f i g j : ℕ) (l : LearnsOfEnd (trace_in r) lawful.runs.labels f i g j) → IsProper (Learns g l.outcome l.learning)
  proper f i g j l = by_fiber (fiber_in r f) refl
    where
      by_fiber : (o : Option FiberReportView) → fiber_in r f ≡ o → IsProper (Learns g l.outcome l.learning)
      by_fiber None none =
          absurd (none-some l.learning (sym (ap (λ (o : Option FiberReportView). slice_get (trace_of_report o) i) none) ∙ l.tells))
      by_fiber (Some x) there =
          shown_holds IsProper (lawful.runs.labels f) i _ (run_is_proper _ _ _ _ (lawful.runs.labels f) (lawful.runs.run f x there).run) l.learns

  tells : (f i g j : ℕ) (l : LearnsOfEnd (trace_in r) lawful.runs.labels f i g j) → SaysItsCause l.learning → is_told_by g l.learning ≡ true
  tells f i g j l says = by_fiber (fiber_in r f) refl
    where
      by_fiber : (o : Option FiberReportView) → fiber_in r f ≡ o → is_told_by g l.learning ≡ true
      by_fiber None none =
          absurd (none-some l.learning (sym (ap (λ (o : Option FiberReportView). slice_get (trace_of_report o) i) none) ∙ l.tells))
      by_fiber (Some x) there =
          let labels = lawful.runs.labels f in
          let run = (lawful.runs.run f x there).run in
          told_by g l.outcome l.learning (shown_holds IsProper labels i _ (run_is_proper _ _ _ _ labels run) l.learns)
          (shown_holds Names labels i _ (run_names _ _ _ _ labels run) l.learns) says

  pub cause_is_drawn : (f i g j : ℕ) (e : Event) → slice_get (trace_in r f) i ≡ Some e → SaysItsCause e
      → Needs (trace_in r) lawful.runs.labels (LeavesQueue s may r lawful) f i g j → IsDrawn names stood handles blocked r list f i g j
  cause_is_drawn f i g j e at says (needs.taken_element t) = absurd (subst SaysItsCause (same_Some e _ (sym at ∙ t.got)) says)
  cause_is_drawn f i g j e at says (needs.end_of_other l) =
      let same : e ≡ l.learning = same_Some e l.learning (sym at ∙ l.tells) in
      let told = tells f i g j l (subst SaysItsCause same says) in
      let above = order.in_order.needed f i g j (slice_get_within _ i e at) (slice_get_within _ j _ l.ended) (needs.end_of_other l) in
      is_drawn f i g j l.learning (event.Ended l.outcome) End l.tells l.ended above (rw told)
  cause_is_drawn f i g j e at says (needs.start first started) = start_is_drawn f i g j e at first started

  -- so is a cause that is told
  is_here : (g j : ℕ) (d : Event) → is_at (event_of g j d) (Some (record { fiber = g; place = j })) ≡ true
  is_here g j d = rw (eq-eqb g g refl, eq-eqb j j refl) refl

  -- that of a first, and that of another event which learns of an end
  end_is_drawn : (f i g j : ℕ) (e : Event) → slice_get (trace_in r f) i ≡ Some e → Tells stood f i g j
      → (l : LearnsOfEnd (trace_in r) lawful.runs.labels f i g j) → IsProper (Learns g l.outcome e) → IsDrawn names stood handles blocked r list f i g j
  end_is_drawn f i g j (event.First n) at told l is_proper =
      let above = order.in_order.needed f i g j (slice_get_within _ i _ at) (slice_get_within _ j _ l.ended) (needs.end_of_other l) in
      is_drawn f i g j (event.First n) (event.Ended l.outcome) End at l.ended above (rw (told, is_here g j (event.Ended l.outcome)) refl)
  end_is_drawn f i g j (event.Joined h o) at told l is_proper = cause_is_drawn f i g j (event.Joined h o) at tt (needs.end_of_other l)
  end_is_drawn f i g j (event.Awaited h) at told l is_proper = cause_is_drawn f i g j (event.Awaited h) at tt (needs.end_of_other l)
  end_is_drawn f i g j _ at told l is_proper = absurd is_proper

  pub told_is_drawn : (f i g j : ℕ) (e : Event) → slice_get (trace_in r f) i ≡ Some e → Tells stood f i g j
      → Needs (trace_in r) lawful.runs.labels (LeavesQueue s may r lawful) f i g j → IsDrawn names stood handles blocked r list f i g j
  told_is_drawn f i g j e at told (needs.taken_element t) =
      let above = order.in_order.needed f i g j (slice_get_within _ i _ t.got) (slice_get_within _ j _ t.put) (needs.taken_element t) in
      is_drawn f i g j (event.Got t.queue t.value) (event.Put t.queue t.value) Element t.got t.put above
      (rw (told, is_here g j (event.Put t.queue t.value), eq-eqb t.queue t.queue refl, eq-eqb t.value t.value refl) refl)
  told_is_drawn f i g j e at told (needs.end_of_other l) =
      end_is_drawn f i g j e at told l
      (subst (λ (v : Event). IsProper (Learns g l.outcome v)) (same_Some l.learning e (sym l.tells ∙ at)) (proper f i g j l))
  told_is_drawn f i g j e at told (needs.start first started) = start_is_drawn f i g j e at first started

  pub seen_is_drawn : (f i : ℕ) → slice_get (trace_in r f) i ≡ Some event.Seen → (Contains r.outside f → ⊥) → HasArrow names stood handles blocked r list f i
  seen_is_drawn f i at inside =
      let asked = order.in_order.requested f i at inside in
      record {
        by = asked.by;
        place = asked.place;
        drawn = is_drawn f i asked.by asked.place event.Seen (event.Request f) Request at asked.request asked.before (rw (eq-eqb f f refl));
      }

  module _ (each : TellsEach s may r lawful stood) where
    each_end_is_drawn : (f i g j : ℕ) (e : Event) → slice_get (trace_in r f) i ≡ Some e
        → (l : LearnsOfEnd (trace_in r) lawful.runs.labels f i g j) → IsProper (Learns g l.outcome e) → IsDrawn names stood handles blocked r list f i g j
    each_end_is_drawn f i g j (event.First n) at l is_proper = end_is_drawn f i g j (event.First n) at (each.ends f i n g j at l) l is_proper
    each_end_is_drawn f i g j (event.Got q v) at l is_proper = absurd is_proper
    each_end_is_drawn f i g j e at l is_proper = cause_is_drawn f i g j e at tt (needs.end_of_other l)

    each_is_drawn : (f i g j : ℕ) (e : Event) → slice_get (trace_in r f) i ≡ Some e
        → Needs (trace_in r) lawful.runs.labels (LeavesQueue s may r lawful) f i g j → IsDrawn names stood handles blocked r list f i g j
    each_is_drawn f i g j e at (needs.taken_element t) = told_is_drawn f i g j e at (each.puts f i g j t) (needs.taken_element t)
    each_is_drawn f i g j e at (needs.end_of_other l) =
        each_end_is_drawn f i g j e at l
        (subst (λ (v : Event). IsProper (Learns g l.outcome v)) (same_Some l.learning e (sym l.tells ∙ at)) (proper f i g j l))
    each_is_drawn f i g j e at (needs.start first started) = start_is_drawn f i g j e at first started

-- so where all that is told, no cause is left out
pub draws_each : (s : ScriptView) (may : ℕ → Bool) (r : ReportView) (lawful : IsLawfulReport s may r) (stood : List Stood) → TellsEach s may r lawful stood
    → DrawsEach s may r lawful stood
draws_each s may r lawful stood each list order names handles blocked = each_is_drawn s may r lawful list order names stood handles blocked each
