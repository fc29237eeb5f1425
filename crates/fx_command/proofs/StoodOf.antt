-- What is told of an event of a run on threads is where its fiber stood before the step that showed it, and what was found of it at its queue.
use Rattle.std.proofs.Common.{◌≡◌, ℕ, Bool, Option, Some, None, List, [], ◌∷◌, refl, sym, ◌∙◌, ap, subst, inl, inr}
use Rattle.std.specs.Prelude.{option_map, slice_get}
use Rattle.std.proofs.lemmas.Bool.{cases_eq, eq-eqb, ne_eqb}
use Rattle.std.proofs.lemmas.Option.{none-some, same_Some}
use Rattle.fx_term.specs.declared.event.Event.{Event}
use Rattle.fx_term.specs.declared.node.Node.{Node}
use Rattle.fx_term.specs.Lists.{Among}
use Rattle.fx_term.specs.Script.{ScriptView}
use Rattle.fx_places.specs.declared.place.FormPlace.{FormPlace}
use Rattle.fx_model.specs.LawfulReport.{IsLawfulReport}
use Rattle.fx_model.specs.Outside.{Outside}
use Rattle.fx_model.specs.Report.{FiberReportView, ReportView, trace_of_report, trace_in, final_outside}
use Rattle.fx_model.specs.ReportStamps.{IsStampedReport, stamp_in}
use Rattle.fx_model.specs.Run.{first_counts}
use Rattle.fx_model.specs.Stamps.{IsBelowTop}
use Rattle.fx_model.specs.Step.{Runs}
use Rattle.fx_report.proofs.Keys.{rises_from}
use Rattle.fx_order.specs.declared.occurrence.Occurrence.{Occurrence}
use Rattle.fx_counts.specs.declared.at_queue.AtQueue.{AtQueue}
use Rattle.fx_follow.specs.declared.stand.Stand.{Stand}
use Rattle.fx_follow.specs.Followed.{FiberRun, IsFollowed, AreEach, AreFollowed}
use Rattle.fx_follow.proofs.ShowsFrom.{shows_at}
use Rattle.fx_picture.specs.Stood.{stood_at}
use Rattle.fx_run_events.specs.declared.ran_event.RanEvent.{RanEvent}
use Rattle.fx_run_events.specs.Found.{IsInOwnOrder}
use Rattle.fx_run_events.specs.RanEvents.{counts_of, ran_events, held_by}
use Rattle.fx_run_events.specs.SolePuts.{known_puts}
use Rattle.fx_run_events.proofs.CountsTold.{told_in_list}
use Rattle.fx_run_events.proofs.RanEvents.{fiber_of, stands_for, told_with, told_at}
use Rattle.fx_command.specs.IsHeldSo.{IsHeldSo}
use Rattle.fx_command.specs.IsStoodOf.{IsStoodOf}
use Rattle.fx_command.specs.StoodOfRun.{stood_by, stood_of_run}
use Rattle.fx_command.proofs.StoodOfRun.{stood_as}

-- the run of a fiber of the report is that of which what is told of the fiber is told
record HasItsRun (nodes : List Node) (o : Outside) (runs : List FiberRun) (stands : List Stand) (f : ℕ) (x : FiberReportView) : Type 0 where
  pub run : FiberRun
  pub among : Among run runs
  pub followed : IsFollowed nodes o x stands run
  pub is : x.id ≡ f

its_run : (nodes : List Node) (o : Outside) (fibers : List FiberReportView) (told : List (List Stand)) (runs : List FiberRun) (f : ℕ)
    (x : FiberReportView) → AreEach nodes o fibers told runs → fiber_of f fibers ≡ Some x → HasItsRun nodes o runs (stands_for told fibers f) f x
its_run nodes o [] told runs f x each is = absurd (none-some x is)
its_run nodes o (y ∷ ys) [] runs f x each is = absurd each
its_run nodes o (y ∷ ys) (stands ∷ told) [] f x each is = absurd each
its_run nodes o (y ∷ ys) (stands ∷ told) (run ∷ runs) f x each is = elim (cases_eq y.id f) [
  | inl same ↦
      (let it : y ≡ x = same_Some y x (rw (eq-eqb y.id f same) at is) in
      rw (eq-eqb y.id f same) (record {
        run = run;
        among = inl refl;
        followed = subst (λ (z : FiberReportView). IsFollowed nodes o z stands run) it each.0;
        is = ap (λ (z : FiberReportView). z.id) (sym it) ∙ same;
      }))
  | inr other ↦
      (let more = its_run nodes o ys told runs f x each.1 (rw (ne_eqb y.id f other) at is) in
      rw (ne_eqb y.id f other) (record { run = more.run; among = inr more.among; followed = more.followed; is = more.is }))
]

module _ (s : ScriptView) (may : ℕ → Bool) (r : ReportView) (lawful : IsLawfulReport s may r) (places : List FormPlace) (told : List (List Stand))
    (list : List Occurrence) (counts : List (Option AtQueue)) where
  -- what is found of event i of a fiber
  abbrev found : ℕ → ℕ → Event → RanEvent
  found f i e = told_with (known_puts r.fibers) list r.fibers f (stands_for told r.fibers f) (counts_of f list counts) i e

  told_so : (f i : ℕ) (e : Event) → slice_get (trace_in r f) i ≡ Some e
      → stood_at (stood_of_run places told list counts r.fibers) f i ≡ Some (stood_by places (found f i e))
  told_so f i e at =
      stood_as places f (ran_events told list counts r.fibers) i
      ∙ ap (option_map (stood_by places)) (told_at (known_puts r.fibers) list r.fibers f 0 told counts r.fibers
      (rises_from (λ (x : FiberReportView). x.id) r.fibers lawful.starters.ascending) i ∙ ap (option_map (found f i)) at)

module _ (nodes : List Node) (s : ScriptView) (may : ℕ → Bool) (r : ReportView) (told : List (List Stand)) (lawful : IsLawfulReport s may r)
    (followed : AreFollowed nodes s r told) where
  of_fiber : (places : List FormPlace) (list : List Occurrence) (counts : List (Option AtQueue)) (f i : ℕ) (e : Event) (o : Option FiberReportView)
      → fiber_of f r.fibers ≡ o → slice_get (trace_of_report o) i ≡ Some e
      → IsStoodOf nodes places followed.runs (stood_of_run places told list counts r.fibers) f i e
  of_fiber places list counts f i e None is at = absurd (none-some e at)
  of_fiber places list counts f i e (Some x) is at =
      let its = its_run nodes (final_outside s r) r.fibers told followed.runs f x followed.each is in
      let run = its.run in
      let shown = shows_at nodes run.counts run.progress its.followed.leads.0 run.labels (first_counts run.origin) (Runs run.origin.term) None
      (stands_for told r.fibers f) i e its.followed.leads.1 (ap (λ (es : List Event). slice_get es i) its.followed.trace ∙ at) in
      let whole : slice_get (trace_in r f) i ≡ Some e = ap (λ (y : Option FiberReportView). slice_get (trace_of_report y) i) is ∙ at in
      record {
        run = run;
        among = its.among;
        number = its.followed.number ∙ its.is;
        stand = shown.0;
        shown = shown.2;
        stood = _;
        told_so = told_so s may r lawful places told list counts f i e whole;
        is_open = rw shown.1 refl;
        position = rw shown.1 refl;
      }

  pub stood_of : (places : List FormPlace) (list : List Occurrence) (counts : List (Option AtQueue)) (f i : ℕ) (e : Event)
      → slice_get (trace_in r f) i ≡ Some e
      → IsStoodOf nodes places followed.runs (stood_of_run places told list counts r.fibers) f i e
  stood_of places list counts f i e at = of_fiber places list counts f i e (fiber_of f r.fibers) refl at

-- what is told of an event at its queue is what is told of that event in the list
pub held_so : (s : ScriptView) (may : ℕ → Bool) (r : ReportView) (list : List Occurrence) (counts : List (Option AtQueue)) → IsStampedReport s may r
    → IsBelowTop (trace_in r) (stamp_in r) → IsInOwnOrder r list → (places : List FormPlace) (told : List (List Stand)) (f i : ℕ) (e : Event)
    → slice_get (trace_in r f) i ≡ Some e → IsHeldSo (stood_of_run places told list counts r.fibers) list counts f i e
held_so s may r list counts report below in_order places told f i e at =
    let order = in_order.keeps s may report below in
    let lawful = report.stamped.lawful in
    record {
      at = order.moment f i;
      stamp = stamp_in r f i;
      stands = order.stands f i e at;
      told = _;
      told_so = told_so s may r lawful places told list counts f i e at;
      held = ap held_by (told_in_list s may r lawful list counts order f i e at);
    }
