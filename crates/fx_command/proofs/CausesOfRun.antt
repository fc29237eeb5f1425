-- The causes that are told of a run are those of its picture.
use Rattle.std.proofs.Common.{ℕ, Bool, Option, List, sym, ◌∙◌}
use Rattle.fx_term.specs.declared.node.Node.{Node}
use Rattle.fx_term.specs.Script.{ScriptView}
use Rattle.fx_model.specs.Report.{ReportView}
use Rattle.fx_order.specs.declared.occurrence.Occurrence.{Occurrence}
use Rattle.fx_counts.specs.declared.at_queue.AtQueue.{AtQueue}
use Rattle.fx_follow.specs.declared.stand.Stand.{Stand}
use Rattle.fx_picture.proofs.ArrowsStand.{draws_only}
use Rattle.fx_picture.proofs.CausesDrawn.{draws_each}
use Rattle.fx_picture.specs.DrawsOnly.{TellsOnly}
use Rattle.fx_places.specs.declared.place.FormPlace.{FormPlace}
use Rattle.fx_run_events.specs.CausesTold.{TellsCausesOfRun}
use Rattle.fx_run_events.specs.RanEvents.{ran_events}
use Rattle.fx_command.specs.CausesOfRun.{DrawsCausesOfRun}
use Rattle.fx_command.specs.StoodOfRun.{stood_of_run}
use Rattle.fx_command.proofs.StoodOfRun.{cause_as}

pub causes_of_run : (nodes : List Node) (s : ScriptView) (may : ℕ → Bool) (r : ReportView) (told : List (List Stand)) (list : List Occurrence)
    (counts : List (Option AtQueue)) (tells : TellsCausesOfRun nodes s may r told list (ran_events told list counts r.fibers)) (places : List FormPlace)
    → DrawsCausesOfRun nodes s may r tells.lawful told list (stood_of_run places told list counts r.fibers)
causes_of_run nodes s may r told list counts tells places =
    let only : TellsOnly s may r tells.lawful (stood_of_run places told list counts r.fibers) =
    λ f i g j is. tells.only f i g j (sym (cause_as places f (ran_events told list counts r.fibers) i) ∙ is) in
    record {
      only = only;
      puts = λ f i g j so known. cause_as places f (ran_events told list counts r.fibers) i ∙ tells.puts f i g j so known;
      ends = λ are f i side g j first so. cause_as places f (ran_events told list counts r.fibers) i ∙ tells.ends are f i side g j first so;
      drawn = draws_only s may r tells.lawful (stood_of_run places told list counts r.fibers) only;
      each = λ are known. draws_each s may r tells.lawful (stood_of_run places told list counts r.fibers) (record {
        puts = λ f i g j so.
            cause_as places f (ran_events told list counts r.fibers) i ∙ tells.puts f i g j so (known f i so.queue so.value so.got);
        ends = λ f i side g j first so.
            cause_as places f (ran_events told list counts r.fibers) i ∙ tells.ends are f i side g j first so;
      });
    }
