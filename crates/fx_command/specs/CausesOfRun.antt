-- What is told of a run on threads as the causes of its events is what these stand on, and so are the arrows of its picture.
use Rattle.std.specs.Prelude.{◌≡◌, ℕ, Bool, Some, List, slice_get}
use Rattle.fx_term.specs.declared.event.Event.TheVariants as event
use Rattle.fx_term.specs.declared.node.Node.{Node}
use Rattle.fx_term.specs.Script.{ScriptView}
use Rattle.fx_model.specs.Causes.{TakesWhatWasPut, LearnsOfEnd, LeavesQueue}
use Rattle.fx_model.specs.LawfulReport.{IsLawfulReport}
use Rattle.fx_model.specs.Report.{ReportView, trace_in}
use Rattle.fx_order.specs.declared.occurrence.Occurrence.{Occurrence}
use Rattle.fx_follow.specs.declared.stand.Stand.{Stand}
use Rattle.fx_follow.specs.Followed.{AreFollowed}
use Rattle.fx_picture.specs.declared.stood.Stood.{Stood}
use Rattle.fx_picture.specs.DrawsEach.{DrawsEach}
use Rattle.fx_picture.specs.DrawsOnly.{TellsOnly, DrawsOnly}
use Rattle.fx_picture.specs.IsDrawn.{Tells}
use Rattle.fx_run_events.specs.CausesTold.{IsPutKnown}

-- By these runs and histories, which make the report lawful: an event stands on each cause that is told of it; of a get, the put of what it took is told where
-- it is known; and of the first of two, the end of which it learnt, where the fibers were followed. So no arrow of the picture joins other events; and where
-- the fibers were followed and the put of each get is known, none is missing
pub record DrawsCausesOfRun (nodes : List Node) (s : ScriptView) (may : ℕ → Bool) (r : ReportView) (lawful : IsLawfulReport s may r)
    (told : List (List Stand)) (list : List Occurrence) (stood : List Stood) : Type 0 where
  pub only : TellsOnly s may r lawful stood
  pub puts : (f i g j : ℕ) → (so : TakesWhatWasPut (trace_in r) (LeavesQueue s may r lawful) f i g j)
      → IsPutKnown s.capacities r list so.queue so.value → Tells stood f i g j
  pub ends : AreFollowed nodes s r told → (f i side g j : ℕ) → slice_get (trace_in r f) i ≡ Some (event.First side)
      → LearnsOfEnd (trace_in r) lawful.runs.labels f i g j → Tells stood f i g j
  pub drawn : DrawsOnly s may r lawful stood
  pub each : AreFollowed nodes s r told
      → ((f i q v : ℕ) → slice_get (trace_in r f) i ≡ Some (event.Got q v) → IsPutKnown s.capacities r list q v)
      → DrawsEach s may r lawful stood
