-- A report of a refusal that cannot have been: the one fiber of a script offers 1 to a queue with room for four, to which nobody did anything, and is refused.
use Rattle.std.specs.Prelude.{true, None, List, [], ◌∷◌}
use Rattle.fx_term.specs.declared.node.Arg.TheVariants.{Number}
use Rattle.fx_term.specs.declared.outcome.Outcome.TheVariants.{Succeeded}
use Rattle.fx_term.specs.declared.event.Event.{Event}
use Rattle.fx_term.specs.declared.event.Event.TheVariants as event
use Rattle.fx_term.specs.Term.{TryOffer}
use Rattle.fx_term.specs.Script.{ScriptView}
use Rattle.fx_model.specs.Report.{FiberReportView, ReportView}

abbrev pub false_script : ScriptView
false_script = record { term = TryOffer 0 (Number 1); capacities = 4 ∷ [] }

abbrev pub false_trace : List Event
false_trace = event.Refused 0 ∷ event.Ended (Succeeded 0) ∷ []

abbrev pub false_fiber : FiberReportView
false_fiber = record { id = 0; parent = None; has_ended = true; trace = false_trace; stamps = 1 ∷ 2 ∷ [] }

abbrev pub false_report : ReportView
false_report = record { fibers = false_fiber ∷ []; left = [] ∷ []; outside = []; late = 0 }
