-- A schedule of a main fiber that is alone, and a report of it.
use Rattle.std.specs.Prelude.{true, None, List, [], ◌∷◌}
use Rattle.fx_term.specs.declared.event.Event.TheVariants as event
use Rattle.fx_term.specs.declared.outcome.Outcome.TheVariants.{Succeeded}
use Rattle.fx_model.specs.Report.{ReportView}
use Rattle.fx_text.specs.declared.pick.Pick.{Pick}
use Rattle.fx_text.specs.declared.pick.Pick.TheVariants as pick

abbrev pub two_steps_and_a_request : List Pick
two_steps_and_a_request = pick.Step 0 ∷ pick.Step 0 ∷ pick.Cancel 0 ∷ []

-- it succeeded with 0, and was requested from outside, which it never saw
abbrev pub succeeded_before : ReportView
succeeded_before = record {
  fibers = record { id = 0; parent = None; has_ended = true; trace = event.Ended (Succeeded 0) ∷ []; stamps = 1 ∷ [] } ∷ [];
  left = [];
  outside = 0 ∷ [];
  late = 0;
}
