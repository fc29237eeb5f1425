use Rattle.std.proofs.Common.{◌≡◌, ℕ, Some, take}
use Rattle.fx_term.specs.declared.outcome.Outcome.{Outcome}
use Rattle.fx_text.specs.View.{meaning}
use Rattle.fx_report.specs.Script.{script_of}
use Rattle.fx_model.specs.Report.{final_outside}
use Rattle.fx_explore.specs.AnswerCalls.{outcome_told}
use Rattle.fx_follow.specs.Followed.{stands_of}
use Rattle.fx_follow.specs.Waiting.{IsUnderWay}
use Rattle.fx_follow.proofs.all_fibers.follow_named.Given as goal

abbrev pub invariant-loop-reported : goal.invariant-loop-reported
invariant-loop-reported g l = record {
  way : IsUnderWay g.J.CodeBrand.nodes (script_of (meaning l.script)) l.report (take l.reported-index l.report.fibers) (stands_of l.told.items)
      l.waiting.items;
  outcomes : (f : ℕ) (o : Outcome) → outcome_told l.answers f ≡ Some o
      → (final_outside (script_of (meaning l.script)) l.report).outcome f ≡ Some o;
}
