use Rattle.std.proofs.Common.{◌≡◌}
use Rattle.fx_text.specs.View.{meaning}
use Rattle.fx_report.specs.Script.{script_of}
use Rattle.fx_model.specs.Origin.{Origin}
use Rattle.fx_model.specs.Report.{final_outside}
use Rattle.fx_fiber.specs.Fiber.{IsAtFirst}
use Rattle.fx_follow.specs.Trails.{IsTrail}
use Rattle.fx_follow.proofs.one_fiber.follow_once.Given as goal

abbrev pub invariant-loop-step : goal.invariant-loop-step
invariant-loop-step g l = record {
  trail : (b : Origin) → IsAtFirst g.J.CodeBrand.nodes b l.fn.first
      → IsTrail g.J.CodeBrand.nodes (final_outside (script_of (meaning l.script)) l.report).outcome b l.trail.fiber l.trail.last_node l.trail.stands.items
      l.trail.children.items;
  outcomes : l.answers.outcomes ≡ l.fn.answers.outcomes;
}
