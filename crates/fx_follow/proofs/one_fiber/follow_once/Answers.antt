use Rattle.std.proofs.Common.{◌∙◌}
use Rattle.fx_text.specs.View.{meaning}
use Rattle.fx_report.specs.Script.{script_of}
use Rattle.fx_model.specs.Report.{final_outside}
use Rattle.fx_follow.proofs.Told.{still_told}
use Rattle.fx_follow.proofs.Found.{found_keeps}
use Rattle.fx_follow.proofs.one_fiber.follow_once.Goals as goal

pub returns-then-has_ended-clause-trail : goal.returns-then-has_ended-clause-trail
returns-then-has_ended-clause-trail g c = found_keeps _ c.whole.result c.loop-step.trail c.whole.ensures.same c.loop-step.invariant.trail

pub returns-in-IsBlocked-clause-trail : goal.returns-in-IsBlocked-clause-trail
returns-in-IsBlocked-clause-trail g c =
    let outcome = (final_outside (script_of (meaning c.args.script.now)) c.args.report.now).outcome in
    let told = still_told c.args.answers.now c.loop-step.answers outcome c.loop-step.invariant.outcomes c.requires.outcomes in
    found_keeps _ c.whole-in-IsBlocked.result c.advance.new.trail c.whole-in-IsBlocked.ensures.same
    (λ b first. c.in_ok-advanced.ensures.trail outcome b told (c.loop-step.invariant.trail b first))

pub loop-step-preserved : goal.loop-step-preserved
loop-step-preserved g c =
    let outcome = (final_outside (script_of (meaning c.args.script.now)) c.args.report.now).outcome in
    let told = still_told c.args.answers.now c.loop-step.answers outcome c.loop-step.invariant.outcomes c.requires.outcomes in
    record {
      trail = λ b first. c.in_ok-advanced.ensures.trail outcome b told (c.loop-step.invariant.trail b first);
      outcomes = c.in_ok-advanced.ensures.outcomes ∙ c.loop-step.invariant.outcomes;
    }
