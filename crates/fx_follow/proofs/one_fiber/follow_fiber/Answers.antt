use Rattle.fx_text.specs.View.{meaning}
use Rattle.fx_report.specs.Script.{script_of}
use Rattle.fx_model.specs.Report.{final_outside}
use Rattle.fx_follow.proofs.Told.{still_told}
use Rattle.fx_follow.proofs.one_fiber.follow_fiber.Goals as goal

pub follow_once-requires-clause-outcomes : goal.follow_once-requires-clause-outcomes
follow_once-requires-clause-outcomes g c = still_told c.args.answers.now c.loop-tried.answers
    (final_outside (script_of (meaning c.args.script.now)) c.args.report.now).outcome c.loop-tried.invariant c.requires.outcomes
