use Rattle.std.proofs.Common.{sym, ◌∙◌}
use Rattle.fx_text.specs.View.{meaning}
use Rattle.fx_report.specs.Script.{script_of}
use Rattle.fx_model.specs.Report.{final_outside}
use Rattle.fx_fiber.specs.Fiber.{progress}
use Rattle.fx_follow.proofs.Blocked.{blocked}
use Rattle.fx_follow.proofs.one_fiber.advance_past.Goals as goal

pub returns-in-Some-clause-blocked : goal.returns-in-Some-clause-blocked
returns-in-Some-clause-blocked g c = λ same.
    let waits = rw c.in-Some.is at c.in_ok-source.ensures.waits in
    let asked = c.expect.ensures.requested ∙ c.requires.asked in
    blocked (final_outside (script_of (meaning c.args.script.now)) c.args.report.now) c.args.reported.now.id
    c.step.new.self.fiber.counts (progress g.J.CodeBrand.nodes c.step.new.self.fiber) c.in-Some.source c.expect.new.answers.is_requested
    waits asked (sym c.has_come.ensures ∙ c.if-not-has_come.true)
