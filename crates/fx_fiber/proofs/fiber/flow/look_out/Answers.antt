use Rattle.fx_fiber.proofs.Flows.{seen_after}
use Rattle.fx_fiber.proofs.fiber.flow.look_out.Goals as goal

pub returns-then-sees_request-clause-looked : goal.returns-then-sees_request-clause-looked
returns-then-sees_request-clause-looked g c =
    let asked = c.requires.1.1 in
    seen_after g.P.Port.theory g.outset c.args.most c.args.made asked.1.1.1.1.0 _ _ _ asked.1.1.1.1.1.0 _ _
    (rw (asked.0, asked.1.0, asked.1.1.0) c.if-sees_request.ensures.saw)
