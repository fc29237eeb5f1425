use Rattle.std.proofs.Common.{refl, ◌∙◌}
use Rattle.fx_fiber.proofs.Turns.{waits_here}
use Rattle.fx_plain.specs.PlainCalls.{plain_theory}
use Rattle.fx_plain.proofs.started.flow.Goals as goal

pub returns-in-Stops-clause-ok : goal.returns-in-Stops-clause-ok
returns-in-Stops-clause-ok g c =
    let to = rw c.in-Stops.is at c.flow.ensures.to in
    (_, to.0, to.2)

pub returns-in-Waits-clause-ok : goal.returns-in-Waits-clause-ok
returns-in-Waits-clause-ok g c =
    let to = rw c.in-Waits.is at c.flow.ensures.to in
    rw (c.waits_at_queue.ensures ∙ waits_here (plain_theory g.J.CodeBrand.nodes) _ _ _ _ _ to.1) (_, to.1, refl)
