use Rattle.std.proofs.Common.{arith}
use Rattle.fx_fiber.proofs.Flows.{looked_after}
use Rattle.fx_fiber.proofs.fiber.flow.after_look.Goals as goal

pub returns-in-Ok-Looks-clause-reaches : goal.returns-in-Ok-Looks-clause-reaches
returns-in-Ok-Looks-clause-reaches g c =
    let asked = c.requires.1.1.1.1.1 in
    let to = rw c.in-Ok-Looks.field-0-is at c.in-Ok-Looks.ensures.ok in
    let few = to.0 in
    (omega arith, to.1, looked_after g.P.Port.theory g.outset c.args.from _ _ _ asked.1.0 _ _ _ _ to.1 asked.1.1.0, λ lt. to.3)

pub returns-in-Ok-Stops-clause-reaches : goal.returns-in-Ok-Stops-clause-reaches
returns-in-Ok-Stops-clause-reaches g c =
    let asked = c.requires.1.1.1.1.1 in
    let to = rw c.in-Ok-Stops.field-0-is at c.in-Ok-Stops.ensures.ok in
    let room = rw c.in-Ok-Stops.field-0-is at c.in-Ok-Stops.ensures.room in
    (to.0, to.1, looked_after g.P.Port.theory g.outset c.args.from _ _ _ asked.1.0 _ _ _ _ to.1 asked.1.1.0, room)
