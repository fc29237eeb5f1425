use Rattle.std.proofs.Common.{refl}
use Rattle.fx_fiber.proofs.TurnsOn.{dropped_to}
use Rattle.fx_fiber.proofs.machine.Machine.turn_value.Goals as goal

pub returns-clause-made : goal.returns-clause-made
returns-clause-made g c =
    let inside = c.requires.1 in
    dropped_to g.nodes c.args.self.now c.args.id c.args.turn c.requires.0 inside _ (rw (c.pop.ensures.rest _ _ inside.frames, inside.frames) refl)

pub returns-clause-is : goal.returns-clause-is
returns-clause-is g c =
    let inside = c.requires.1 in
    rw (c.pop.ensures.rest _ _ inside.frames, inside.frames) refl
