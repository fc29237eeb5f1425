use Rattle.std.proofs.Common.{refl}
use Rattle.fx_fiber.proofs.TurnsOn.{dropped, goes_on}
use Rattle.fx_fiber.proofs.machine.Machine.turn_turns.Goals as goal

pub returns-clause-ok : goal.returns-clause-ok
returns-clause-ok g c =
    let s = c.args.self.now in
    let n = c.requires.0.0 in
    let inside = c.requires.0.1 in
    let loop = c.requires.1.0 in (
      dropped g.nodes s c.args.id c.args.turn n inside,
      goes_on g.nodes s c.args.id c.args.turn n inside c.args.name loop.0 c.args.part loop.1 loop.2 _
          (rw (c.in_ok-bind.ensures.ok, c.from.ensures, c.next_turn.ensures _ _ _ inside.frames, inside.frames) refl),
    )
