use Rattle.std.proofs.Common.{refl}
use Rattle.fx_fiber.specs.Places.{after_turn}
use Rattle.fx_fiber.proofs.Advances.{inside_result, inside_loop, same_here}
use Rattle.fx_fiber.proofs.Bursts.{glides, ahead_in_vain}
use Rattle.fx_fiber.proofs.fiber.glide.glide_turn.Goals as goal

pub returns-clause-ok : goal.returns-clause-ok
returns-clause-ok g c =
    let s = c.args.machine.now in
    let asked = c.requires.1.1.1 in
    let two = c.in_ok-turn_goes_on.ensures.ok in
    let between = after_turn s c.in-Some-Loop.id c.in-Some-Loop.turn in (
      between,
      glides g.P.Port.theory s s _ _ (same_here g.P.Port.theory.code s asked.0)
          (inside_result g.P.Port.theory.code s c.in-Return-Val.field-0 asked.0 c.in-Return-Val.is)
          (ahead_in_vain g.P.Port.theory.calls _ _ _ _ asked.1) between two.0,
      glides g.P.Port.theory between between _ _ (same_here g.P.Port.theory.code between two.0.sound)
          (inside_loop g.P.Port.theory.code between c.in-Some-Loop.id c.in-Some-Loop.turn two.0.sound refl)
          (ahead_in_vain g.P.Port.theory.calls _ _ _ _ asked.1) c.turn_goes_on.new.self two.1,
    )
