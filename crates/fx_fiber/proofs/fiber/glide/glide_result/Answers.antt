use Rattle.std.proofs.Common.{refl, arith}
use Rattle.fx_fiber.specs.Places.{after_turn}
use Rattle.fx_fiber.proofs.Advances.{inside_result, inside_loop, same_here}
use Rattle.fx_fiber.proofs.Bursts.{glides}
use Rattle.fx_fiber.proofs.Nodes.{loop_number}
use Rattle.fx_fiber.proofs.fiber.glide.glide_result.Goals as goal

pub returns-in-Made-clause-ok : goal.returns-in-Made-clause-ok
returns-in-Made-clause-ok g c =
    let s = c.args.machine.now in
    let asked = c.requires.1.1.1 in
    let made = rw c.in-Made.is at c.in_ok-result_row.ensures.ok in
    glides g.P.Port.theory s s _ _ (same_here g.P.Port.theory.code s asked.0)
    (inside_result g.P.Port.theory.code s c.args.done asked.0 asked.1.0) asked.1.1 c.result_row.new.self made.1

pub returns-then-left-lt2-clause-ok : goal.returns-then-left-lt2-clause-ok
returns-then-left-lt2-clause-ok g c =
    let s = c.args.machine.now in
    let asked = c.requires.1.1.1 in
    let turned = rw c.in-Turned.is at c.in_ok-result_row.ensures.ok in
    glides g.P.Port.theory s s _ _ (same_here g.P.Port.theory.code s asked.0)
    (inside_result g.P.Port.theory.code s c.args.done asked.0 asked.1.0) asked.1.1 c.turn_value.new.self (rw turned.0 at c.turn_value.ensures.made)

pub node-requires : goal.node-requires
node-requires g c =
    let turned = rw c.in-Turned.is at c.in_ok-result_row.ensures.ok in
    let inside = turned.2 in
    let frames = rw inside.frames at inside.given.sound.frames_in in
    rw c.requires.1.1.0 (loop_number g.P.Port.theory.code _ c.in-Turned.id frames.2)

pub returns-in_ok-turn_goes_on-in-Turned-clause-ok : goal.returns-in_ok-turn_goes_on-in-Turned-clause-ok
returns-in_ok-turn_goes_on-in-Turned-clause-ok g c =
    let s = c.args.machine.now in
    let asked = c.requires.1.1.1 in
    let turned = rw c.in-Turned.is at c.in_ok-result_row.ensures.ok in
    let two = rw turned.0 at c.in_ok-turn_goes_on-in-Turned.ensures.ok in
    let between = after_turn s c.in-Turned.id c.in-Turned.turn in
    let left = c.if-left-lt2.false in (
      omega arith,
      between,
      glides g.P.Port.theory s s _ _ (same_here g.P.Port.theory.code s asked.0)
          (inside_result g.P.Port.theory.code s c.args.done asked.0 asked.1.0) asked.1.1 between two.0,
      glides g.P.Port.theory between between _ _ (same_here g.P.Port.theory.code between two.0.sound)
          (inside_loop g.P.Port.theory.code between c.in-Turned.id c.in-Turned.turn two.0.sound refl) asked.1.1 c.turn_goes_on.new.self two.1,
    )
