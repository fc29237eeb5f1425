use Rattle.fx_fiber.proofs.Advances.{inside_loop, same_here}
use Rattle.fx_fiber.proofs.Bursts.{glides}
use Rattle.fx_fiber.proofs.Nodes.{loop_number}
use Rattle.fx_fiber.proofs.fiber.glide.glide.Goals as goal

pub node-requires : goal.node-requires
node-requires g c = rw c.requires.1.1.0 (loop_number g.P.Port.theory.code _ c.in-Turn.id (rw c.in-Turn.is at c.requires.1.1.1.0.focus_in))

pub returns-in_ok-turn_rule-in-Rule-look_ahead-clause-ok : goal.returns-in_ok-turn_rule-in-Rule-look_ahead-clause-ok
returns-in_ok-turn_rule-in-Rule-look_ahead-clause-ok g c =
    let s = c.args.machine.now in
    glides g.P.Port.theory s s _ _ (same_here g.P.Port.theory.code s c.requires.1.1.1.0)
    (inside_loop g.P.Port.theory.code s c.in-Turn.id c.in-Turn.turn c.requires.1.1.1.0 c.in-Turn.is)
    (rw c.in-Rule-look_ahead.is at c.look_ahead-in-Turn.ensures) c.turn_rule.new.self
    c.in_ok-turn_rule-in-Rule-look_ahead.ensures.ok
