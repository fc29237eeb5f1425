use Rattle.std.proofs.Common.{sym, ◌∙◌, inl, inr}
use Rattle.fx_model.specs.Closed.{outside_of}
use Rattle.fx_fiber.proofs.LeavesBelow.{interrupted_can_step, leaf_goes, await_can_step, result_can_step, turn_can_step, unwinding_can_step}
use Rattle.fx_fiber.proofs.machine.Machine.can_step.Goals as goal

pub returns-then-is_interrupted_at : goal.returns-then-is_interrupted_at
returns-then-is_interrupted_at g c =
    let leaf = c.leaf_below-leaf in
    c.if-is_interrupted_at.true
    ∙ interrupted_can_step g.nodes c.args.self.now leaf.result (outside_of c.args.closed.now) c.args.fiber c.is_requested-is_requested.result
    c.is_requested-is_requested.ensures leaf.ensures (sym c.is_interrupted_at.ensures ∙ c.if-is_interrupted_at.true)

pub returns-else-is_interrupted_at : goal.returns-else-is_interrupted_at
returns-else-is_interrupted_at g c =
    let leaf = c.leaf_below-leaf in
    leaf_goes g.nodes c.args.self.now leaf.result (outside_of c.args.closed.now) c.args.fiber c.is_requested-is_requested.result
    c.is_requested-is_requested.ensures leaf.ensures c.goes_on.result (sym c.is_interrupted_at.ensures ∙ c.if-is_interrupted_at.false) c.goes_on.ensures

pub returns-in-Await : goal.returns-in-Await
returns-in-Await g c =
    c.has_ended.ensures
    ∙ sym (await_can_step g.nodes c.args.self.now (outside_of c.args.closed.now) c.args.fiber c.in-Await.other c.requires.1.0 c.in-Await.is)

pub returns-in-Return : goal.returns-in-Return
returns-in-Return g c =
    let o = outside_of c.args.closed.now in
    let s = c.args.self.now in
    elim c.in-Return.is [
      | inl result ↦ sym (result_can_step g.nodes s o c.args.fiber c.requires.1.0 result.0 result.1)
      | inr rest ↦ elim rest [
        | inl turn ↦ sym (turn_can_step g.nodes s o c.args.fiber c.requires.1.0 turn.0 turn.1 turn.2)
        | inr unwinding ↦ sym (unwinding_can_step g.nodes s o c.args.fiber c.requires.1.0 unwinding)
      ]
    ]
