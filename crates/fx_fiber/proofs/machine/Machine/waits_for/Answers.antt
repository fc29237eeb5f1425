use Rattle.std.proofs.Common.{◌∙◌, inl, inr}
use Rattle.fx_fiber.proofs.WaitsBelow.{waits_below, waits_at_await, result_does_not_wait, turn_does_not_wait, unwinding_does_not_wait, end_does_not_wait}
use Rattle.fx_fiber.proofs.machine.Machine.waits_for.Goals as goal

pub returns-in-Eval : goal.returns-in-Eval
returns-in-Eval g c = c.source_at.ensures ∙ waits_below g.nodes c.args.self.now c.leaf_below-leaf.result c.leaf_below-leaf.ensures

pub returns-in-Await : goal.returns-in-Await
returns-in-Await g c = waits_at_await g.nodes c.args.self.now c.in-Await.fiber c.in-Await.is

pub returns-in-Return : goal.returns-in-Return
returns-in-Return g c =
    let s = c.args.self.now in
    let sound = c.requires.1.0 in
    elim c.in-Return.is [
      | inl result ↦ result_does_not_wait g.nodes s sound result.0 result.1
      | inr rest ↦ elim rest [
        | inl turn ↦ turn_does_not_wait g.nodes s sound turn.0 turn.1 turn.2
        | inr last ↦ elim last [
          | inl unwinding ↦ unwinding_does_not_wait g.nodes s sound unwinding
          | inr end ↦ end_does_not_wait g.nodes s sound end.0 end.1
        ]
      ]
    ]
