use Rattle.std.proofs.Common.{◌∙◌, inl, inr}
use Rattle.fx_fiber.proofs.NodePlaces.{leaf_opened, result_opened, turn_opened, await_opened, unwinding_opened, end_opened}
use Rattle.fx_fiber.proofs.machine.Machine.is_open_at_leaf.Goals as goal

pub returns-in-Eval : goal.returns-in-Eval
returns-in-Eval g c = leaf_opened g.nodes c.args.self.now c.leaf_below.result c.leaf_below.ensures

pub returns-in-Return : goal.returns-in-Return
returns-in-Return g c =
    let s = c.args.self.now in
    let sound = c.requires.1 in
    elim c.in-Return.is [
      | inl result ↦ c.is_open.ensures ∙ result_opened g.nodes s sound result.0 result.1
      | inr turn ↦ c.is_open.ensures ∙ turn_opened g.nodes s sound turn.0 turn.1 turn.2
    ]

pub returns-in-Await : goal.returns-in-Await
returns-in-Await g c =
    let s = c.args.self.now in
    let sound = c.requires.1 in
    elim c.in-Await.is [
      | inl await ↦ await_opened g.nodes s sound await.0 await.1
      | inr rest ↦ elim rest [
        | inl unwinding ↦ unwinding_opened g.nodes s sound unwinding
        | inr end ↦ end_opened g.nodes s sound end.0 end.1
      ]
    ]
