use Rattle.std.proofs.Common.{inl, inr}
use Rattle.fx_fiber.proofs.NodePlaces.{leaf_place, turn_place, result_has_none, await_has_none, unwinding_has_none, end_has_none}
use Rattle.fx_fiber.proofs.machine.Machine.node.Goals as goal

pub returns-in-Eval : goal.returns-in-Eval
returns-in-Eval g c = leaf_place g.nodes c.args.self.now c.leaf_below.result c.leaf_below.ensures

pub returns-in-Turn : goal.returns-in-Turn
returns-in-Turn g c = turn_place g.nodes c.args.self.now c.requires.1 c.in-Turn.id _ c.in-Turn.is

pub returns-in-Return : goal.returns-in-Return
returns-in-Return g c =
    let s = c.args.self.now in
    elim c.in-Return.is [
      | inl result ↦ result_has_none g.nodes s result.0 result.1
      | inr rest ↦ elim rest [
        | inl await ↦ await_has_none g.nodes s await.0 await.1
        | inr last ↦ elim last [
          | inl unwinding ↦ unwinding_has_none g.nodes s unwinding
          | inr end ↦ end_has_none g.nodes s end.0 end.1
        ]
      ]
    ]
