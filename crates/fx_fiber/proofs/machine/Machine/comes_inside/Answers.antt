use Rattle.fx_fiber.proofs.Advances.{inside_leaf, inside_other}
use Rattle.fx_fiber.proofs.machine.Machine.comes_inside.Goals as goal

pub returns-in_ok-node-in-Eval-clause-inside : goal.returns-in_ok-node-in-Eval-clause-inside
returns-in_ok-node-in-Eval-clause-inside g c =
    let here = c.in_ok-node-in-Eval in
    inside_other g.nodes c.enter.new.self c.is_canceled.result
    (inside_leaf g.nodes c.enter.new.self here.field-0-0 here.node.now _ here.ensures.at here.ensures.leaf c.is_canceled.ensures)
