use Rattle.fx_fiber.proofs.Nodes.{first_before}
use Rattle.fx_fiber.proofs.LeavesBelow.{one_down}
use Rattle.fx_fiber.proofs.machine.Machine.leaf_below.Goals as goal

pub contexts-smaller : goal.contexts-smaller
contexts-smaller g c =
    first_before g.nodes c.contexts.id c.in-Some.first c.node-node.result.now c.in-Some.frame c.contexts.invariant.same.sound.tree
    (rw c.requires.0 at c.node-node.ensures.node) c.in-Some.ensures

pub contexts-preserved : goal.contexts-preserved
contexts-preserved g c =
    rw c.stays_open-is_open.ensures
    (one_down g.nodes c.args.self.now c.contexts.id c.in-Some.first c.node-node.result.now c.in-Some.frame c.contexts.is_open c.contexts.invariant
    (rw c.requires.0 at c.node-node.ensures.node) c.in-Some.ensures)
