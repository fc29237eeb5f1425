use Rattle.fx_fiber.proofs.Nodes.{first_before, entry_is_no_leaf}
use Rattle.fx_fiber.proofs.machine.Machine.enters.Goals as goal

pub returns-clause-ok : goal.returns-clause-ok
returns-clause-ok g c =
    let at = c.requires.0 in (
      entry_is_no_leaf c.args.id c.args.first c.args.node.now c.args.frame c.requires.1,
      c.enter_frame.ensures.same,
      c.in_ok-enter_frame.ensures.focus,
      first_before g.nodes c.args.id c.args.first c.args.node.now c.args.frame at.sound.tree at.node c.requires.1,
    )
