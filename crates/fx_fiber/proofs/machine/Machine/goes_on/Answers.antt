use Rattle.std.proofs.Common.{sym, ◌∙◌}
use Rattle.fx_model.specs.Closed.{outside_of}
use Rattle.fx_fiber.specs.LeafBelow.{term_at}
use Rattle.fx_fiber.proofs.LeavesBelow.{closed_below}
use Rattle.fx_model.proofs.WaitingLaws.{leaf_waits, leaf_goes_on}
use Rattle.fx_fiber.proofs.machine.Machine.goes_on.Goals as goal

pub returns-in-Some : goal.returns-in-Some
returns-in-Some g c =
    c.has_come.ensures
    ∙ sym (leaf_waits (outside_of c.args.closed.now) (term_at g.nodes c.args.self.now.registers c.args.leaf.node) c.in-Some.source (sym c.in-Some.ensures))

pub returns-in-None : goal.returns-in-None
returns-in-None g c =
    leaf_goes_on (outside_of c.args.closed.now) (term_at g.nodes c.args.self.now.registers c.args.leaf.node)
    (closed_below g.nodes c.args.self.now c.args.leaf c.requires.0 c.requires.1) (sym c.in-None.ensures)
