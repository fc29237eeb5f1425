-- A node that is marked is a child, and one that is not marked is none.
use Rattle.std.proofs.Common.{◌<◌, length, arith, below_more}
use Rattle.std.specs.Prelude.{Contains}
use Rattle.fx_term.specs.Tree.{all_children}
use Rattle.fx_term.specs.Code.{orphan}
use Rattle.fx_term.proofs.ChildrenLaws.{marked_stands, unmarked_absent}
use Rattle.fx_term.proofs.code.tree.check_parents.Goals as goal

pub returns-then-not-taken-id-clause-fault : goal.returns-then-not-taken-id-clause-fault
returns-then-not-taken-id-clause-fault c =
    let each_node = c.requires.each_node in
    let within : c.loop-id.id < length c.args.taken.now = omega arith in
    λ queues. orphan c.requires.fits c.requires.forest (omega arith) c.loop-id.invariant
    (unmarked_absent (all_children c.args.nodes.now) c.args.taken.now c.loop-id.id c.requires.marks within c.if-not-taken-id.true)

pub loop-id-preserved : goal.loop-id-preserved
loop-id-preserved c =
    let each_node = c.requires.each_node in
    let within : c.loop-id.id < length c.args.taken.now = omega arith in
    below_more (Contains (all_children c.args.nodes.now)) c.loop-id.id c.loop-id.invariant
    (marked_stands (all_children c.args.nodes.now) c.args.taken.now c.loop-id.id c.requires.marks within c.if-not-taken-id.false)
