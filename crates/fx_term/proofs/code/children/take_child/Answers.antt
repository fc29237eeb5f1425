-- One child is marked where it stands before its parent and is not marked.
use Rattle.std.proofs.Common.{arith}
use Rattle.fx_term.proofs.ChildrenLaws.{takes_free_child, refuses_later_child, refuses_marked_child}
use Rattle.fx_term.proofs.code.children.take_child.Goals as goal
use Rattle.fx_term.proofs.code.children.take_child.Goals.{then-child-parent-via-then-child-parent, then-child-parent-via-else-child-parent+then-taken-child}

pub returns-then-child-parent : goal.returns-then-child-parent
returns-then-child-parent c = elim c.then-child-parent.branch [
  | then-child-parent-via-then-child-parent w ↦ refuses_later_child c.args.parent c.args.child.0 c.args.taken.now c.args.taken.now (omega arith)
  | then-child-parent-via-else-child-parent+then-taken-child w ↦ refuses_marked_child c.args.parent c.args.child.0 c.args.taken.now c.args.taken.now
      (omega arith) c.requires w.if-taken-child.true
]

pub returns : goal.returns
returns c = takes_free_child c.args.parent c.args.child.0 c.args.taken.now (omega arith) c.requires c.if-taken-child.false
