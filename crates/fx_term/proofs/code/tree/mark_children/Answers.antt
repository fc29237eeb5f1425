-- Each node's children follow those before.
use Rattle.std.proofs.Common.{◌≡◌, ◌+◌, length, take, inr, sym, subst, ◌∙◌}
use Rattle.std.proofs.lemmas.List.{with_items_is}
use Rattle.fx_term.specs.declared.node.Arg.TheVariants.{Number}
use Rattle.fx_term.specs.declared.node.Node.TheVariants.{Pure}
use Rattle.fx_term.specs.Tree.{all_children}
use Rattle.fx_term.specs.Children.{AreMarks}
use Rattle.fx_term.specs.Code.{stray}
use Rattle.fx_term.proofs.ChildrenLaws.{marks_none}
use Rattle.fx_term.proofs.TreeLaws.{forest_none, forest_more, marks_more, stray_more}
use Rattle.fx_term.proofs.code.tree.mark_children.Goals as goal

pub loop-id-init : goal.loop-id-init
loop-id-init c = record {
  forest = forest_none;
  marks = marks_none (length c.args.nodes.now) c.in_ok-taken.taken.items (c.in_ok-taken.ensures.items_if_clones_equal (λ y same. same));
  each_node = c.in_ok-taken.ensures.len;
}

pub returns-then-not-take_children-clause-fault : goal.returns-then-not-take_children-clause-fault
returns-then-not-take_children-clause-fault c =
    let marks = subst (AreMarks (all_children (take c.loop-id.id c.args.nodes.now))) (sym c.deref_mut.ensures.value) c.loop-id.invariant.marks in
    λ queues. inr (stray c.requires c.loop-id-test.true c.loop-id.invariant.forest
    (stray_more c.args.nodes.now c.loop-id.id (Pure (Number 0)) c.deref_mut.result.now c.take_children.new.taken c.loop-id-test.true c.loop-id.invariant.forest
    marks c.if-not-take_children.ensures))

pub loop-id-preserved : goal.loop-id-preserved
loop-id-preserved c =
    let marks = subst (AreMarks (all_children (take c.loop-id.id c.args.nodes.now))) (sym c.deref_mut.ensures.value) c.loop-id.invariant.marks in
    let kept : length c.take_children.new.taken ≡ c.loop-id.taken.len = c.take_children.auto.taken ∙ c.deref_mut.ensures.len in
    record {
      forest =
          forest_more c.args.nodes.now c.loop-id.id (Pure (Number 0)) c.deref_mut.result.now c.take_children.new.taken c.loop-id-test.true
          c.loop-id.invariant.forest marks c.if-not-take_children.ensures;
      marks = subst (AreMarks (all_children (take (c.loop-id.id + 1) c.args.nodes.now))) (sym (with_items_is c.loop-id.taken c.take_children.new.taken kept))
          (marks_more c.args.nodes.now c.loop-id.id (Pure (Number 0)) c.deref_mut.result.now c.take_children.new.taken c.loop-id-test.true
          c.loop-id.invariant.forest marks c.if-not-take_children.ensures);
      each_node = c.loop-id.invariant.each_node;
    }
