-- Each node's need is made from those before.
use Rattle.std.proofs.Common.{length, subst, sym, ap, ◌∙◌, arith}
use Rattle.std.specs.Prelude.{◌<◌, All, slice_index, slice_index_or}
use Rattle.fx_term.specs.declared.node.Arg.TheVariants.{Number}
use Rattle.fx_term.specs.declared.node.Node.{Node}
use Rattle.fx_term.specs.declared.node.Node.TheVariants.{Pure}
use Rattle.fx_term.specs.Tree.{children}
use Rattle.fx_term.specs.NodeNeed.{capped, need_of_node, AreNeeds}
use Rattle.fx_term.proofs.NeedLaws.{needs_of_none, children_have_needs, needs_push}
use Rattle.fx_term.proofs.code.needs.needs_of_nodes.Goals as goal

-- what an index out of range would give, which is none of these here
abbrev absent : Node
absent = Pure (Number 0)

pub loop-node-init : goal.loop-node-init
loop-node-init c = needs_of_none c.args.nodes.now c.new-needs.result.items c.new-needs.ensures.items

pub need_of_node-need-requires : goal.need_of_node-need-requires
need_of_node-need-requires c =
    subst (λ needs. All (λ child. child < length needs) (children (slice_index_or c.args.nodes.now c.loop-node.node-index absent))) (sym c.deref.ensures.value)
    (children_have_needs c.args.nodes.now c.requires c.loop-node.node-index absent c.loop-node-test.true c.loop-node.needs.items c.loop-node.invariant)

pub loop-node-preserved : goal.loop-node-preserved
loop-node-preserved c =
    let made = c.need_of_node-need.ensures
    ∙ ap (λ needs. capped (need_of_node (λ i. slice_index needs i) (slice_index_or c.args.nodes.now c.loop-node.node-index absent))) c.deref.ensures.value in
    needs_push c.args.nodes.now c.requires c.loop-node.node-index absent c.loop-node-test.true c.loop-node.needs.items c.loop-node.invariant
    c.need_of_node-need.result made c.push.new.self.items c.in_ok-push.ensures.items

pub returns-clause-needs : goal.returns-clause-needs
returns-clause-needs c =
    subst (λ count. AreNeeds c.args.nodes.now count c.loop-node.needs.items) (omega arith) c.loop-node.invariant
