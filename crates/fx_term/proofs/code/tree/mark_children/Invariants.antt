-- The nodes before are a forest, and their children are marked.
use Rattle.std.proofs.Common.{◌≡◌, length, take, vec_len}
use Rattle.fx_term.specs.Tree.{all_children, IsForest}
use Rattle.fx_term.specs.Children.{AreMarks}
use Rattle.fx_term.proofs.code.tree.mark_children.Given as goal

abbrev pub invariant-loop-id : goal.invariant-loop-id
invariant-loop-id l = record {
  forest : IsForest (take l.id l.nodes);
  marks : AreMarks (all_children (take l.id l.nodes)) l.taken.items;
  each_node : vec_len l.taken ≡ length l.nodes;
}
