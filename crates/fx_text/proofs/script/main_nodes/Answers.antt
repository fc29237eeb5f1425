use Rattle.fx_text.proofs.TreeLaws.{grown_tree}
use Rattle.fx_text.proofs.script.main_nodes.Goals as goal

pub returns-clause-tree : goal.returns-clause-tree
returns-clause-tree c = grown_tree _ _ _ c.new-2.ensures.items c.in_ok-_root.ensures.grows c.in_ok-_root.ensures.went.made.tree c.in_ok-_root.ensures.went.last
