-- Each node before is a child.
use Rattle.std.proofs.Common.{ℕ, ◌<◌}
use Rattle.std.specs.Prelude.{Contains}
use Rattle.fx_term.specs.Tree.{all_children}
use Rattle.fx_term.proofs.code.tree.check_parents.Given as goal

abbrev pub invariant-loop-id : goal.invariant-loop-id
invariant-loop-id l = (j : ℕ) → j < l.id → Contains (all_children l.nodes) j
