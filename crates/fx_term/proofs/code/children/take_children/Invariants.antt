-- The children before are marked.
use Rattle.std.proofs.Common.{map, take, true}
use Rattle.fx_term.specs.Signature.{present}
use Rattle.fx_term.specs.Children.{TakesChildren}
use Rattle.fx_term.proofs.code.children.take_children.Given as goal

abbrev pub invariant-loop-entry : goal.invariant-loop-entry
invariant-loop-entry l = TakesChildren l.parent (map (λ p. p.node.0) (present (take l.entry-index l.entry-items))) l.initial.taken true l.taken
