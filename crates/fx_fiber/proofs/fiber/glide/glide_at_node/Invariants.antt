use Rattle.std.proofs.Common.{◌≡◌}
use Rattle.fx_fiber.specs.declared.machine.focus.Focus.TheVariants.{Eval}
use Rattle.fx_fiber.specs.Places.{IsSame}
use Rattle.fx_fiber.proofs.fiber.glide.glide_at_node.Given as goal

-- the fiber is the same, and stands at this node
abbrev pub invariant-contexts : goal.invariant-contexts
invariant-contexts g l = record {
  same : IsSame g.P.Port.theory.code g.outset.machine l.machine;
  focus : l.machine.focus ≡ Eval l.id;
}

-- a part comes before its form
abbrev pub decreases-contexts : goal.decreases-contexts
decreases-contexts g l = l.id.0

abbrev pub ghost-look_ahead : goal.ghost-look_ahead
ghost-look_ahead g a = g.outset

abbrev pub ghost-node_row : goal.ghost-node_row
ghost-node_row g a = g.P.Port.theory.code

abbrev pub ghost-glide_at_open_node : goal.ghost-glide_at_open_node
ghost-glide_at_open_node g a = g.outset
