use Rattle.fx_laws.proofs.Boundary.{boundary_is_seen}
use Rattle.fx_laws.proofs.apart.finalizer_stands_inside_a_mask_or_outside.Goals as goal

pub returns : goal.returns
returns c = boundary_is_seen
