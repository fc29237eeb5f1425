use Rattle.fx_laws.proofs.BindingLaws.{bound_in_order}
use Rattle.fx_laws.proofs.binding.flat_map_associativity.Goals as goal

pub returns : goal.returns
returns c = bound_in_order
