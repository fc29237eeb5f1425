use Rattle.fx_script_laws.proofs.NestedMasks.{nested_reached}
use Rattle.fx_script_laws.proofs.reached.uncancelable_ignored_poll_eliminates_nesting_where_reached.Goals as goal

pub returns : goal.returns
returns c = nested_reached
