use Rattle.fx_script_laws.proofs.NestedMasks.{nested_masks}
use Rattle.fx_script_laws.proofs.regions.uncancelable_ignored_poll_eliminates_nesting_in_scripts.Goals as goal

pub returns : goal.returns
returns c = nested_masks
