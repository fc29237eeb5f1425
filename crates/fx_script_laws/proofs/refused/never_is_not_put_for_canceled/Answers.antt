use Rattle.fx_script_laws.proofs.KeptApart.{never_for_canceled}
use Rattle.fx_script_laws.proofs.refused.never_is_not_put_for_canceled.Goals as goal

pub returns : goal.returns
returns c = never_for_canceled
