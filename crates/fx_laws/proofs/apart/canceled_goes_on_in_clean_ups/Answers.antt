use Rattle.fx_laws.proofs.ToldApart.{cleanup_goes_on}
use Rattle.fx_laws.proofs.apart.canceled_goes_on_in_clean_ups.Goals as goal

pub returns : goal.returns
returns c = cleanup_goes_on
