use Rattle.fx_laws.proofs.Showing.{whole_of_everywhere}
use Rattle.fx_laws.proofs.everywhere.everywhere_is_at_the_beginning_too.Goals as goal

pub returns : goal.returns
returns c = whole_of_everywhere
