use Rattle.fx_term.proofs.NeedLaws.{each_needs_few}
use Rattle.fx_term.proofs.laws.needs.each_node_needs_few.Goals as goal

pub returns : goal.returns
returns c = each_needs_few
