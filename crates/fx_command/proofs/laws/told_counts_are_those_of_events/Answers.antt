use Rattle.fx_command.proofs.StoodOf.{held_so}
use Rattle.fx_command.proofs.laws.told_counts_are_those_of_events.Goals as goal

pub returns : goal.returns
returns c s may r list counts report below in_order places told f i e at =
    held_so s may r list counts report below in_order places told f i e at
