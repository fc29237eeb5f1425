use Rattle.fx_command.proofs.StoodOf.{stood_of}
use Rattle.fx_command.proofs.laws.told_stands_are_those_of_events.Goals as goal

pub returns : goal.returns
returns c nodes s may r told lawful followed places list counts f i e =
    stood_of nodes s may r told lawful followed places list counts f i e
