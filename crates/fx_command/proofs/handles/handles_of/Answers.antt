use Rattle.fx_command.proofs.NamedLaws.{named_on}
use Rattle.fx_command.proofs.handles.handles_of.Goals as goal

pub loop-next-preserved : goal.loop-next-preserved
loop-next-preserved c = named_on c.args.source.now c.args.places.now _ _ _ _ _ _ c.in-Some.ensures.cases.0 c.in_ok-push_told.ensures c.loop-next.invariant
