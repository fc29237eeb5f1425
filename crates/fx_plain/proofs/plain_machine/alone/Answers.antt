use Rattle.fx_plain.proofs.PlainMachineOpening.{one_more_of}
use Rattle.fx_plain.proofs.plain_machine.alone.Goals as goal

pub loop-other-preserved : goal.loop-other-preserved
loop-other-preserved g c = one_more_of _ _ _ _ c.loop-other._other c.loop-other.invariant c.in_ok-push-2.ensures.items
