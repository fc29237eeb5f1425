use Rattle.fx_spawn_laws.proofs.StartAndJoin.{child_handed_back}
use Rattle.fx_spawn_laws.proofs.joining.joined_fiber_is_handed_back.Goals as goal

pub returns : goal.returns
returns c s may r t m is scoped lawful alone = child_handed_back s may r lawful alone t m is scoped
