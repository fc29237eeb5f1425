use Rattle.fx_spawn_laws.proofs.GivingWay.{ceded, valued}
use Rattle.fx_spawn_laws.proofs.ceding.cede_gives_way.Goals as goal

pub returns-clause-ceded : goal.returns-clause-ceded
returns-clause-ceded c c' old new shared shared' answer at step silent = ceded at step silent

pub returns-clause-valued : goal.returns-clause-valued
returns-clause-valued c c' old new shared shared' answer at step silent = valued at step silent
