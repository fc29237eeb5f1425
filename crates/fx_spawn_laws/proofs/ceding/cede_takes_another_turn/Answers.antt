use Rattle.fx_spawn_laws.proofs.TurnsOfCede.{value_ends, cede_ends_canceled}
use Rattle.fx_spawn_laws.proofs.ceding.cede_takes_another_turn.Goals as goal

pub returns-clause-valued : goal.returns-clause-valued
returns-clause-valued g c = value_ends g.P.Port.theory

pub returns-clause-ceded : goal.returns-clause-ceded
returns-clause-ceded g c = cede_ends_canceled g.P.Port.theory
