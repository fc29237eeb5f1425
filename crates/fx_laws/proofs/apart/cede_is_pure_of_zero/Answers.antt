use Rattle.fx_laws.proofs.MonadLaws.{cede_is_pure, cede_steps_as_pure}
use Rattle.fx_laws.proofs.apart.cede_is_pure_of_zero.Goals as goal

pub returns-clause-same : goal.returns-clause-same
returns-clause-same c = cede_is_pure

pub returns-clause-steps : goal.returns-clause-steps
returns-clause-steps c = cede_steps_as_pure
