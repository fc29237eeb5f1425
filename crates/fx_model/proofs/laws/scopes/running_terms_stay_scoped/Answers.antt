use Rattle.fx_model.proofs.ScopedRuns.{run_stays_scoped, run_starts_scoped}
use Rattle.fx_model.proofs.laws.scopes.running_terms_stay_scoped.Goals as goal

pub returns-clause-term : goal.returns-clause-term
returns-clause-term c = run_stays_scoped

pub returns-clause-children : goal.returns-clause-children
returns-clause-children c = run_starts_scoped
