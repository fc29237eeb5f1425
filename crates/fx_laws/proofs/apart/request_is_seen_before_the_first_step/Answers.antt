use Rattle.fx_laws.proofs.SeenBefore.{forced_is_told, forced_error_is_told, bound_is_told, ceded_is_told, polled_is_told, handled_is_told}
use Rattle.fx_laws.proofs.apart.request_is_seen_before_the_first_step.Goals as goal

pub returns-clause-forced : goal.returns-clause-forced
returns-clause-forced c = forced_is_told

pub returns-clause-forced_error : goal.returns-clause-forced_error
returns-clause-forced_error c = forced_error_is_told

pub returns-clause-bound : goal.returns-clause-bound
returns-clause-bound c = bound_is_told

pub returns-clause-ceded : goal.returns-clause-ceded
returns-clause-ceded c = ceded_is_told

pub returns-clause-handled : goal.returns-clause-handled
returns-clause-handled c = handled_is_told

pub returns-clause-polled : goal.returns-clause-polled
returns-clause-polled c = polled_is_told
