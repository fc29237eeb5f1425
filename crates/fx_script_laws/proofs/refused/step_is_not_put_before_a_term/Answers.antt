use Rattle.fx_script_laws.proofs.KeptApart.{step_before, turn_before, mask_before}
use Rattle.fx_script_laws.proofs.refused.step_is_not_put_before_a_term.Goals as goal

pub returns-clause-forced : goal.returns-clause-forced
returns-clause-forced c = step_before

pub returns-clause-ceded : goal.returns-clause-ceded
returns-clause-ceded c = turn_before

pub returns-clause-polled : goal.returns-clause-polled
returns-clause-polled c = mask_before
