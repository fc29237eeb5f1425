use Rattle.fx_run.proofs.PassChanges.{first_is_new, given_is_new, split_is_for, put_is_one_more, get_is_one_more}
use Rattle.fx_run.proofs.laws.ports.passes_change_so.Goals as goal

pub returns-clause-first : goal.returns-clause-first
returns-clause-first c = first_is_new

pub returns-clause-given : goal.returns-clause-given
returns-clause-given c = given_is_new

pub returns-clause-kept : goal.returns-clause-kept
returns-clause-kept c = split_is_for

pub returns-clause-put : goal.returns-clause-put
returns-clause-put c = put_is_one_more

pub returns-clause-got : goal.returns-clause-got
returns-clause-got c = get_is_one_more
