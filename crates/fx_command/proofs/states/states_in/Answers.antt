use Rattle.std.proofs.Common.{rules}
use Rattle.fx_command.proofs.StatesLaws.{states_are_written}
use Rattle.fx_command.proofs.states.states_in.Goals as goal

pub returns-in-48-clause-value : goal.returns-in-48-clause-value
returns-in-48-clause-value c = search rules

pub returns-in-48-clause-number : goal.returns-in-48-clause-number
returns-in-48-clause-number c = states_are_written _ _ (returns-in-48-clause-value c)

pub returns-in_default-clause-value : goal.returns-in_default-clause-value
returns-in_default-clause-value c = search rules

pub returns-in_default-clause-number : goal.returns-in_default-clause-number
returns-in_default-clause-number c = states_are_written _ _ (returns-in_default-clause-value c)
