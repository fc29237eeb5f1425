use Rattle.fx_counts.proofs.Histories.{has_history}
use Rattle.fx_counts.proofs.laws.counted_histories_are_those_of_the_report.Goals as goal

pub returns : goal.returns
returns c s may r list q lawful keeps history = has_history s may r lawful list q keeps history
