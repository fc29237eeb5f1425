use Rattle.fx_command.proofs.PrintedAnswers.{answer_prints}
use Rattle.fx_command.proofs.laws.complete_answer_prints_each_report.Goals as goal

pub returns : goal.returns
returns c = answer_prints
