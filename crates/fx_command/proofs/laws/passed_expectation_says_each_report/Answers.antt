use Rattle.std.proofs.Common.{refl}
use Rattle.fx_command.proofs.ExpectedAnswers.{answered_so}
use Rattle.fx_command.proofs.laws.passed_expectation_says_each_report.Goals as goal

pub returns : goal.returns
returns c most script schedule expected words text m is answer = answered_so m most script schedule expected words _ text is answer refl
