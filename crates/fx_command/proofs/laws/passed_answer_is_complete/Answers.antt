use Rattle.std.proofs.Common.{refl}
use Rattle.fx_command.proofs.PrintedAnswers.{answer_passes}
use Rattle.fx_command.proofs.laws.passed_answer_is_complete.Goals as goal

pub returns-clause-complete : goal.returns-clause-complete
returns-clause-complete c search script schedule expected words text m is answer =
    (answer_passes search script schedule expected words text m _ is answer refl).complete

pub returns-clause-ended : goal.returns-clause-ended
returns-clause-ended c search script schedule expected words text m is answer =
    (answer_passes search script schedule expected words text m _ is answer refl).ended
