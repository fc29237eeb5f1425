-- The numbers of the faults of an answer.
use Rattle.std.specs.Prelude.{ℕ}
use Rattle.fx_report.specs.declared.answer_fault.AnswerFault.{AnswerFault}
use Rattle.fx_report.specs.declared.answer_fault.AnswerFault.TheVariants.{Read, Write, Memory}

abbrev pub answer_fault_number : AnswerFault → ℕ
answer_fault_number Read = 1
answer_fault_number Write = 2
answer_fault_number Memory = 3
