use Rattle.fx_term.proofs.CodeLaws.{no_fault_of_code}
use Rattle.fx_term.proofs.laws.faults.code_has_no_fault.Goals as goal

pub returns : goal.returns
returns c = no_fault_of_code
