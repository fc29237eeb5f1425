-- The numbers of the faults of a fetch.
use Rattle.std.specs.Prelude.{ℕ}
use Rattle.fx_command.specs.declared.files.FetchFault.{FetchFault}
use Rattle.fx_command.specs.declared.files.FetchFault.TheVariants.{Unreadable, Memory}

abbrev pub fetch_fault_number : FetchFault → ℕ
fetch_fault_number Unreadable = 1
fetch_fault_number Memory = 2
