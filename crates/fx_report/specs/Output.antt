-- What a write that fails leaves, where the bytes that the writer holds are known; and the numbers of its faults.
use Rattle.std.specs.Prelude.{ℕ, ◌<◌, Option, List, length, take}
use Rattle.std.specs.Io.KnownBytes.{Appends, Keeps}
use Rattle.fx_report.specs.declared.out_fault.OutFault.{OutFault}
use Rattle.fx_report.specs.declared.out_fault.OutFault.TheVariants.{Write, Memory}

abbrev pub out_fault_number : OutFault → ℕ
out_fault_number Write = 1
out_fault_number Memory = 2

-- a prefix of the text was written, short of its end, and nothing else
pub record WritesPrefix (text : List ℕ) (old new : Option (List ℕ)) : Type 0 where
  pub count : ℕ
  pub short : count < length text
  pub appended : Appends old new (take count text)

-- what was written of the text before the fault
abbrev pub FailsToWrite : OutFault → List ℕ → Option (List ℕ) → Option (List ℕ) → Type 0
FailsToWrite Write text old new = WritesPrefix text old new
FailsToWrite Memory text old new = Keeps old new

-- the one of these two faults of a longer call that a fault of its writing is
abbrev pub fault_of_writing : {Fault : Type 0} → Fault → Fault → OutFault → Fault
fault_of_writing write memory Write = write
fault_of_writing write memory Memory = memory
