-- The numbers of the kinds of faults, and where a fault is.
use Rattle.std.specs.Prelude.{ℕ, ◌-◌}
use Rattle.fx_text.specs.declared.fault.TextKind.{TextKind}
use Rattle.fx_text.specs.declared.fault.TextKind.TheVariants as kind
use Rattle.fx_text.specs.declared.fault.TextFault.{TextFault}
use Rattle.fx_text.specs.declared.fault.ReadError.{ReadError}
use Rattle.fx_text.specs.declared.fault.ReadError.TheVariants as errors

-- the number of a kind
abbrev pub kind_number : TextKind → ℕ
kind_number kind.Length = 1
kind_number kind.Byte = 2
kind_number kind.Number = 3
kind_number kind.Ended = 4
kind_number kind.Form = 5
kind_number kind.Unwanted = 6
kind_number kind.Unknown = 7
kind_number kind.Taken = 8
kind_number kind.Size = 9
kind_number kind.Queues = 10
kind_number kind.Depth = 11
kind_number kind.Need = 12
kind_number kind.Main = 13
kind_number kind.Memory = 14

-- what is answered for it, where the text has so many bytes
abbrev pub answered : ℕ → ReadError → TextFault
answered len errors.Memory = record { kind = kind.Memory; at = 0 }
answered len (errors.Fault f) = record { kind = f.kind; at = len - f.left }
