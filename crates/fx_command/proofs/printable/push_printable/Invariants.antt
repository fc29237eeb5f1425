use Rattle.std.proofs.Common.{◌≡◌, ◌++◌, length, string_bytes}
use Rattle.fx_command.specs.Printable.{printable}
use Rattle.fx_command.proofs.printable.push_printable.Given as goal

-- what is shown so far, and the other bytes as they are shown, are all that is shown
abbrev pub invariant-loop-rest : goal.invariant-loop-rest
invariant-loop-rest l = string_bytes l.shown ++ printable l.rest ≡ string_bytes l.fn.shown ++ printable l.bytes

abbrev pub decreases-loop-rest : goal.decreases-loop-rest
decreases-loop-rest l = length l.rest
