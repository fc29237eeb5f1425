-- What the program says on standard error.
use Rattle.std.specs.Prelude.{List, ℕ, ◌++◌, codes, decimal}
use Rattle.fx_report.specs.Text.{line_end}
use Rattle.fx_run.specs.declared.run_fault.RunFault.{RunFault}
use Rattle.fx_run.specs.declared.run_fault.RunFault.TheVariants.{Workers, Memory, Lost, Unsettled}
use Rattle.fx_command.specs.Printable.{printable}
use Rattle.fx_command.specs.Stream.{StreamView, TakesWhole, TakesPart}

-- this was written whole; or as much of it as was taken, and only where a write of it was refused
pub data Says (text : List ℕ) (old new : StreamView) : Type 0 where
  whole : TakesWhole text old new → Says text old new
  cut_short : TakesPart text old new → Says text old new

-- the lines that are said there
abbrev pub usage_line : List ℕ
usage_line = codes "usage: fibers [check F | replay F [SCHEDULE] | trace F [SCHEDULE] | run F WORKERS]" ++ line_end

abbrev pub no_page_line : List ℕ
no_page_line = codes "there is no help on that word; `fibers help` says on which there is" ++ line_end

abbrev pub unreadable_line : List ℕ → List ℕ
unreadable_line name = codes "cannot read " ++ printable name ++ line_end

abbrev pub memory_line : List ℕ
memory_line = codes "fault memory" ++ line_end

abbrev pub write_line : List ℕ
write_line = codes "fault write" ++ line_end

-- that of a fault of a run
abbrev pub run_fault_line : RunFault → List ℕ
run_fault_line Workers = codes "fault workers: from 1 to 64" ++ line_end
run_fault_line Memory = memory_line
run_fault_line (Lost f) = codes "fault lost " ++ decimal f ++ line_end
run_fault_line (Unsettled f) = codes "fault unsettled " ++ decimal f ++ line_end
