use Rattle.std.proofs.Common.{◌≡◌, ◌++◌, take, string_bytes}
use Rattle.std.specs.List.{flat_map}
use Rattle.fx_report.specs.Text.{names_of, trace_lines}
use Rattle.fx_report.proofs.write.push_traces.Given as goal

abbrev pub invariant-loop-fiber : goal.invariant-loop-fiber
invariant-loop-fiber l = string_bytes l.text ≡ string_bytes l.fn.text ++ flat_map (trace_lines (names_of l.queues)) (take l.fiber-index l.fibers)
