use Rattle.std.proofs.Common.{◌≡◌, ◌++◌, take, string_bytes}
use Rattle.std.specs.List.{flat_map}
use Rattle.fx_report.specs.Text.{fiber_line}
use Rattle.fx_report.proofs.write.push_fiber_lines.Given as goal

abbrev pub invariant-loop-fiber : goal.invariant-loop-fiber
invariant-loop-fiber l = string_bytes l.text ≡ string_bytes l.fn.text ++ flat_map fiber_line (take l.fiber-index l.fibers)
