use Rattle.std.proofs.Common.{◌≡◌, ◌++◌, map, take, string_bytes}
use Rattle.std.specs.List.{flat_map}
use Rattle.fx_explore.specs.Told.{told_line}
use Rattle.fx_findings.specs.Explored.{view_halt}
use Rattle.fx_findings.proofs.write.push_halt_lines.Given as goal

abbrev pub invariant-loop-halt : goal.invariant-loop-halt
invariant-loop-halt l = string_bytes l.text ≡ string_bytes l.fn.text ++ flat_map told_line (map view_halt (take l.halt-index l.halts))
