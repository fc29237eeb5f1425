use Rattle.std.proofs.Common.{◌≡◌, ◌++◌, take, string_bytes}
use Rattle.fx_report.specs.Text.{names_of}
use Rattle.fx_report.specs.Waits.{blocked_text}
use Rattle.fx_report.proofs.waits.push_blocked_lines.Given as goal

abbrev pub invariant-loop-it : goal.invariant-loop-it
invariant-loop-it l = string_bytes l.text ≡ string_bytes l.fn.text ++ blocked_text (names_of l.queues) l.positions (take l.it-index l.blocked)
