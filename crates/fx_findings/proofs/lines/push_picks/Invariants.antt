use Rattle.std.proofs.Common.{◌≡◌, ◌++◌, take, string_bytes}
use Rattle.std.specs.List.{flat_map}
use Rattle.fx_findings.specs.Text.{pick_text}
use Rattle.fx_findings.proofs.lines.push_picks.Given as goal

abbrev pub invariant-loop-pick : goal.invariant-loop-pick
invariant-loop-pick l = string_bytes l.text ≡ string_bytes l.fn.text ++ flat_map pick_text (take l.pick-index l.picks)
