use Rattle.std.proofs.Common.{◌≡◌, take, All}
use Rattle.fx_report.specs.Waits.{waits_in}
use Rattle.fx_plain.specs.Standing.{StandsIn}
use Rattle.fx_plain.proofs.plain_machine.PlainMachine.all_blocked.Given as goal

abbrev pub invariant-loop-wait : goal.invariant-loop-wait
invariant-loop-wait g l = (waits_in l.all.items ≡ take l.wait-index l.waits) × All (StandsIn g.J.CodeBrand.nodes l.self) l.all.items
