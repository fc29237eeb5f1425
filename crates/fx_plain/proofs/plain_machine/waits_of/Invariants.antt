use Rattle.std.proofs.Common.{◌≡◌, take}
use Rattle.fx_plain.specs.PlainMachine.{all_waits}
use Rattle.fx_plain.proofs.plain_machine.waits_of.Given as goal

abbrev pub invariant-loop-place : goal.invariant-loop-place
invariant-loop-place g l = l.waits.items ≡ all_waits g.J.CodeBrand.nodes (take l.place-index l.fibers)
