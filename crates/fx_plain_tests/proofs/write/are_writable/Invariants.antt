use Rattle.std.proofs.Common.{take, All}
use Rattle.fx_report.specs.Text.{IsWritableFiber}
use Rattle.fx_plain_tests.proofs.write.are_writable.Given as goal

abbrev pub invariant-loop-fiber : goal.invariant-loop-fiber
invariant-loop-fiber l = All (IsWritableFiber l.queues) (take l.fiber-index l.fibers)
