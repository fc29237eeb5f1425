use Rattle.std.proofs.Common.{◌≡◌, map}
use Rattle.std.specs.List.{range_with_len}
use Rattle.fx_run.specs.Flows.{rest_in}
use Rattle.fx_run.proofs.flows.Flows.rests.Given as goal

abbrev pub invariant-loop-queue : goal.invariant-loop-queue
invariant-loop-queue l = l.rests.items ≡ map (rest_in l.fn.self) (range_with_len 0 l.queue)
