use Rattle.std.proofs.Common.{take, All}
use Rattle.fx_term.specs.declared.stamped.Stamped.{Stamped}
use Rattle.fx_term.specs.QueuesNamed.{NamesQueueBelow}
use Rattle.fx_plain_tests.proofs.write.trace_names_below.Given as goal

abbrev pub invariant-loop-stamped : goal.invariant-loop-stamped
invariant-loop-stamped l = All (λ (x : Stamped). NamesQueueBelow l.queues x.event) (take l.stamped-index l.trace)
