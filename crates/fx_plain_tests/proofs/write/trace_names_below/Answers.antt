use Rattle.std.proofs.Common.{rules}
use Rattle.std.proofs.lemmas.List.{take_all}
use Rattle.std.proofs.lemmas.List.Elements.{All-more, All-map}
use Rattle.fx_term.specs.declared.stamped.Stamped.{Stamped}
use Rattle.fx_term.specs.QueuesNamed.{NamesQueueBelow}
use Rattle.fx_plain_tests.proofs.write.trace_names_below.Goals as goal

pub loop-stamped-preserved : goal.loop-stamped-preserved
loop-stamped-preserved c =
    All-more (λ (x : Stamped). NamesQueueBelow c.args.queues x.event) c.args.trace.now c.loop-stamped.stamped-index _ (search rules) c.loop-stamped.invariant
    c.if-not-names_queue_below.ensures

pub returns : goal.returns
returns c =
    All-map (NamesQueueBelow c.args.queues) (λ (x : Stamped). x.event) c.args.trace.now
    (rw (take_all c.loop-stamped.stamped-index c.args.trace.now (search rules)) at c.loop-stamped.invariant)
