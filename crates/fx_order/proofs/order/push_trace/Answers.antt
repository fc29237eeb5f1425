use Rattle.std.proofs.Common.{arith}
use Rattle.fx_term.specs.declared.event.Event.TheVariants as event
use Rattle.fx_order.proofs.Appended.{occurrences_from-push}
use Rattle.fx_order.proofs.order.push_trace.Goals as goal

pub loop-place-preserved : goal.loop-place-preserved
loop-place-preserved c =
    occurrences_from-push c.args.fiber c.args.list.now.items _ _ c.args.trace.now c.loop-place.place (record { event = event.Start 0; stamp = 0 })
    (omega arith) c.loop-place.invariant c.in_ok-push.ensures.items
