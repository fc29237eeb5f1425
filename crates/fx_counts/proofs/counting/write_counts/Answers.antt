use Rattle.std.proofs.Common.{arith, sym, ◌∙◌, None}
use Rattle.std.proofs.lemmas.Option.{slice_get-get_or, slice_get_within}
use Rattle.fx_term.specs.declared.event.Event.TheVariants as event
use Rattle.fx_order.specs.declared.occurrence.Occurrence.{Occurrence}
use Rattle.fx_counts.specs.declared.at_queue.AtQueue.{AtQueue}
use Rattle.fx_counts.proofs.Counted.{writes, passes}
use Rattle.fx_counts.proofs.counting.write_counts.Goals as goal
use Rattle.fx_counts.proofs.counting.write_counts.Goals.{then-is_on, else-is_on}

abbrev none : Occurrence
none = record { fiber = 0; place = 0; event = event.Start 0; stamp = 0 }

abbrev nothing : AtQueue
nothing = record { held = 0; took = None }

pub loop-k-preserved : goal.loop-k-preserved
loop-k-preserved c =
    let at = slice_get-get_or c.args.list.now c.loop-k.k none (omega arith) in
    elim c.if-is_on.branch [
      | then-is_on w ↦
          writes c.args.queue c.args.list.now c.args.told.now c.args.counts.now c.loop-k.k _ _ _ c.loop-k.counts c.if-is_on.counts c.loop-k.invariant at
          (slice_get-get_or c.args.told.now c.loop-k.k nothing (omega arith)) (sym (c.is_on.ensures _) ∙ w.if-is_on.true) w.counts-is (omega arith)
      | else-is_on w ↦
          passes c.args.queue c.args.list.now c.args.told.now c.args.counts.now c.loop-k.k _ _ c.loop-k.counts c.if-is_on.counts c.loop-k.invariant at
          (sym (c.is_on.ensures _) ∙ w.if-is_on.false) w.counts-is (omega arith)
    ]

pub returns : goal.returns
returns c k x at =
    let within = slice_get_within c.args.list.now k x at in
    c.loop-k.invariant.done k x (let past = c.loop-k-test.false in omega arith) at
