use Rattle.std.proofs.Common.{arith}
use Rattle.std.proofs.lemmas.Option.{slice_get-get_or}
use Rattle.fx_term.specs.declared.event.Event.TheVariants as event
use Rattle.fx_order.specs.declared.occurrence.Occurrence.{Occurrence}
use Rattle.fx_counts.proofs.Replays.{not_legal, one_more, at_end, after_true, after_false, replay_then}
use Rattle.fx_counts.proofs.counting.replay.Goals as goal

abbrev none : Occurrence
none = record { fiber = 0; place = 0; event = event.Start 0; stamp = 0 }

pub returns-then-not-branch : goal.returns-then-not-branch
returns-then-not-branch c =
    let so_far = c.loop-place.invariant in
    not_legal c.args.capacity c.args.queue c.args.list.now _ c.loop-place.place _ c.loop-place.now c.loop-place.told.items so_far
    (slice_get-get_or c.args.list.now c.loop-place.place none (omega arith))
    (after_false _ _ _ c.if-not-branch.true (c.in_ok-after.ensures.is so_far.state so_far.is))

pub held-held-requires : goal.held-held-requires
held-held-requires c =
    let so_far = c.loop-place.invariant in
    let next = after_true _ _ _ c.if-not-branch.false (c.in_ok-after.ensures.is so_far.state so_far.is) in (next.0, next.2)

pub loop-place-preserved : goal.loop-place-preserved
loop-place-preserved c =
    let so_far = c.loop-place.invariant in
    let legal = c.if-not-branch.false in
    let next = after_true _ _ _ legal (c.in_ok-after.ensures.is so_far.state so_far.is) in
    one_more c.args.capacity c.args.queue c.args.list.now c.loop-place.place _ _ c.loop-place.now c.after.new.self c.loop-place.told.items
    c.push.new.self.items _ so_far (slice_get-get_or c.args.list.now c.loop-place.place none (omega arith)) next
    (c.in_ok-after.ensures.places legal) c.in_ok-push.ensures.items (c.held-held.ensures next.0 next.2) c.taken_by-took.ensures (omega arith)

pub returns : goal.returns
returns c =
    let so_far = c.loop-place.invariant in
    replay_then c.args.capacity c.args.queue c.args.list.now _ c.holds.result c.loop-place.told c.then_some.result c.then_some.ensures
    (at_end c.args.capacity c.args.queue c.args.list.now _ c.loop-place.place c.loop-place.now c.loop-place.told.items c.holds.result so_far (omega arith)
    (c.holds.ensures so_far.state so_far.is))
