use Rattle.std.proofs.Common.{◌∙◌, arith}
use Rattle.fx_queue.specs.Queues.{kept_pass, given_pass}
use Rattle.fx_port.proofs.PartRows.{row_step, new_step, partly-all}
use Rattle.fx_port.proofs.SplitRows.{pass_at, is_of, can_split}
use Rattle.fx_port.proofs.passes.split_row.Goals as goal

pub split-other-requires-clause-queue : goal.split-other-requires-clause-queue
split-other-requires-clause-queue c =
    is_of _ _ _ _ _ c.requires.queues c.loop-place.invariant.row c.loop-place-test.true _ _ c.index_mut-pass.ensures.value c.index-queues-place.is

pub split-other-requires-clause-range : goal.split-other-requires-clause-range
split-other-requires-clause-range c =
    can_split _ _ _ _ _ c.requires.queues c.loop-place.invariant.row c.loop-place-test.true c.args.id _ c.requires.range c.index_mut-pass.ensures.value

pub loop-place-preserved : goal.loop-place-preserved
loop-place-preserved c =
    let inv = c.loop-place.invariant in
    let at = pass_at _ _ _ _ _ c.requires.queues inv.row c.loop-place-test.true _ c.index_mut-pass.ensures.value in
    let push = c.push_reserved.ensures in
    record {
      row = row_step (kept_pass c.args.end) _ _ _ _ _ inv.row at c.split-other.ensures.kept;
      given = push.items ∙ new_step (kept_pass c.args.end) (given_pass c.args.end) _ _ _ _ _ _ inv.row at inv.given c.split-other.ensures.given;
      count = omega (arith, inv.count, push.len);
      room = rw push.capacity inv.room;
    }

pub returns-clause-kept : goal.returns-clause-kept
returns-clause-kept c =
    let inv = c.loop-place.invariant in
    let many = c.requires.queues.as_many in
    let end = c.loop-place-test.false in
    let most = c.loop-place.auto.place-end in
    inv.row ∙ partly-all (kept_pass c.args.end) c.args.row.now.items c.loop-place.place (omega (arith, many, end, most))
