use Rattle.std.proofs.Common.{◌≡◌, length, rules, arith}
use Rattle.fx_text.proofs.QueuesLaws.{starts, fails_first, fails_next, goes_on}
use Rattle.fx_text.proofs.queues.queues.Goals as goal

pub returns-in_err-form-clause-read : goal.returns-in_err-form-clause-read
returns-in_err-form-clause-read c = let h = fails_first c.args.text.now c.in_err-form.field-0.0 c.in_err-form.ensures.read in search (rules, h)

pub loop-form-init : goal.loop-form-init
loop-form-init c = rw c.new-queues.ensures.items
    (starts c.args.text.now c.in_ok-form.form c.in_ok-form.rest.now c.in_ok-form.ensures.read c.in_ok-form.ensures.shorter)

pub returns-in_err-form-2-clause-read : goal.returns-in_err-form-2-clause-read
returns-in_err-form-2-clause-read c =
    let counted : c.len.result ≡ length c.push.new.self.items = omega (arith, c.len.ensures, c.push.new.self.ok.0) in
    let declared = rw c.deref.ensures.value at c.in_ok-queue.ensures.read in
    let h = fails_next c.args.text.now c.loop-form.queues.items c.push.new.self.items c.loop-form.form c.loop-form.rest.now c.in_ok-queue.after.now
    c.in_ok-queue.queue c.len.result c.loop-form.invariant c.in-Queue.is declared c.in_ok-push.ensures.items counted c.in_err-form-2.field-0.0
    c.in_err-form-2.ensures.read in
    search (rules, h)

pub loop-form-preserved : goal.loop-form-preserved
loop-form-preserved c =
    let counted : c.len.result ≡ length c.push.new.self.items = omega (arith, c.len.ensures, c.push.new.self.ok.0) in
    let declared = rw c.deref.ensures.value at c.in_ok-queue.ensures.read in
    goes_on c.args.text.now c.loop-form.queues.items c.push.new.self.items c.loop-form.form c.loop-form.rest.now c.in_ok-queue.after.now
    c.in_ok-queue.queue c.len.result c.loop-form.invariant c.in-Queue.is declared c.in_ok-push.ensures.items counted c.in_ok-form-2.field-0-0
    c.in_ok-form-2.field-0-1.now c.in_ok-form-2.ensures.read c.in_ok-queue.ensures.shorter c.in_ok-form-2.ensures.shorter
