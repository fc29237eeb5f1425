use Rattle.std.proofs.Common.{◌∙◌, sym, ap}
use Rattle.fx_plain.specs.PlainQueue.{no_queue}
use Rattle.fx_plain.specs.ClassSets.{ClassesView}
use Rattle.fx_plain.proofs.LeastReady.{least_first, least_onward, least_past, least_at_end}
use Rattle.fx_plain.proofs.classes.Classes.least.Goals as goal

pub loop-queue-init : goal.loop-queue-init
loop-queue-init c =
    rw (← c.self.view_is)
    (least_first c.args.queues.now c.self.inside.of.items c.self.inside.sets c.self.invariant.1
    (c.requires ∙ sym (ap (λ (v : ClassesView). v.queues) c.self.view_is)) c.least_able-least.result c.least_able-least.ensures)

pub loop-queue-preserved : goal.loop-queue-preserved
loop-queue-preserved c =
    let there = c.in-Some-get.ensures.lookup.3 in
    let next = c.in-Some.ensures.next in
    rw (c.lesser-least.ensures, ← c.self.view_is)
    (least_onward c.args.queues.now c.self.inside.of.items c.self.inside.sets c.self.invariant.1
    (c.requires ∙ sym (ap (λ (v : ClassesView). v.queues) c.self.view_is)) c.loop-queue.from c.in-Some.queue next.0 next.1 c.in-Some-get.own.now
    c.loop-queue.least c.least_there.result there.0 (there.1 no_queue) (rw (← c.self.view_is) at c.loop-queue.invariant) c.least_there.ensures)

pub returns-in_default-get : goal.returns-in_default-get
returns-in_default-get c =
    let next = c.in-Some.ensures.next in
    rw (← c.self.view_is)
    (least_past c.args.queues.now c.self.inside.of.items c.self.inside.sets c.self.invariant.1
    (c.requires ∙ sym (ap (λ (v : ClassesView). v.queues) c.self.view_is)) c.loop-queue.from c.in-Some.queue next.0 next.1 c.loop-queue.least
    c.in_default-get.ensures.lookup.3 (rw (← c.self.view_is) at c.loop-queue.invariant))

pub returns-in_default : goal.returns-in_default
returns-in_default c =
    rw (← c.self.view_is)
    (least_at_end c.args.queues.now c.self.inside.of.items c.self.inside.sets c.self.invariant.1
    (c.requires ∙ sym (ap (λ (v : ClassesView). v.queues) c.self.view_is)) c.loop-queue.from c.loop-queue.least c.in_default.ensures.next
    (rw (← c.self.view_is) at c.loop-queue.invariant))
