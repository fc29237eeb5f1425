use Rattle.std.proofs.Common.{◌∙◌, sym, ap}
use Rattle.fx_term.specs.Queue.{puts}
use Rattle.fx_queue.specs.Queues.{QueueId, HeldPass}
use Rattle.fx_queue.proofs.Acts.{pushes_at, learns}
use Rattle.fx_queue.proofs.fiber_queue.FiberQueue.offer_as.Goals as goal

pub push_as-requires-clause-rule : goal.push_as-requires-clause-rule
push_as-requires-clause-rule g c =
    let is = c.pass.view_is in
    let live = c.pass.invariant.1 in (
      pushes_at _ _ _ c.args.item
          (ap (λ (s : HeldPass). s.view.cap) is ∙ (c.requires.queue.1 ∙ sym (ap (λ (q : QueueId). q.cap) c.self.view_is)))
          live
          (c.requires.item.0 ∙ sym (ap (λ (s : HeldPass). s.view.own.id) is))
          (c.requires.item.1 ∙ sym (ap (λ (s : HeldPass). puts s.view.own.acts) is)),
      learns _ _ live,
    )
