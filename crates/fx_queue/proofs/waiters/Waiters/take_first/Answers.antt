use Rattle.fx_queue.proofs.WaitRings.{after_first}
use Rattle.fx_queue.proofs.waiters.Waiters.take_first.Goals as goal

pub invariant_of-self : goal.invariant_of-self
invariant_of-self c =
    let e = c.take_first.ensures in
    after_first _ _ _ _ c.self.invariant.0 (λ was. (e.none was).1) (λ x xs was. (e.first x xs was).1) c.self.invariant.1
