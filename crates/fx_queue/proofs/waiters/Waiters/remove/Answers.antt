use Rattle.fx_queue.proofs.WaitRings.{after_remove}
use Rattle.fx_queue.proofs.waiters.Waiters.remove.Goals as goal

pub invariant_of-self : goal.invariant_of-self
invariant_of-self c =
    let e = c.remove.ensures in
    after_remove _ _ _ _ c.args.fiber (λ ys zs was. (e.there ys zs was).1) (λ xs was n. (e.absent xs was n).1) c.self.invariant
