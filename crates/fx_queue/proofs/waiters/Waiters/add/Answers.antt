use Rattle.std.proofs.Common.{ap}
use native.Mathlib.Decide.{dec_lt}
use Rattle.fx_queue.specs.declared.wait_ring.WaitRing.{WaitRing}
use Rattle.fx_queue.proofs.WaitRings.{after_add}
use Rattle.fx_queue.proofs.waiters.Waiters.add.Goals as goal

pub invariant_of-self : goal.invariant_of-self
invariant_of-self c =
    let e = c.add.ensures in
    after_add _ _ _ _ c.args.fiber (dec_lt _ _) e.listed e.last
    (λ ge. (ap (λ (w : WaitRing). w.links.items) (e.beyond ge), ap (λ (w : WaitRing). w.head) (e.beyond ge))) c.self.invariant
