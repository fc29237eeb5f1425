use Rattle.std.proofs.Common.{◌∙◌, ◌<◌, ap, arith, refl}
use Rattle.fx_queue.specs.declared.link.Link.{Link}
use Rattle.fx_queue.proofs.WaitRings.{removed_by, must_be, not_true}
use Rattle.fx_queue.proofs.wait_ring.WaitRing.remove.Goals as goal
use Rattle.fx_queue.proofs.wait_ring.WaitRing.remove.Goals.{then-fiber-self-via-then-fiber-self, then-fiber-self-via-else-fiber-self+then-not-link}

pub returns-then-fiber-self-clause-there : goal.returns-then-fiber-self-clause-there
returns-then-fiber-self-clause-there c ys zs was =
    let must = must_be _ _ c.args.fiber ys zs was in
    let lt : c.args.fiber < c.args.self.now.head = must.0 in
    absurd (elim c.then-fiber-self.branch [
      | then-fiber-self-via-then-fiber-self w ↦ let ge = w.if-fiber-self.true in omega (arith, lt, ge)
      | then-fiber-self-via-else-fiber-self+then-not-link w ↦ not_true _ w.if-not-link.true (ap (λ (l : Link). l.listed) c.link_of-link.ensures ∙ must.1)
    ])

pub returns-clause-there : goal.returns-clause-there
returns-clause-there c ys zs was = (
  refl,
  removed_by _ _ _ _ _ c.args.fiber c.link_of-link.result ys zs was c.link_of-link.ensures c.link_after.ensures
      c.link_before.ensures c.set_link.ensures,
)
