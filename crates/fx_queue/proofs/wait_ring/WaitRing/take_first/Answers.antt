use Rattle.std.proofs.Common.{◌≡◌, ◌∙◌, sym, ap, subst, Some, ℕ, [], ◌∷◌, refl}
use Rattle.fx_queue.specs.declared.link.Link.{Link}
use Rattle.fx_queue.specs.WaitRing.{Lists}
use Rattle.fx_queue.proofs.WaitRings.{one_first, true_false}
use Rattle.fx_queue.proofs.wait_ring.WaitRing.take_first.Goals as goal

pub returns-then-remove-clause-none : goal.returns-then-remove-clause-none
returns-then-remove-clause-none c was = true_false _ c.if-remove.true (c.remove.ensures.absent [] was (λ m. m)).0

pub returns-then-remove-clause-first : goal.returns-then-remove-clause-first
returns-then-remove-clause-first c x xs was =
    let is : c.link_of-first.result.after ≡ x = ap (λ (l : Link). l.after) c.link_of-first.ensures ∙ one_first _ _ x xs was in
    let was' = subst (λ (k : ℕ). Lists c.args.self.now.links.items c.args.self.now.head (k ∷ xs)) (sym is) was in
    (ap Some is, (c.remove.ensures.there [] xs was').1)

pub returns-else-remove-clause-none : goal.returns-else-remove-clause-none
returns-else-remove-clause-none c was = (refl, (c.remove.ensures.absent [] was (λ m. m)).1)

pub returns-else-remove-clause-first : goal.returns-else-remove-clause-first
returns-else-remove-clause-first c x xs was =
    let is : c.link_of-first.result.after ≡ x = ap (λ (l : Link). l.after) c.link_of-first.ensures ∙ one_first _ _ x xs was in
    let was' = subst (λ (k : ℕ). Lists c.args.self.now.links.items c.args.self.now.head (k ∷ xs)) (sym is) was in
    true_false _ (c.remove.ensures.there [] xs was').0 c.if-remove.false
