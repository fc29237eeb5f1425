-- Numbers that are put for two names may be put in either order.
use Rattle.std.proofs.Common.{◌≡◌, ◌≢◌, ℕ, ◌==◌, if◌then◌else◌, Bool, true, false, refl, sym, ◌∙◌}
use Rattle.std.proofs.lemmas.Bool.{eqb-true}
use Rattle.fx_term.specs.declared.node.Arg.{Arg}
use Rattle.fx_term.specs.declared.node.Arg.TheVariants.{Number, Slot}
use Rattle.fx_term.specs.Term.{Term, Pure, Raise, Let, Handle, If, For, Mask, Poll, OnCancel, Bracket, BracketCase, Start, Join, Cancel, First, Offer}
use Rattle.fx_term.specs.Term.{TryOffer, TryTake, Masked, Opened, InUse, InUseCase, InRelease, Loop, put_arg, put}

module _ (x y n m : ℕ) (other : y ≢ x) where
  arg_order : (a : Arg) → put_arg y m (put_arg x n a) ≡ put_arg x n (put_arg y m a)
  arg_order (Number k) = refl
  arg_order (Slot z) = by_tests (z == x) (z == y) refl refl
    where
      by_tests : (b c : Bool) → (z == x) ≡ b → (z == y) ≡ c
          → put_arg y m (if z == x then Number n else Slot z) ≡ put_arg x n (if z == y then Number m else Slot z)
      by_tests true true e f = absurd (other (sym (eqb-true z y f) ∙ eqb-true z x e))
      by_tests true false e f = rw (e, f, e) refl
      by_tests false true e f = rw (e, f) refl
      by_tests false false e f = rw (e, f, e) refl

  pub put_order : (t : Term) → put y m (put x n t) ≡ put x n (put y m t)
  put_order (Pure a) = let p = arg_order a in cc
  put_order (Raise a) = let p = arg_order a in cc
  put_order (Let z a b) = let p = put_order a in let q = put_order b in cc
  put_order (Handle a z b) = let p = put_order a in let q = put_order b in cc
  put_order (If v a b) = let o = arg_order v in let p = put_order a in let q = put_order b in cc
  put_order (For i c a) = let p = put_order a in cc
  put_order (Mask p a) = let q = put_order a in cc
  put_order (Poll v a) = let o = arg_order v in let p = put_order a in cc
  put_order (OnCancel a f) = let p = put_order a in let q = put_order f in cc
  put_order (Bracket z a u r) = let p = put_order a in let q = put_order u in let s = put_order r in cc
  put_order (BracketCase z a u i b j c d) =
      let o = put_order a in let p = put_order u in let q = put_order b in let r = put_order c in let s = put_order d in cc
  put_order (Start h a b) = let p = put_order a in let q = put_order b in cc
  put_order (Join f i a j b c) = let o = arg_order f in let p = put_order a in let q = put_order b in let r = put_order c in cc
  put_order (Cancel f) = let p = arg_order f in cc
  put_order (First f g) = let p = arg_order f in let q = arg_order g in cc
  put_order (Offer k v) = let p = arg_order v in cc
  put_order (TryOffer k v) = let p = arg_order v in cc
  put_order (TryTake k z a b) = let p = put_order a in let q = put_order b in cc
  put_order (Masked r a) = let p = put_order a in cc
  put_order (Opened r a) = let p = put_order a in cc
  put_order (InUse k a r) = let p = put_order a in let q = put_order r in cc
  put_order (InUseCase k a i b j c d) = let p = put_order a in let q = put_order b in let r = put_order c in let s = put_order d in cc
  put_order (InRelease k a v) = let p = put_order a in cc
  put_order (Loop i k c a) = let p = put_order a in cc
  put_order _ = refl
