-- As what a term uses a name.
use Rattle.std.proofs.Common.{◌≡◌, ◌≢◌, ℕ, ◌==◌, if◌then◌else◌, Bool, true, false, Option, Some, None, refl, sym, ap, subst}
use Rattle.std.specs.Prelude.{option_map}
use Rattle.std.proofs.lemmas.Bool.{eq-eqb, ne_eqb}
use Rattle.fx_term.specs.declared.name_kind.NameKind.{NameKind}
use Rattle.fx_term.specs.declared.name_kind.NameKind.TheVariants as kind
use Rattle.fx_term.specs.declared.node.Arg.{Arg}
use Rattle.fx_term.specs.declared.node.Arg.TheVariants.{Number, Slot}
use Rattle.fx_term.specs.Term.{Term, Pure, Raise, Let, Handle, If, For, Mask, Poll, OnCancel, Bracket, BracketCase}
use Rattle.fx_term.specs.Term.{Start, Join, Cancel, First, Offer, TryOffer, TryTake, Masked, Opened, InUse, InUseCase, InRelease, Loop, put_arg, put}
use Rattle.fx_term.specs.Scope.{with_name, with_named, kind_elsewhere, elsewhere, IsArgOf, IsNew, IsScoped}

-- a name of the first kind may stand at a place of the second
abbrev pub Fits : NameKind → NameKind → Type 0
Fits kind.Value kind.Value = Unit {0}
Fits kind.Poll kind.Poll = Unit {0}
Fits kind.Fiber kind.Fiber = Unit {0}
Fits _ _ = ⊥

-- the argument of a place of the second kind may be that name, of the first kind
abbrev pub IsArgUsedAs : NameKind → ℕ → NameKind → Arg → Type 0
IsArgUsedAs k x place (Number n) = Unit {0}
IsArgUsedAs k x place (Slot y) = y ≡ x → Fits k place

-- the term uses the name as one of this kind alone
abbrev pub IsUsedAs : NameKind → ℕ → Term → Type 0
IsUsedAs k x (Pure a) = IsArgUsedAs k x kind.Value a
IsUsedAs k x (Raise a) = IsArgUsedAs k x kind.Value a
IsUsedAs k x (Let y a b) = IsUsedAs k x a × IsUsedAs k x b
IsUsedAs k x (Handle a y b) = IsUsedAs k x a × IsUsedAs k x b
IsUsedAs k x (If v a b) = IsArgUsedAs k x kind.Value v × IsUsedAs k x a × IsUsedAs k x b
IsUsedAs k x (For i c a) = IsUsedAs k x a
IsUsedAs k x (Mask p a) = IsUsedAs k x a
IsUsedAs k x (Poll p a) = IsArgUsedAs k x kind.Poll p × IsUsedAs k x a
IsUsedAs k x (OnCancel a f) = IsUsedAs k x a × IsUsedAs k x f
IsUsedAs k x (Bracket y a u r) = IsUsedAs k x a × IsUsedAs k x u × IsUsedAs k x r
IsUsedAs k x (BracketCase y a u z s w e d) = IsUsedAs k x a × IsUsedAs k x u × IsUsedAs k x s × IsUsedAs k x e × IsUsedAs k x d
IsUsedAs k x (Start h a b) = IsUsedAs (kind_elsewhere k) x a × IsUsedAs k x b
IsUsedAs k x (Join f y a e b c) = IsArgUsedAs k x kind.Fiber f × IsUsedAs k x a × IsUsedAs k x b × IsUsedAs k x c
IsUsedAs k x (Cancel f) = IsArgUsedAs k x kind.Fiber f
IsUsedAs k x (First f g) = IsArgUsedAs k x kind.Fiber f × IsArgUsedAs k x kind.Fiber g
IsUsedAs k x (Offer q v) = IsArgUsedAs k x kind.Value v
IsUsedAs k x (TryOffer q v) = IsArgUsedAs k x kind.Value v
IsUsedAs k x (TryTake q y a b) = IsUsedAs k x a × IsUsedAs k x b
IsUsedAs k x (Masked r a) = IsUsedAs k x a
IsUsedAs k x (Opened r a) = IsUsedAs k x a
IsUsedAs k x (InUse j a r) = IsUsedAs k x a × IsUsedAs k x r
IsUsedAs k x (InUseCase j u y s z e d) = IsUsedAs k x u × IsUsedAs k x s × IsUsedAs k x e × IsUsedAs k x d
IsUsedAs k x (InRelease j a v) = IsUsedAs k x a
IsUsedAs k x (Loop i j c a) = IsUsedAs k x a
IsUsedAs k x _ = Unit {0}

-- the part under a binder uses what that binds as one of this kind alone
abbrev pub IsBinderUsedAs : NameKind → Option ℕ → Term → Type 0
IsBinderUsedAs k None t = Unit {0}
IsBinderUsedAs k (Some x) t = IsUsedAs k x t

module _ (x : ℕ) where
  arg_used : (scope : ℕ → Option NameKind) (k place : NameKind) (a : Arg) → scope x ≡ Some k → IsArgOf place scope a → Fits place place
      → IsArgUsedAs k x place a
  arg_used scope k place (Number n) e h fits = tt
  arg_used scope k place (Slot y) e h fits =
      λ same. let here : scope x ≡ Some place = subst (λ (z : ℕ). scope z ≡ Some place) same h in let q : k ≡ place = cc in
      subst (λ (j : NameKind). Fits j place) (sym q) fits

  under : (scope : ℕ → Option NameKind) (k j : NameKind) (y : Option ℕ) → scope x ≡ Some k → IsNew scope y → with_named y j scope x ≡ Some k
  under scope k j None e new = e
  under scope k j (Some y) e new =
      let other : x ≢ y = λ same. let here : scope y ≡ Some k = subst (λ (z : ℕ). scope z ≡ Some k) same e in cc in
      rw (ne_eqb x y other) e

  -- a name in scope is used as what it is
  pub scoped_used : (scope : ℕ → Option NameKind) (k : NameKind) (t : Term) → scope x ≡ Some k → IsScoped scope t → IsUsedAs k x t
  scoped_used s k (Pure a) e h = arg_used s k kind.Value a e h tt
  scoped_used s k (Raise a) e h = arg_used s k kind.Value a e h tt
  scoped_used s k (Let y a b) e h = (scoped_used s k a e h.0, scoped_used (with_named y kind.Value s) k b (under s k kind.Value y e h.1) h.2)
  scoped_used s k (Handle a y b) e h = (scoped_used s k a e h.0, scoped_used (with_named y kind.Value s) k b (under s k kind.Value y e h.1) h.2)
  scoped_used s k (If v a b) e h = (arg_used s k kind.Value v e h.0 tt, scoped_used s k a e h.1, scoped_used s k b e h.2)
  scoped_used s k (For i c a) e h = scoped_used (with_name i kind.Value s) k a (under s k kind.Value (Some i) e h.0) h.1
  scoped_used s k (Mask p a) e h = scoped_used (with_name p kind.Poll s) k a (under s k kind.Poll (Some p) e h.0) h.1
  scoped_used s k (Poll p a) e h = (arg_used s k kind.Poll p e h.0 tt, scoped_used s k a e h.1)
  scoped_used s k (OnCancel a f) e h = (scoped_used s k a e h.0, scoped_used s k f e h.1)
  scoped_used s k (Bracket y a u r) e h =
      let under_y = under s k kind.Value y e h.1 in (
        scoped_used s k a e h.0,
        scoped_used (with_named y kind.Value s) k u under_y h.2,
        scoped_used (with_named y kind.Value s) k r under_y h.3,
      )
  scoped_used s k (BracketCase v a u y b z c d) e h =
      let there = with_name v kind.Value s in
      let in_there = under s k kind.Value (Some v) e h.1 in (
        scoped_used s k a e h.0,
        scoped_used there k u in_there h.2,
        scoped_used (with_name y kind.Value there) k b (under there k kind.Value (Some y) in_there h.3) h.4,
        scoped_used (with_name z kind.Value there) k c (under there k kind.Value (Some z) in_there h.5) h.6,
        scoped_used there k d in_there h.7,
      )
  scoped_used s k (Start i a b) e h = (
    scoped_used (elsewhere s) (kind_elsewhere k) a (ap (option_map kind_elsewhere) e) h.0,
    scoped_used (with_name i kind.Fiber s) k b (under s k kind.Fiber (Some i) e h.1) h.2,
  )
  scoped_used s k (Join f y a z b c) e h = (
    arg_used s k kind.Fiber f e h.0 tt,
    scoped_used (with_name y kind.Value s) k a (under s k kind.Value (Some y) e h.1) h.2,
    scoped_used (with_name z kind.Value s) k b (under s k kind.Value (Some z) e h.3) h.4,
    scoped_used s k c e h.5,
  )
  scoped_used s k (Cancel f) e h = arg_used s k kind.Fiber f e h tt
  scoped_used s k (First f g) e h = (arg_used s k kind.Fiber f e h.0 tt, arg_used s k kind.Fiber g e h.1 tt)
  scoped_used s k (Offer q v) e h = arg_used s k kind.Value v e h tt
  scoped_used s k (TryOffer q v) e h = arg_used s k kind.Value v e h tt
  scoped_used s k (TryTake q y a b) e h = (scoped_used (with_name y kind.Value s) k a (under s k kind.Value (Some y) e h.0) h.1, scoped_used s k b e h.2)
  scoped_used s k (Masked r a) e h = scoped_used s k a e h
  scoped_used s k (Opened r a) e h = scoped_used s k a e h
  scoped_used s k (InUse j a r) e h = (scoped_used s k a e h.0, scoped_used s k r e h.1)
  scoped_used s k (InUseCase j u y b z c d) e h = (
    scoped_used s k u e h.0,
    scoped_used (with_name y kind.Value s) k b (under s k kind.Value (Some y) e h.1) h.2,
    scoped_used (with_name z kind.Value s) k c (under s k kind.Value (Some z) e h.3) h.4,
    scoped_used s k d e h.5,
  )
  scoped_used s k (InRelease j a v) e h = scoped_used s k a e h
  scoped_used s k (Loop i j c a) e h = scoped_used (with_name i kind.Value s) k a (under s k kind.Value (Some i) e h.0) h.1
  scoped_used s k _ e h = tt

  put_arg_used : (k place : NameKind) (y n : ℕ) (a : Arg) → IsArgUsedAs k x place a → IsArgUsedAs k x place (put_arg y n a)
  put_arg_used k place y n (Number m) h = tt
  put_arg_used k place y n (Slot z) h = by_test (z == y)
    where
      by_test : (b : Bool) → IsArgUsedAs k x place (if b then Number n else Slot z)
      by_test true = tt
      by_test false = h

  -- and no number put for a name adds a use
  pub put_used : (k : NameKind) (y n : ℕ) (t : Term) → IsUsedAs k x t → IsUsedAs k x (put y n t)
  put_used k y n (Pure a) h = put_arg_used k kind.Value y n a h
  put_used k y n (Raise a) h = put_arg_used k kind.Value y n a h
  put_used k y n (Let z a b) h = (put_used k y n a h.0, put_used k y n b h.1)
  put_used k y n (Handle a z b) h = (put_used k y n a h.0, put_used k y n b h.1)
  put_used k y n (If v a b) h = (put_arg_used k kind.Value y n v h.0, put_used k y n a h.1, put_used k y n b h.2)
  put_used k y n (For i c a) h = put_used k y n a h
  put_used k y n (Mask p a) h = put_used k y n a h
  put_used k y n (Poll p a) h = (put_arg_used k kind.Poll y n p h.0, put_used k y n a h.1)
  put_used k y n (OnCancel a f) h = (put_used k y n a h.0, put_used k y n f h.1)
  put_used k y n (Bracket z a u r) h = (put_used k y n a h.0, put_used k y n u h.1, put_used k y n r h.2)
  put_used k y n (BracketCase z a u w s v e d) h =
      (put_used k y n a h.0, put_used k y n u h.1, put_used k y n s h.2, put_used k y n e h.3, put_used k y n d h.4)
  put_used k y n (Start i a b) h = (put_used (kind_elsewhere k) y n a h.0, put_used k y n b h.1)
  put_used k y n (Join f z a e b c) h = (put_arg_used k kind.Fiber y n f h.0, put_used k y n a h.1, put_used k y n b h.2, put_used k y n c h.3)
  put_used k y n (Cancel f) h = put_arg_used k kind.Fiber y n f h
  put_used k y n (First f g) h = (put_arg_used k kind.Fiber y n f h.0, put_arg_used k kind.Fiber y n g h.1)
  put_used k y n (Offer q v) h = put_arg_used k kind.Value y n v h
  put_used k y n (TryOffer q v) h = put_arg_used k kind.Value y n v h
  put_used k y n (TryTake q z a b) h = (put_used k y n a h.0, put_used k y n b h.1)
  put_used k y n (Masked r a) h = put_used k y n a h
  put_used k y n (Opened r a) h = put_used k y n a h
  put_used k y n (InUse j a r) h = (put_used k y n a h.0, put_used k y n r h.1)
  put_used k y n (InUseCase j u z s w e d) h = (put_used k y n u h.0, put_used k y n s h.1, put_used k y n e h.2, put_used k y n d h.3)
  put_used k y n (InRelease j a v) h = put_used k y n a h
  put_used k y n (Loop i j c a) h = put_used k y n a h
  put_used k y n _ h = tt

  put_arg_unused : (place : NameKind) (n : ℕ) (a : Arg) → IsArgUsedAs kind.OtherPoll x place a → put_arg x n a ≡ a
  put_arg_unused place n (Number m) h = refl
  put_arg_unused place n (Slot y) h = rw (ne_eqb y x h) refl

  -- a number for a name that may not be used changes nothing
  pub put_unused : (n : ℕ) (t : Term) → IsUsedAs kind.OtherPoll x t → put x n t ≡ t
  put_unused n (Pure a) h = let p = put_arg_unused kind.Value n a h in cc
  put_unused n (Raise a) h = let p = put_arg_unused kind.Value n a h in cc
  put_unused n (Let y a b) h = let p = put_unused n a h.0 in let q = put_unused n b h.1 in cc
  put_unused n (Handle a y b) h = let p = put_unused n a h.0 in let q = put_unused n b h.1 in cc
  put_unused n (If v a b) h = let o = put_arg_unused kind.Value n v h.0 in let p = put_unused n a h.1 in let q = put_unused n b h.2 in cc
  put_unused n (For i c a) h = let p = put_unused n a h in cc
  put_unused n (Mask p a) h = let q = put_unused n a h in cc
  put_unused n (Poll v a) h = let o = put_arg_unused kind.Poll n v h.0 in let p = put_unused n a h.1 in cc
  put_unused n (OnCancel a f) h = let p = put_unused n a h.0 in let q = put_unused n f h.1 in cc
  put_unused n (Bracket y a u r) h = let p = put_unused n a h.0 in let q = put_unused n u h.1 in let s = put_unused n r h.2 in cc
  put_unused n (BracketCase y a u z b w c d) h =
      let o = put_unused n a h.0 in let p = put_unused n u h.1 in let q = put_unused n b h.2 in let r = put_unused n c h.3 in let s = put_unused n d h.4 in cc
  put_unused n (Start i a b) h = let p = put_unused n a h.0 in let q = put_unused n b h.1 in cc
  put_unused n (Join f y a e b c) h =
      let o = put_arg_unused kind.Fiber n f h.0 in let p = put_unused n a h.1 in let q = put_unused n b h.2 in let s = put_unused n c h.3 in cc
  put_unused n (Cancel f) h = let p = put_arg_unused kind.Fiber n f h in cc
  put_unused n (First f g) h = let p = put_arg_unused kind.Fiber n f h.0 in let q = put_arg_unused kind.Fiber n g h.1 in cc
  put_unused n (Offer k v) h = let p = put_arg_unused kind.Value n v h in cc
  put_unused n (TryOffer k v) h = let p = put_arg_unused kind.Value n v h in cc
  put_unused n (TryTake k y a b) h = let p = put_unused n a h.0 in let q = put_unused n b h.1 in cc
  put_unused n (Masked r a) h = let p = put_unused n a h in cc
  put_unused n (Opened r a) h = let p = put_unused n a h in cc
  put_unused n (InUse k a r) h = let p = put_unused n a h.0 in let q = put_unused n r h.1 in cc
  put_unused n (InUseCase k a y b z c d) h =
      let o = put_unused n a h.0 in let p = put_unused n b h.1 in let q = put_unused n c h.2 in let r = put_unused n d h.3 in cc
  put_unused n (InRelease k a v) h = let p = put_unused n a h in cc
  put_unused n (Loop i k c a) h = let p = put_unused n a h in cc
  put_unused n _ h = refl

  -- nor does one for a name in scope that is no poll here
  pub put_other_poll : (scope : ℕ → Option NameKind) (t : Term) → scope x ≡ Some kind.OtherPoll → IsScoped scope t → (n : ℕ) → put x n t ≡ t
  put_other_poll scope t e h n = put_unused n t (scoped_used scope kind.OtherPoll t e h)

pub name_is : (x : ℕ) (k : NameKind) (scope : ℕ → Option NameKind) → with_name x k scope x ≡ Some k
name_is x k scope = rw (eq-eqb x x refl) refl

-- a part under a binder in a scope
pub scoped_name_used : (scope : ℕ → Option NameKind) (k : NameKind) (x : ℕ) (t : Term) → IsScoped (with_name x k scope) t → IsUsedAs k x t
scoped_name_used scope k x t h = scoped_used x (with_name x k scope) k t (name_is x k scope) h

-- a part under two binders, as what it uses the outer one
pub scoped_outer_used : (scope : ℕ → Option NameKind) (k j : NameKind) (x y : ℕ) (t : Term) → IsNew (with_name x k scope) (Some y)
    → IsScoped (with_name y j (with_name x k scope)) t → IsUsedAs k x t
scoped_outer_used scope k j x y t new h =
    let there = with_name x k scope in
    scoped_used x (with_name y j there) k t (under x there k j (Some y) (name_is x k scope) new) h

pub scoped_binder_used : (scope : ℕ → Option NameKind) (k : NameKind) (x : Option ℕ) (t : Term) → IsScoped (with_named x k scope) t → IsBinderUsedAs k x t
scoped_binder_used scope k None t h = tt
scoped_binder_used scope k (Some x) t h = scoped_name_used scope k x t h

pub put_binder_used : (y : ℕ) (k : NameKind) (x : Option ℕ) (n : ℕ) (t : Term) → IsBinderUsedAs k x t → IsBinderUsedAs k x (put y n t)
put_binder_used y k None n t h = tt
put_binder_used y k (Some x) n t h = put_used x k y n t h
