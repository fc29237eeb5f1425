-- A number put for a name leaves a term scoped without that name.
use Rattle.std.proofs.Common.{◌≡◌, ◌≢◌, ℕ, ◌==◌, if◌then◌else◌, Bool, true, false, Option, Some, None, refl, sym, ◌∙◌, subst}
use Rattle.std.specs.Prelude.{option_map}
use Rattle.std.proofs.lemmas.Bool.{eq-eqb, ne_eqb, eqb-true}
use Rattle.fx_term.specs.declared.node.Arg.{Arg}
use Rattle.fx_term.specs.declared.node.Arg.TheVariants.{Number, Slot}
use Rattle.fx_term.specs.Term.{Term, Pure, Raise, Let, Handle, If, For, Mask, Poll, OnCancel, Bracket, BracketCase, Start, Join, Cancel, First, Offer}
use Rattle.fx_term.specs.Term.{TryOffer, TryTake, Masked, Opened, InUse, InUseCase, InRelease, Loop, Await, put_arg, put}
use Rattle.fx_term.specs.declared.name_kind.NameKind.{NameKind}
use Rattle.fx_term.specs.declared.name_kind.NameKind.TheVariants as kind
use Rattle.fx_term.specs.Scope.{with_name, with_named, elsewhere, IsArgOf, IsNew, IsScoped, kind_elsewhere}
use Rattle.fx_model.specs.Scopes.{IsArgGiven, UsesGiven}
use Rattle.fx_term.proofs.NameUses.{Fits, IsArgUsedAs, IsUsedAs}

module _ (x n : ℕ) where
  -- a name that is new beside this one is another
  is_other : (s : ℕ → Option NameKind) (k : NameKind) (y : ℕ) → with_name x k s y ≡ None → y ≢ x
  is_other s k y new same = let here : with_name x k s y ≡ Some k = rw (eq-eqb y x same) refl in cc

  new_without : (s : ℕ → Option NameKind) (k : NameKind) (y : Option ℕ) → IsNew (with_name x k s) y → IsNew s y
  new_without s k None h = tt
  new_without s k (Some y) h = rw (ne_eqb y x (is_other s k y h)) at h

  -- two names may be brought into scope in either order
  other_order : (s : ℕ → Option NameKind) (k j : NameKind) (y : Option ℕ) → IsNew (with_name x k s) y
      → with_named y j (with_name x k s) ≡ with_name x k (with_named y j s)
  other_order s k j None h = refl
  other_order s k j (Some y) h = λ i z. at z i
    where
      at : (z : ℕ) → with_name y j (with_name x k s) z ≡ with_name x k (with_name y j s) z
      at z = by_test (z == x) refl
        where
          by_test : (b : Bool) → (z == x) ≡ b → with_name y j (with_name x k s) z ≡ with_name x k (with_name y j s) z
          by_test true e =
              let same : z ≡ x = eqb-true z x e in
              let other : z ≢ y = λ f. is_other s k y h (sym f ∙ same) in
              rw (e, ne_eqb z y other) refl
          by_test false e = rw e refl

  in_another_fiber : (s : ℕ → Option NameKind) (k : NameKind) → elsewhere (with_name x k s) ≡ with_name x (kind_elsewhere k) (elsewhere s)
  in_another_fiber s k = λ i z. at z i
    where
      at : (z : ℕ) → elsewhere (with_name x k s) z ≡ with_name x (kind_elsewhere k) (elsewhere s) z
      at z = by_test (z == x) k
        where
          by_test : (b : Bool) (k : NameKind)
              → option_map kind_elsewhere (if b then Some k else s z) ≡ (if b then Some (kind_elsewhere k) else option_map kind_elsewhere (s z))
          by_test true k = refl
          by_test false k = refl

  put_arg_scoped : (s : ℕ → Option NameKind) (k place : NameKind) (a : Arg) → IsArgOf place (with_name x k s) a → IsArgOf place s (put_arg x n a)
  put_arg_scoped s k place (Number m) h = tt
  put_arg_scoped s k place (Slot y) h = by_test (y == x) h
    where
      by_test : (b : Bool) → (if b then Some k else s y) ≡ Some place → IsArgOf place s (if b then Number n else Slot y)
      by_test true h = tt
      by_test false h = h

  -- a part under a binder
  under : (s : ℕ → Option NameKind) (k j : NameKind) (y : Option ℕ) (b : Term) → IsNew (with_name x k s) y → IsScoped (with_named y j (with_name x k s)) b
      → IsScoped (with_name x k (with_named y j s)) b
  under s k j y b new h = subst (λ (scope : ℕ → Option NameKind). IsScoped scope b) (other_order s k j y new) h

  -- a part under two binders, of which the outer one stands there already
  under_both : (s : ℕ → Option NameKind) (k : NameKind) (y z : ℕ) (b : Term) → IsNew (with_name x k s) (Some y)
      → IsNew (with_name y kind.Value (with_name x k s)) (Some z) → IsScoped (with_name z kind.Value (with_name y kind.Value (with_name x k s))) b
      → IsNew (with_name y kind.Value s) (Some z) × IsScoped (with_name x k (with_name z kind.Value (with_name y kind.Value s))) b
  under_both s k y z b new other h =
      let inner = with_name y kind.Value s in
      let order = other_order s k kind.Value (Some y) new in
      let there : IsNew (with_name x k inner) (Some z) = subst (λ (scope : ℕ → Option NameKind). IsNew scope (Some z)) order other in
      let part = subst (λ (scope : ℕ → Option NameKind). IsScoped (with_name z kind.Value scope) b) order h in
      (new_without inner k (Some z) there, under inner k kind.Value (Some z) b there part)

  pub put_scoped : (s : ℕ → Option NameKind) (k : NameKind) (t : Term) → IsScoped (with_name x k s) t → IsScoped s (put x n t)
  put_scoped s k (Pure a) h = put_arg_scoped s k kind.Value a h
  put_scoped s k (Raise a) h = put_arg_scoped s k kind.Value a h
  put_scoped s k (Let y a b) h = (put_scoped s k a h.0, new_without s k y h.1, put_scoped (with_named y kind.Value s) k b (under s k kind.Value y b h.1 h.2))
  put_scoped s k (Handle a y b) h = (put_scoped s k a h.0, new_without s k y h.1, put_scoped (with_named y kind.Value s) k b (under s k kind.Value y b h.1 h.2))
  put_scoped s k (If v a b) h = (put_arg_scoped s k kind.Value v h.0, put_scoped s k a h.1, put_scoped s k b h.2)
  put_scoped s k (For i c a) h = (new_without s k (Some i) h.0, put_scoped (with_name i kind.Value s) k a (under s k kind.Value (Some i) a h.0 h.1))
  put_scoped s k (Mask p a) h = (new_without s k (Some p) h.0, put_scoped (with_name p kind.Poll s) k a (under s k kind.Poll (Some p) a h.0 h.1))
  put_scoped s k (Poll p a) h = (put_arg_scoped s k kind.Poll p h.0, put_scoped s k a h.1)
  put_scoped s k (OnCancel a f) h = (put_scoped s k a h.0, put_scoped s k f h.1)
  put_scoped s k (Bracket y a u r) h = (
    put_scoped s k a h.0,
    new_without s k y h.1,
    put_scoped (with_named y kind.Value s) k u (under s k kind.Value y u h.1 h.2),
    put_scoped (with_named y kind.Value s) k r (under s k kind.Value y r h.1 h.3),
  )
  put_scoped s k (BracketCase y a u z b w c d) h =
      let inner = with_name y kind.Value s in
      let success = under_both s k y z b h.1 h.3 h.4 in
      let failure = under_both s k y w c h.1 h.5 h.6 in (
        put_scoped s k a h.0,
        new_without s k (Some y) h.1,
        put_scoped inner k u (under s k kind.Value (Some y) u h.1 h.2),
        success.0,
        put_scoped (with_name z kind.Value inner) k b success.1,
        failure.0,
        put_scoped (with_name w kind.Value inner) k c failure.1,
        put_scoped inner k d (under s k kind.Value (Some y) d h.1 h.7),
      )
  put_scoped s k (Start i a b) h =
      let inner = subst (λ (scope : ℕ → Option NameKind). IsScoped scope a) (in_another_fiber s k) h.0 in (
        put_scoped (elsewhere s) (kind_elsewhere k) a inner,
        new_without s k (Some i) h.1,
        put_scoped (with_name i kind.Fiber s) k b (under s k kind.Fiber (Some i) b h.1 h.2),
      )
  put_scoped s k (Join f y a e b c) h =
      let first = put_scoped (with_name y kind.Value s) k a (under s k kind.Value (Some y) a h.1 h.2) in
      let second = put_scoped (with_name e kind.Value s) k b (under s k kind.Value (Some e) b h.3 h.4) in
      (put_arg_scoped s k kind.Fiber f h.0, new_without s k (Some y) h.1, first, new_without s k (Some e) h.3, second, put_scoped s k c h.5)
  put_scoped s k (Cancel f) h = put_arg_scoped s k kind.Fiber f h
  put_scoped s k (First f g) h = (put_arg_scoped s k kind.Fiber f h.0, put_arg_scoped s k kind.Fiber g h.1)
  put_scoped s k (Offer q v) h = put_arg_scoped s k kind.Value v h
  put_scoped s k (TryOffer q v) h = put_arg_scoped s k kind.Value v h
  put_scoped s k (TryTake q y a b) h =
      (new_without s k (Some y) h.0, put_scoped (with_name y kind.Value s) k a (under s k kind.Value (Some y) a h.0 h.1), put_scoped s k b h.2)
  put_scoped s k (Masked r a) h = put_scoped s k a h
  put_scoped s k (Opened r a) h = put_scoped s k a h
  put_scoped s k (InUse j a r) h = (put_scoped s k a h.0, put_scoped s k r h.1)
  put_scoped s k (InUseCase j u y b z c d) h = (
    put_scoped s k u h.0,
    new_without s k (Some y) h.1,
    put_scoped (with_name y kind.Value s) k b (under s k kind.Value (Some y) b h.1 h.2),
    new_without s k (Some z) h.3,
    put_scoped (with_name z kind.Value s) k c (under s k kind.Value (Some z) c h.3 h.4),
    put_scoped s k d h.5,
  )
  put_scoped s k (InRelease j a v) h = put_scoped s k a h
  put_scoped s k (Loop i j c a) h = (new_without s k (Some i) h.0, put_scoped (with_name i kind.Value s) k a (under s k kind.Value (Some i) a h.0 h.1))
  put_scoped s k _ h = tt

  -- at the place of a fiber stands only the number of one
  module _ (is_given : ℕ → Bool) where
    fits_fiber : (k : NameKind) → Fits k kind.Fiber → k ≡ kind.Fiber
    fits_fiber kind.Fiber h = refl
    fits_fiber _ h = absurd h

    fiber_elsewhere : (k : NameKind) → kind_elsewhere k ≡ kind.Fiber → k ≡ kind.Fiber
    fiber_elsewhere kind.Poll e = absurd cc
    fiber_elsewhere _ e = e

    put_arg_given : (k : NameKind) (a : Arg) → IsArgUsedAs k x kind.Fiber a → (k ≡ kind.Fiber → is_given n ≡ true) → IsArgGiven is_given a
        → IsArgGiven is_given (put_arg x n a)
    put_arg_given k (Number m) u g h = h
    put_arg_given k (Slot y) u g h = by_test (y == x) refl
      where
        by_test : (b : Bool) → (y == x) ≡ b → IsArgGiven is_given (if b then Number n else Slot y)
        by_test true e = g (fits_fiber k (u (eqb-true y x e)))
        by_test false e = tt

    pub put_given : (k : NameKind) (t : Term) → IsUsedAs k x t → (k ≡ kind.Fiber → is_given n ≡ true) → UsesGiven is_given t → UsesGiven is_given (put x n t)
    put_given k (Let y a b) u g h = (put_given k a u.0 g h.0, put_given k b u.1 g h.1)
    put_given k (Handle a y b) u g h = (put_given k a u.0 g h.0, put_given k b u.1 g h.1)
    put_given k (If v a b) u g h = (put_given k a u.1 g h.0, put_given k b u.2 g h.1)
    put_given k (For i c a) u g h = put_given k a u g h
    put_given k (Mask p a) u g h = put_given k a u g h
    put_given k (Poll p a) u g h = put_given k a u.1 g h
    put_given k (OnCancel a f) u g h = (put_given k a u.0 g h.0, put_given k f u.1 g h.1)
    put_given k (Bracket y a v r) u g h = (put_given k a u.0 g h.0, put_given k v u.1 g h.1, put_given k r u.2 g h.2)
    put_given k (BracketCase y a v z b w c d) u g h =
        (put_given k a u.0 g h.0, put_given k v u.1 g h.1, put_given k b u.2 g h.2, put_given k c u.3 g h.3, put_given k d u.4 g h.4)
    put_given k (Start i a b) u g h = (put_given (kind_elsewhere k) a u.0 (λ e. g (fiber_elsewhere k e)) h.0, put_given k b u.1 g h.1)
    put_given k (Join f y a e b c) u g h = (put_arg_given k f u.0 g h.0, put_given k a u.1 g h.1, put_given k b u.2 g h.2, put_given k c u.3 g h.3)
    put_given k (Cancel f) u g h = put_arg_given k f u g h
    put_given k (First f e) u g h = (put_arg_given k f u.0 g h.0, put_arg_given k e u.1 g h.1)
    put_given k (TryTake q y a b) u g h = (put_given k a u.0 g h.0, put_given k b u.1 g h.1)
    put_given k (Masked r a) u g h = put_given k a u g h
    put_given k (Opened r a) u g h = put_given k a u g h
    put_given k (InUse j a r) u g h = (put_given k a u.0 g h.0, put_given k r u.1 g h.1)
    put_given k (InUseCase j a y b z c d) u g h = (put_given k a u.0 g h.0, put_given k b u.1 g h.1, put_given k c u.2 g h.2, put_given k d u.3 g h.3)
    put_given k (InRelease j a v) u g h = put_given k a u g h
    put_given k (Loop i j c a) u g h = put_given k a u g h
    put_given k (Await f) u g h = h
    put_given k _ u g h = tt
