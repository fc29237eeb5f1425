-- Terms that are the same but for the numbers of their regions.
use Rattle.std.proofs.Common.{◌≡◌, ℕ, ◌+◌, ◌==◌, ◌≤◌, if◌then◌else◌, Bool, true, false, Option, Some, None, refl, sym, ◌∙◌, subst, arith}
use Rattle.std.proofs.lemmas.Bool.{eqb-true}
use Rattle.fx_term.specs.declared.node.Arg.{Arg}
use Rattle.fx_term.specs.declared.node.Arg.TheVariants.{Number, Slot}
use Rattle.fx_term.specs.declared.done.Done.{Done}
use Rattle.fx_term.specs.Term.{Term, put_arg, put, put_named}
use Rattle.fx_term.specs.Term as term
use Rattle.fx_term.specs.declared.name_kind.NameKind.{NameKind}
use Rattle.fx_term.specs.declared.name_kind.NameKind.TheVariants as kind
use Rattle.fx_term.specs.Scope.{with_name, with_named, kind_elsewhere, IsScoped}
use Rattle.fx_model.specs.MaskLaws.{IsPlain}
use Rattle.fx_term.proofs.NameUses.{Fits, IsArgUsedAs, IsUsedAs, IsBinderUsedAs, scoped_name_used, scoped_outer_used, scoped_binder_used, put_used}
use Rattle.fx_term.proofs.NameUses.{put_binder_used, put_unused}

-- two fibers that had entered so many regions entered these two after as many others
pub record IsSameRegion (low low' r r' : ℕ) : Type 0 where
  pub from : low ≤ r
  pub from' : low' ≤ r'
  pub shift : r + low' ≡ r' + low

-- the next ones that they enter
pub next_regions : (low low' : ℕ) → IsSameRegion low low' low low'
next_regions low low' = omega arith

module _ (low low' : ℕ) where
  -- the numbers that a name of this kind stands for in two fibers
  pub data AreNumbersOf : NameKind → ℕ → ℕ → Type 0 where
    value : {n : ℕ} → AreNumbersOf kind.Value n n
    fiber : {n : ℕ} → AreNumbersOf kind.Fiber n n
    region : {r r' : ℕ} → IsSameRegion low low' r r' → AreNumbersOf kind.Poll r r'
    unused : {n : ℕ} → AreNumbersOf kind.OtherPoll n n

  pub data AreArgs (k : NameKind) : Arg → Arg → Type 0 where
    number : {n n' : ℕ} → AreNumbersOf k n n' → AreArgs k (Number n) (Number n')
    slot : {x : ℕ} → AreArgs k (Slot x) (Slot x)

  -- the same term but for the numbers of regions, and each name in it is used as what it is. What runs as another fiber has no such number
  pub data Alike : Term → Term → Type 0 where
    pure : {a a' : Arg} → AreArgs kind.Value a a' → Alike (term.Pure a) (term.Pure a')
    raise : {a a' : Arg} → AreArgs kind.Value a a' → Alike (term.Raise a) (term.Raise a')
    canceled : Alike term.Canceled term.Canceled
    never : Alike term.Never term.Never
    cede : Alike term.Cede term.Cede
    let_ : {x : Option ℕ} {a a' b b' : Term} → Alike a a' → IsBinderUsedAs kind.Value x b → Alike b b' → Alike (term.Let x a b) (term.Let x a' b')
    handle : {x : Option ℕ} {a a' b b' : Term} → Alike a a' → IsBinderUsedAs kind.Value x b → Alike b b' → Alike (term.Handle a x b) (term.Handle a' x b')
    if_ : {v v' : Arg} {a a' b b' : Term} → AreArgs kind.Value v v' → Alike a a' → Alike b b' → Alike (term.If v a b) (term.If v' a' b')
    for_ : {i n : ℕ} {a a' : Term} → IsUsedAs kind.Value i a → Alike a a' → Alike (term.For i n a) (term.For i n a')
    mask : {p : ℕ} {a a' : Term} → IsUsedAs kind.Poll p a → Alike a a' → Alike (term.Mask p a) (term.Mask p a')
    poll : {p p' : Arg} {a a' : Term} → AreArgs kind.Poll p p' → Alike a a' → Alike (term.Poll p a) (term.Poll p' a')
    oncancel : {a a' f f' : Term} → Alike a a' → Alike f f' → Alike (term.OnCancel a f) (term.OnCancel a' f')
    bracket : {x : Option ℕ} {a a' u u' r r' : Term} → Alike a a' → IsBinderUsedAs kind.Value x u → Alike u u' → IsBinderUsedAs kind.Value x r → Alike r r'
        → Alike (term.Bracket x a u r) (term.Bracket x a' u' r')
    bracket_case : {x y z : ℕ} {a a' u u' s s' e e' d d' : Term} → Alike a a' → IsUsedAs kind.Value x u → Alike u u'
        → IsUsedAs kind.Value x s → IsUsedAs kind.Value y s → Alike s s' → IsUsedAs kind.Value x e → IsUsedAs kind.Value z e → Alike e e'
        → IsUsedAs kind.Value x d → Alike d d' → Alike (term.BracketCase x a u y s z e d) (term.BracketCase x a' u' y s' z e' d')
    start : {h : ℕ} {a b b' : Term} → IsUsedAs kind.Fiber h b → Alike b b' → Alike (term.Start h a b) (term.Start h a b')
    join : {f f' : Arg} {x e : ℕ} {a a' b b' d d' : Term} → AreArgs kind.Fiber f f' → IsUsedAs kind.Value x a → Alike a a'
        → IsUsedAs kind.Value e b → Alike b b' → Alike d d' → Alike (term.Join f x a e b d) (term.Join f' x a' e b' d')
    cancel : {f f' : Arg} → AreArgs kind.Fiber f f' → Alike (term.Cancel f) (term.Cancel f')
    first : {f f' g g' : Arg} → AreArgs kind.Fiber f f' → AreArgs kind.Fiber g g' → Alike (term.First f g) (term.First f' g')
    offer : {q : ℕ} {v v' : Arg} → AreArgs kind.Value v v' → Alike (term.Offer q v) (term.Offer q v')
    try_offer : {q : ℕ} {v v' : Arg} → AreArgs kind.Value v v' → Alike (term.TryOffer q v) (term.TryOffer q v')
    take : {q : ℕ} → Alike (term.Take q) (term.Take q)
    try_take : {q x : ℕ} {a a' b b' : Term} → IsUsedAs kind.Value x a → Alike a a' → Alike b b' → Alike (term.TryTake q x a b) (term.TryTake q x a' b')
    finished : {v : Done} → Alike (term.Finished v) (term.Finished v)
    masked : {r r' : ℕ} {a a' : Term} → IsSameRegion low low' r r' → Alike a a' → Alike (term.Masked r a) (term.Masked r' a')
    opened : {r r' : ℕ} {a a' : Term} → IsSameRegion low low' r r' → Alike a a' → Alike (term.Opened r a) (term.Opened r' a')
    using_ : {k : ℕ} {a a' r r' : Term} → Alike a a' → Alike r r' → Alike (term.InUse k a r) (term.InUse k a' r')
    using_case : {k y z : ℕ} {a a' s s' e e' d d' : Term} → Alike a a' → IsUsedAs kind.Value y s → Alike s s' → IsUsedAs kind.Value z e → Alike e e'
        → Alike d d' → Alike (term.InUseCase k a y s z e d) (term.InUseCase k a' y s' z e' d')
    releasing : {k : ℕ} {a a' : Term} {v : Done} → Alike a a' → Alike (term.InRelease k a v) (term.InRelease k a' v)
    loop : {i k n : ℕ} {a a' : Term} → IsUsedAs kind.Value i a → Alike a a' → Alike (term.Loop i k n a) (term.Loop i k n a')
    await : {f : ℕ} → Alike (term.Await f) (term.Await f)

  same_value : (a : Arg) → AreArgs kind.Value a a
  same_value (Number n) = number value
  same_value (Slot x) = slot

  same_fiber : (a : Arg) → AreArgs kind.Fiber a a
  same_fiber (Number n) = number fiber
  same_fiber (Slot x) = slot

  -- a script's term is alike with itself, whatever regions the two fibers entered before
  pub plain_alike : (s : ℕ → Option NameKind) (t : Term) → IsPlain t → IsScoped s t → Alike t t
  plain_alike s (term.Pure a) h g = pure (same_value a)
  plain_alike s (term.Raise a) h g = raise (same_value a)
  plain_alike s term.Canceled h g = canceled
  plain_alike s term.Never h g = never
  plain_alike s term.Cede h g = cede
  plain_alike s (term.Let x a b) h g =
      let_ (plain_alike s a h.0 g.0) (scoped_binder_used s kind.Value x b g.2) (plain_alike (with_named x kind.Value s) b h.1 g.2)
  plain_alike s (term.Handle a x b) h g =
      handle (plain_alike s a h.0 g.0) (scoped_binder_used s kind.Value x b g.2) (plain_alike (with_named x kind.Value s) b h.1 g.2)
  plain_alike s (term.If v a b) h g = if_ (same_value v) (plain_alike s a h.0 g.1) (plain_alike s b h.1 g.2)
  plain_alike s (term.For i n a) h g = for_ (scoped_name_used s kind.Value i a g.1) (plain_alike (with_name i kind.Value s) a h g.1)
  plain_alike s (term.Mask p a) h g = mask (scoped_name_used s kind.Poll p a g.1) (plain_alike (with_name p kind.Poll s) a h g.1)
  plain_alike s (term.Poll (Slot p) a) h g = poll slot (plain_alike s a h g.1)
  plain_alike s (term.Poll (Number r) a) h g = absurd h
  plain_alike s (term.OnCancel a f) h g = oncancel (plain_alike s a h.0 g.0) (plain_alike s f h.1 g.1)
  plain_alike s (term.Bracket x a u r) h g =
      bracket (plain_alike s a h.0 g.0) (scoped_binder_used s kind.Value x u g.2) (plain_alike (with_named x kind.Value s) u h.1 g.2)
      (scoped_binder_used s kind.Value x r g.3) (plain_alike (with_named x kind.Value s) r h.2 g.3)
  plain_alike s (term.BracketCase x a u y b z c d) h g =
      let there = with_name x kind.Value s in
      bracket_case (plain_alike s a h.0 g.0) (scoped_name_used s kind.Value x u g.2) (plain_alike there u h.1 g.2)
      (scoped_outer_used s kind.Value kind.Value x y b g.3 g.4) (scoped_name_used there kind.Value y b g.4)
      (plain_alike (with_name y kind.Value there) b h.2 g.4)
      (scoped_outer_used s kind.Value kind.Value x z c g.5 g.6) (scoped_name_used there kind.Value z c g.6)
      (plain_alike (with_name z kind.Value there) c h.3 g.6) (scoped_name_used s kind.Value x d g.7) (plain_alike there d h.4 g.7)
  plain_alike s (term.Start i a b) h g = start (scoped_name_used s kind.Fiber i b g.2) (plain_alike (with_name i kind.Fiber s) b h.1 g.2)
  plain_alike s (term.Join f x a e b d) h g =
      join (same_fiber f) (scoped_name_used s kind.Value x a g.2) (plain_alike (with_name x kind.Value s) a h.0 g.2) (scoped_name_used s kind.Value e b g.4)
      (plain_alike (with_name e kind.Value s) b h.1 g.4) (plain_alike s d h.2 g.5)
  plain_alike s (term.Cancel f) h g = cancel (same_fiber f)
  plain_alike s (term.First f f') h g = first (same_fiber f) (same_fiber f')
  plain_alike s (term.Offer q v) h g = offer (same_value v)
  plain_alike s (term.TryOffer q v) h g = try_offer (same_value v)
  plain_alike s (term.Take q) h g = take
  plain_alike s (term.TryTake q x a b) h g =
      try_take (scoped_name_used s kind.Value x a g.1) (plain_alike (with_name x kind.Value s) a h.0 g.1) (plain_alike s b h.1 g.2)
  plain_alike s _ h g = absurd h

  -- what runs as another fiber has no name of which the two numbers differ
  put_apart : {k : NameKind} {n n' : ℕ} → AreNumbersOf k n n' → (x : ℕ) (t : Term) → IsUsedAs (kind_elsewhere k) x t → put x n t ≡ put x n' t
  put_apart value x t h = refl
  put_apart fiber x t h = refl
  put_apart (region {r = r} {r' = r'} s) x t h = put_unused x r t h ∙ sym (put_unused x r' t h)
  put_apart unused x t h = refl

  module _ {k : NameKind} {n n' : ℕ} (ns : AreNumbersOf k n n') (x : ℕ) where
    numbers_at : (j place : NameKind) → AreNumbersOf j n n' → Fits j place → AreNumbersOf place n n'
    numbers_at kind.Value kind.Value m fits = m
    numbers_at kind.Poll kind.Poll m fits = m
    numbers_at kind.Fiber kind.Fiber m fits = m
    numbers_at _ _ m fits = absurd fits

    put_args : {place : NameKind} {a a' : Arg} → AreArgs place a a' → IsArgUsedAs k x place a → AreArgs place (put_arg x n a) (put_arg x n' a')
    put_args (number m) h = number m
    put_args {place} (slot {x = y}) h = by_test (y == x) refl
      where
        by_test : (b : Bool) → (y == x) ≡ b → AreArgs place (if b then Number n else Slot y) (if b then Number n' else Slot y)
        by_test true e = number (numbers_at k place ns (h (eqb-true y x e)))
        by_test false e = slot

    -- the numbers that a name stands for, put for it
    pub put_alike : {t t' : Term} → Alike t t' → IsUsedAs k x t → Alike (put x n t) (put x n' t')
    put_alike (pure a) h = pure (put_args a h)
    put_alike (raise a) h = raise (put_args a h)
    put_alike canceled h = canceled
    put_alike never h = never
    put_alike cede h = cede
    put_alike (let_ {x = y} {b = b} p u q) h = let_ (put_alike p h.0) (put_binder_used x kind.Value y n b u) (put_alike q h.1)
    put_alike (handle {x = y} {b = b} p u q) h = handle (put_alike p h.0) (put_binder_used x kind.Value y n b u) (put_alike q h.1)
    put_alike (if_ v p q) h = if_ (put_args v h.0) (put_alike p h.1) (put_alike q h.2)
    put_alike (for_ {i = i} {a = a} u p) h = for_ (put_used i kind.Value x n a u) (put_alike p h)
    put_alike (mask {p = i} {a = a} u p) h = mask (put_used i kind.Poll x n a u) (put_alike p h)
    put_alike (poll v p) h = poll (put_args v h.0) (put_alike p h.1)
    put_alike (oncancel p q) h = oncancel (put_alike p h.0) (put_alike q h.1)
    put_alike (bracket {x = y} {u = u} {r = r} p i q j s) h =
        bracket (put_alike p h.0) (put_binder_used x kind.Value y n u i) (put_alike q h.1) (put_binder_used x kind.Value y n r j) (put_alike s h.2)
    put_alike (bracket_case {x = v} {y = y} {z = z} {u = u} {s = b} {e = c} {d = d} p i q j j' r l l' s o w) h =
        bracket_case (put_alike p h.0) (put_used v kind.Value x n u i) (put_alike q h.1) (put_used v kind.Value x n b j) (put_used y kind.Value x n b j')
        (put_alike r h.2) (put_used v kind.Value x n c l) (put_used z kind.Value x n c l') (put_alike s h.3) (put_used v kind.Value x n d o) (put_alike w h.4)
    put_alike (start {h = i} {a = a} {b = b} {b' = b'} u p) h =
        subst (λ (c : Term). Alike (term.Start i (put x n a) (put x n b)) (term.Start i c (put x n' b'))) (put_apart ns x a h.0)
        (start (put_used i kind.Fiber x n b u) (put_alike p h.1))
    put_alike (join {x = y} {e = z} {a = a} {b = b} f u p v q s) h =
        join (put_args f h.0) (put_used y kind.Value x n a u) (put_alike p h.1) (put_used z kind.Value x n b v) (put_alike q h.2) (put_alike s h.3)
    put_alike (cancel f) h = cancel (put_args f h)
    put_alike (first f g) h = first (put_args f h.0) (put_args g h.1)
    put_alike (offer v) h = offer (put_args v h)
    put_alike (try_offer v) h = try_offer (put_args v h)
    put_alike take h = take
    put_alike (try_take {x = y} {a = a} u p q) h = try_take (put_used y kind.Value x n a u) (put_alike p h.0) (put_alike q h.1)
    put_alike finished h = finished
    put_alike (masked r p) h = masked r (put_alike p h)
    put_alike (opened r p) h = opened r (put_alike p h)
    put_alike (using_ p q) h = using_ (put_alike p h.0) (put_alike q h.1)
    put_alike (using_case {y = y} {z = z} {s = b} {e = c} p i q j r s) h =
        using_case (put_alike p h.0) (put_used y kind.Value x n b i) (put_alike q h.1) (put_used z kind.Value x n c j) (put_alike r h.2) (put_alike s h.3)
    put_alike (releasing p) h = releasing (put_alike p h)
    put_alike (loop {i = i} {a = a} u p) h = loop (put_used i kind.Value x n a u) (put_alike p h)
    put_alike await h = await

  pub put_named_alike : (x : Option ℕ) (n : ℕ) {t t' : Term} → Alike t t' → IsBinderUsedAs kind.Value x t → Alike (put_named x n t) (put_named x n t')
  put_named_alike None n p h = p
  put_named_alike (Some x) n p h = put_alike value x p h
