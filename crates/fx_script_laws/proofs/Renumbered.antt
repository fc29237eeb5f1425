-- Terms that are the same but for the numbers of their regions, where those below a number are the same.
use Rattle.std.proofs.Common.{◌≡◌, ℕ, ◌+◌, ◌==◌, ◌<◌, ◌≤◌, if◌then◌else◌, Bool, true, false, Option, Some, None, refl, sym, ◌∙◌, ap, subst}
use Rattle.std.proofs.lemmas.Bool.{eqb-true}
use Rattle.fx_term.specs.declared.node.Arg.{Arg}
use Rattle.fx_term.specs.declared.node.Arg.TheVariants.{Number, Slot}
use Rattle.fx_term.specs.declared.done.Done.{Done}
use Rattle.fx_term.specs.Term.{Term, put_arg, put, put_named}
use Rattle.fx_term.specs.Term as term
use Rattle.fx_term.specs.declared.name_kind.NameKind.{NameKind}
use Rattle.fx_term.specs.declared.name_kind.NameKind.TheVariants as kind
use Rattle.fx_term.specs.Scope.{with_name, with_named, elsewhere, kind_elsewhere, IsScoped}
use Rattle.fx_model.specs.MaskLaws.{IsPlain}
use Rattle.fx_term.proofs.NameUses.{Fits, IsArgUsedAs, IsUsedAs, IsBinderUsedAs, scoped_name_used, scoped_outer_used, scoped_binder_used, put_used}
use Rattle.fx_term.proofs.NameUses.{put_binder_used, put_unused}

-- which numbers of regions go with each other in two fibers: those below a number are the same, and where others do, too, the
-- shift between them is fixed, and they are such or higher
pub record Shift : Type 0 where
  pub base : ℕ
  pub others : Bool
  pub low : ℕ
  pub low' : ℕ

pub data AreRegionsOf (m : Shift) : ℕ → ℕ → Type 0 where
  kept : {r : ℕ} → r < m.base → AreRegionsOf m r r
  moved : {r r' : ℕ} → m.others ≡ true → m.base ≤ r → m.base ≤ r' → m.low ≤ r → m.low' ≤ r' → r + m.low' ≡ r' + m.low → AreRegionsOf m r r'

-- the regions below a number alone, and none
abbrev pub regions_below : ℕ → Shift
regions_below n = record { base = n; others = false; low = 0; low' = 0 }

abbrev pub no_regions : Shift
no_regions = regions_below 0

-- the numbers that a name of this kind stands for in two fibers
pub data AreNumbersOf (m : Shift) : NameKind → ℕ → ℕ → Type 0 where
  value : {n : ℕ} → AreNumbersOf m kind.Value n n
  fiber : {n : ℕ} → AreNumbersOf m kind.Fiber n n
  region : {r r' : ℕ} → AreRegionsOf m r r' → AreNumbersOf m kind.Poll r r'
  unused : {n : ℕ} → AreNumbersOf m kind.OtherPoll n n

pub data AreArgs (m : Shift) (k : NameKind) : Arg → Arg → Type 0 where
  number : {n n' : ℕ} → AreNumbersOf m k n n' → AreArgs m k (Number n) (Number n')
  slot : {x : ℕ} → AreArgs m k (Slot x) (Slot x)

-- the same term but for such numbers, and each name in it is used as what it is. What runs as another fiber has no region
pub data IsRenumbered : Shift → Term → Term → Type 0 where
  pure : {m : Shift} {a a' : Arg} → AreArgs m kind.Value a a' → IsRenumbered m (term.Pure a) (term.Pure a')
  raise : {m : Shift} {a a' : Arg} → AreArgs m kind.Value a a' → IsRenumbered m (term.Raise a) (term.Raise a')
  canceled : {m : Shift} → IsRenumbered m term.Canceled term.Canceled
  never : {m : Shift} → IsRenumbered m term.Never term.Never
  cede : {m : Shift} → IsRenumbered m term.Cede term.Cede
  let_ : {m : Shift} {x : Option ℕ} {a a' b b' : Term} → IsRenumbered m a a' → IsBinderUsedAs kind.Value x b → IsRenumbered m b b'
      → IsRenumbered m (term.Let x a b) (term.Let x a' b')
  handle : {m : Shift} {x : Option ℕ} {a a' b b' : Term} → IsRenumbered m a a' → IsBinderUsedAs kind.Value x b → IsRenumbered m b b'
      → IsRenumbered m (term.Handle a x b) (term.Handle a' x b')
  if_ : {m : Shift} {v v' : Arg} {a a' b b' : Term} → AreArgs m kind.Value v v' → IsRenumbered m a a' → IsRenumbered m b b'
      → IsRenumbered m (term.If v a b) (term.If v' a' b')
  for_ : {m : Shift} {i n : ℕ} {a a' : Term} → IsUsedAs kind.Value i a → IsRenumbered m a a' → IsRenumbered m (term.For i n a) (term.For i n a')
  mask : {m : Shift} {p : ℕ} {a a' : Term} → IsUsedAs kind.Poll p a → IsRenumbered m a a' → IsRenumbered m (term.Mask p a) (term.Mask p a')
  poll : {m : Shift} {p p' : Arg} {a a' : Term} → AreArgs m kind.Poll p p' → IsRenumbered m a a' → IsRenumbered m (term.Poll p a) (term.Poll p' a')
  oncancel : {m : Shift} {a a' f f' : Term} → IsRenumbered m a a' → IsRenumbered m f f' → IsRenumbered m (term.OnCancel a f) (term.OnCancel a' f')
  bracket : {m : Shift} {x : Option ℕ} {a a' u u' r r' : Term} → IsRenumbered m a a' → IsBinderUsedAs kind.Value x u → IsRenumbered m u u'
      → IsBinderUsedAs kind.Value x r → IsRenumbered m r r'
      → IsRenumbered m (term.Bracket x a u r) (term.Bracket x a' u' r')
  bracket_case : {m : Shift} {x y z : ℕ} {a a' u u' s s' e e' d d' : Term} → IsRenumbered m a a' → IsUsedAs kind.Value x u → IsRenumbered m u u'
      → IsUsedAs kind.Value x s → IsUsedAs kind.Value y s → IsRenumbered m s s' → IsUsedAs kind.Value x e → IsUsedAs kind.Value z e → IsRenumbered m e e'
      → IsUsedAs kind.Value x d → IsRenumbered m d d' → IsRenumbered m (term.BracketCase x a u y s z e d) (term.BracketCase x a' u' y s' z e' d')
  start : {m : Shift} {h : ℕ} {a b b' : Term} → IsRenumbered no_regions a a → IsUsedAs kind.Fiber h b → IsRenumbered m b b'
      → IsRenumbered m (term.Start h a b) (term.Start h a b')
  join : {m : Shift} {f f' : Arg} {x e : ℕ} {a a' b b' d d' : Term} → AreArgs m kind.Fiber f f' → IsUsedAs kind.Value x a → IsRenumbered m a a'
      → IsUsedAs kind.Value e b → IsRenumbered m b b' → IsRenumbered m d d' → IsRenumbered m (term.Join f x a e b d) (term.Join f' x a' e b' d')
  cancel : {m : Shift} {f f' : Arg} → AreArgs m kind.Fiber f f' → IsRenumbered m (term.Cancel f) (term.Cancel f')
  first : {m : Shift} {f f' g g' : Arg} → AreArgs m kind.Fiber f f' → AreArgs m kind.Fiber g g' → IsRenumbered m (term.First f g) (term.First f' g')
  offer : {m : Shift} {q : ℕ} {v v' : Arg} → AreArgs m kind.Value v v' → IsRenumbered m (term.Offer q v) (term.Offer q v')
  try_offer : {m : Shift} {q : ℕ} {v v' : Arg} → AreArgs m kind.Value v v' → IsRenumbered m (term.TryOffer q v) (term.TryOffer q v')
  take : {m : Shift} {q : ℕ} → IsRenumbered m (term.Take q) (term.Take q)
  try_take : {m : Shift} {q x : ℕ} {a a' b b' : Term} → IsUsedAs kind.Value x a → IsRenumbered m a a' → IsRenumbered m b b'
      → IsRenumbered m (term.TryTake q x a b) (term.TryTake q x a' b')
  finished : {m : Shift} {v : Done} → IsRenumbered m (term.Finished v) (term.Finished v)
  masked : {m : Shift} {r r' : ℕ} {a a' : Term} → AreRegionsOf m r r' → IsRenumbered m a a' → IsRenumbered m (term.Masked r a) (term.Masked r' a')
  opened : {m : Shift} {r r' : ℕ} {a a' : Term} → AreRegionsOf m r r' → IsRenumbered m a a' → IsRenumbered m (term.Opened r a) (term.Opened r' a')
  using_ : {m : Shift} {k : ℕ} {a a' r r' : Term} → IsRenumbered m a a' → IsRenumbered m r r' → IsRenumbered m (term.InUse k a r) (term.InUse k a' r')
  using_case : {m : Shift} {k y z : ℕ} {a a' s s' e e' d d' : Term} → IsRenumbered m a a' → IsUsedAs kind.Value y s → IsRenumbered m s s'
      → IsUsedAs kind.Value z e → IsRenumbered m e e'
      → IsRenumbered m d d' → IsRenumbered m (term.InUseCase k a y s z e d) (term.InUseCase k a' y s' z e' d')
  releasing : {m : Shift} {k : ℕ} {a a' : Term} {v : Done} → IsRenumbered m a a' → IsRenumbered m (term.InRelease k a v) (term.InRelease k a' v)
  loop : {m : Shift} {i k n : ℕ} {a a' : Term} → IsUsedAs kind.Value i a → IsRenumbered m a a' → IsRenumbered m (term.Loop i k n a) (term.Loop i k n a')
  await : {m : Shift} {f : ℕ} → IsRenumbered m (term.Await f) (term.Await f)

same_value : (m : Shift) (a : Arg) → AreArgs m kind.Value a a
same_value m (Number n) = number value
same_value m (Slot x) = slot

same_fiber : (m : Shift) (a : Arg) → AreArgs m kind.Fiber a a
same_fiber m (Number n) = number fiber
same_fiber m (Slot x) = slot

-- a script's term goes with itself
pub plain_renumbered : (m : Shift) (s : ℕ → Option NameKind) (t : Term) → IsPlain t → IsScoped s t → IsRenumbered m t t
plain_renumbered m s (term.Pure a) h g = pure (same_value m a)
plain_renumbered m s (term.Raise a) h g = raise (same_value m a)
plain_renumbered m s term.Canceled h g = canceled
plain_renumbered m s term.Never h g = never
plain_renumbered m s term.Cede h g = cede
plain_renumbered m s (term.Let x a b) h g =
    let_ (plain_renumbered m s a h.0 g.0) (scoped_binder_used s kind.Value x b g.2) (plain_renumbered m (with_named x kind.Value s) b h.1 g.2)
plain_renumbered m s (term.Handle a x b) h g =
    handle (plain_renumbered m s a h.0 g.0) (scoped_binder_used s kind.Value x b g.2) (plain_renumbered m (with_named x kind.Value s) b h.1 g.2)
plain_renumbered m s (term.If v a b) h g = if_ (same_value m v) (plain_renumbered m s a h.0 g.1) (plain_renumbered m s b h.1 g.2)
plain_renumbered m s (term.For i n a) h g = for_ (scoped_name_used s kind.Value i a g.1) (plain_renumbered m (with_name i kind.Value s) a h g.1)
plain_renumbered m s (term.Mask p a) h g = mask (scoped_name_used s kind.Poll p a g.1) (plain_renumbered m (with_name p kind.Poll s) a h g.1)
plain_renumbered m s (term.Poll (Slot p) a) h g = poll slot (plain_renumbered m s a h g.1)
plain_renumbered m s (term.Poll (Number r) a) h g = absurd h
plain_renumbered m s (term.OnCancel a f) h g = oncancel (plain_renumbered m s a h.0 g.0) (plain_renumbered m s f h.1 g.1)
plain_renumbered m s (term.Bracket x a u r) h g =
    bracket (plain_renumbered m s a h.0 g.0) (scoped_binder_used s kind.Value x u g.2) (plain_renumbered m (with_named x kind.Value s) u h.1 g.2)
    (scoped_binder_used s kind.Value x r g.3) (plain_renumbered m (with_named x kind.Value s) r h.2 g.3)
plain_renumbered m s (term.BracketCase x a u y b z c d) h g =
    let there = with_name x kind.Value s in
    bracket_case (plain_renumbered m s a h.0 g.0) (scoped_name_used s kind.Value x u g.2) (plain_renumbered m there u h.1 g.2)
    (scoped_outer_used s kind.Value kind.Value x y b g.3 g.4) (scoped_name_used there kind.Value y b g.4)
    (plain_renumbered m (with_name y kind.Value there) b h.2 g.4)
    (scoped_outer_used s kind.Value kind.Value x z c g.5 g.6) (scoped_name_used there kind.Value z c g.6)
    (plain_renumbered m (with_name z kind.Value there) c h.3 g.6) (scoped_name_used s kind.Value x d g.7) (plain_renumbered m there d h.4 g.7)
plain_renumbered m s (term.Start i a b) h g =
    start (plain_renumbered no_regions (elsewhere s) a h.0 g.0) (scoped_name_used s kind.Fiber i b g.2)
    (plain_renumbered m (with_name i kind.Fiber s) b h.1 g.2)
plain_renumbered m s (term.Join f x a e b d) h g =
    join (same_fiber m f) (scoped_name_used s kind.Value x a g.2) (plain_renumbered m (with_name x kind.Value s) a h.0 g.2)
    (scoped_name_used s kind.Value e b g.4)
    (plain_renumbered m (with_name e kind.Value s) b h.1 g.4) (plain_renumbered m s d h.2 g.5)
plain_renumbered m s (term.Cancel f) h g = cancel (same_fiber m f)
plain_renumbered m s (term.First f f') h g = first (same_fiber m f) (same_fiber m f')
plain_renumbered m s (term.Offer q v) h g = offer (same_value m v)
plain_renumbered m s (term.TryOffer q v) h g = try_offer (same_value m v)
plain_renumbered m s (term.Take q) h g = take
plain_renumbered m s (term.TryTake q x a b) h g =
    try_take (scoped_name_used s kind.Value x a g.1) (plain_renumbered m (with_name x kind.Value s) a h.0 g.1) (plain_renumbered m s b h.1 g.2)
plain_renumbered m s _ h g = absurd h

-- what runs as another fiber has no name of which the two numbers differ
put_apart : {m : Shift} {k : NameKind} {n n' : ℕ} → AreNumbersOf m k n n' → (x : ℕ) (t : Term) → IsUsedAs (kind_elsewhere k) x t → put x n t ≡ put x n' t
put_apart value x t h = refl
put_apart fiber x t h = refl
put_apart (region {r = r} {r' = r'} s) x t h = put_unused x r t h ∙ sym (put_unused x r' t h)
put_apart unused x t h = refl

-- and there each number stands for itself
number_elsewhere : (k : NameKind) (n : ℕ) → AreNumbersOf no_regions (kind_elsewhere k) n n
number_elsewhere kind.Value n = value
number_elsewhere kind.Poll n = unused
number_elsewhere kind.Fiber n = fiber
number_elsewhere kind.OtherPoll n = unused

numbers_at : {m : Shift} {n n' : ℕ} (j place : NameKind) → AreNumbersOf m j n n' → Fits j place → AreNumbersOf m place n n'
numbers_at kind.Value kind.Value v fits = v
numbers_at kind.Poll kind.Poll v fits = v
numbers_at kind.Fiber kind.Fiber v fits = v
numbers_at _ _ v fits = absurd fits

module _ (x : ℕ) where
  put_args : {m : Shift} {place : NameKind} {a a' : Arg} → AreArgs m place a a' → (k : NameKind) (n n' : ℕ) → AreNumbersOf m k n n' → IsArgUsedAs k x place a
      → AreArgs m place (put_arg x n a) (put_arg x n' a')
  put_args (number v) k n n' ns h = number v
  put_args {m} {place} (slot {x = y}) k n n' ns h = by_test (y == x) refl
    where
      by_test : (b : Bool) → (y == x) ≡ b → AreArgs m place (if b then Number n else Slot y) (if b then Number n' else Slot y)
      by_test true e = number (numbers_at k place ns (h (eqb-true y x e)))
      by_test false e = slot

  -- the numbers that a name stands for, put for it
  pub put_renumbered : {m : Shift} {t t' : Term} → IsRenumbered m t t' → (k : NameKind) (n n' : ℕ) → AreNumbersOf m k n n' → IsUsedAs k x t
      → IsRenumbered m (put x n t) (put x n' t')
  put_renumbered (pure a) k n n' ns h = pure (put_args a k n n' ns h)
  put_renumbered (raise a) k n n' ns h = raise (put_args a k n n' ns h)
  put_renumbered canceled k n n' ns h = canceled
  put_renumbered never k n n' ns h = never
  put_renumbered cede k n n' ns h = cede
  put_renumbered (let_ {x = y} {b = b} p u q) k n n' ns h =
      let_ (put_renumbered p k n n' ns h.0) (put_binder_used x kind.Value y n b u) (put_renumbered q k n n' ns h.1)
  put_renumbered (handle {x = y} {b = b} p u q) k n n' ns h =
      handle (put_renumbered p k n n' ns h.0) (put_binder_used x kind.Value y n b u) (put_renumbered q k n n' ns h.1)
  put_renumbered (if_ v p q) k n n' ns h = if_ (put_args v k n n' ns h.0) (put_renumbered p k n n' ns h.1) (put_renumbered q k n n' ns h.2)
  put_renumbered (for_ {i = i} {a = a} u p) k n n' ns h = for_ (put_used i kind.Value x n a u) (put_renumbered p k n n' ns h)
  put_renumbered (mask {p = i} {a = a} u p) k n n' ns h = mask (put_used i kind.Poll x n a u) (put_renumbered p k n n' ns h)
  put_renumbered (poll v p) k n n' ns h = poll (put_args v k n n' ns h.0) (put_renumbered p k n n' ns h.1)
  put_renumbered (oncancel p q) k n n' ns h = oncancel (put_renumbered p k n n' ns h.0) (put_renumbered q k n n' ns h.1)
  put_renumbered (bracket {x = y} {u = u} {r = r} p i q j s) k n n' ns h =
      bracket (put_renumbered p k n n' ns h.0) (put_binder_used x kind.Value y n u i) (put_renumbered q k n n' ns h.1) (put_binder_used x kind.Value y n r j)
      (put_renumbered s k n n' ns h.2)
  put_renumbered (bracket_case {x = v} {y = y} {z = z} {u = u} {s = b} {e = c} {d = d} p i q j j' r l l' s o w) k n n' ns h =
      bracket_case (put_renumbered p k n n' ns h.0) (put_used v kind.Value x n u i) (put_renumbered q k n n' ns h.1) (put_used v kind.Value x n b j)
      (put_used y kind.Value x n b j')
      (put_renumbered r k n n' ns h.2) (put_used v kind.Value x n c l) (put_used z kind.Value x n c l') (put_renumbered s k n n' ns h.3)
      (put_used v kind.Value x n d o) (put_renumbered w k n n' ns h.4)
  put_renumbered {m} (start {h = i} {a = a} {b = b} {b' = b'} q u p) k n n' ns h =
      subst (λ (c : Term). IsRenumbered m (term.Start i (put x n a) (put x n b)) (term.Start i c (put x n' b'))) (put_apart ns x a h.0)
      (start (put_renumbered q (kind_elsewhere k) n n (number_elsewhere k n) h.0) (put_used i kind.Fiber x n b u) (put_renumbered p k n n' ns h.1))
  put_renumbered (join {x = y} {e = z} {a = a} {b = b} f u p v q s) k n n' ns h =
      join (put_args f k n n' ns h.0) (put_used y kind.Value x n a u) (put_renumbered p k n n' ns h.1) (put_used z kind.Value x n b v)
      (put_renumbered q k n n' ns h.2) (put_renumbered s k n n' ns h.3)
  put_renumbered (cancel f) k n n' ns h = cancel (put_args f k n n' ns h)
  put_renumbered (first f g) k n n' ns h = first (put_args f k n n' ns h.0) (put_args g k n n' ns h.1)
  put_renumbered (offer v) k n n' ns h = offer (put_args v k n n' ns h)
  put_renumbered (try_offer v) k n n' ns h = try_offer (put_args v k n n' ns h)
  put_renumbered take k n n' ns h = take
  put_renumbered (try_take {x = y} {a = a} u p q) k n n' ns h =
      try_take (put_used y kind.Value x n a u) (put_renumbered p k n n' ns h.0) (put_renumbered q k n n' ns h.1)
  put_renumbered finished k n n' ns h = finished
  put_renumbered (masked r p) k n n' ns h = masked r (put_renumbered p k n n' ns h)
  put_renumbered (opened r p) k n n' ns h = opened r (put_renumbered p k n n' ns h)
  put_renumbered (using_ p q) k n n' ns h = using_ (put_renumbered p k n n' ns h.0) (put_renumbered q k n n' ns h.1)
  put_renumbered (using_case {y = y} {z = z} {s = b} {e = c} p i q j r s) k n n' ns h =
      using_case (put_renumbered p k n n' ns h.0) (put_used y kind.Value x n b i) (put_renumbered q k n n' ns h.1) (put_used z kind.Value x n c j)
      (put_renumbered r k n n' ns h.2) (put_renumbered s k n n' ns h.3)
  put_renumbered (releasing p) k n n' ns h = releasing (put_renumbered p k n n' ns h)
  put_renumbered (loop {i = i} {a = a} u p) k n n' ns h = loop (put_used i kind.Value x n a u) (put_renumbered p k n n' ns h)
  put_renumbered await k n n' ns h = await

pub put_named_renumbered : {m : Shift} (x : Option ℕ) (n : ℕ) {t t' : Term} → IsRenumbered m t t' → IsBinderUsedAs kind.Value x t
    → IsRenumbered m (put_named x n t) (put_named x n t')
put_named_renumbered None n p h = p
put_named_renumbered (Some x) n p h = put_renumbered x p kind.Value n n value h

-- regions that go with each other by one shift may do so by another
module _ (m o : Shift) (by : (r r' : ℕ) → AreRegionsOf m r r' → AreRegionsOf o r r') where
  numbers_by : {k : NameKind} {n n' : ℕ} → AreNumbersOf m k n n' → AreNumbersOf o k n n'
  numbers_by value = value
  numbers_by fiber = fiber
  numbers_by (region {r = r} {r' = r'} s) = region (by r r' s)
  numbers_by unused = unused

  args_by : {k : NameKind} {a a' : Arg} → AreArgs m k a a' → AreArgs o k a a'
  args_by (number v) = number (numbers_by v)
  args_by slot = slot

  pub renumbered_by : {t t' : Term} → IsRenumbered m t t' → IsRenumbered o t t'
  renumbered_by (pure a) = pure (args_by a)
  renumbered_by (raise a) = raise (args_by a)
  renumbered_by canceled = canceled
  renumbered_by never = never
  renumbered_by cede = cede
  renumbered_by (let_ p u q) = let_ (renumbered_by p) u (renumbered_by q)
  renumbered_by (handle p u q) = handle (renumbered_by p) u (renumbered_by q)
  renumbered_by (if_ v p q) = if_ (args_by v) (renumbered_by p) (renumbered_by q)
  renumbered_by (for_ u p) = for_ u (renumbered_by p)
  renumbered_by (mask u p) = mask u (renumbered_by p)
  renumbered_by (poll v p) = poll (args_by v) (renumbered_by p)
  renumbered_by (oncancel p q) = oncancel (renumbered_by p) (renumbered_by q)
  renumbered_by (bracket p i q j r) = bracket (renumbered_by p) i (renumbered_by q) j (renumbered_by r)
  renumbered_by (bracket_case p i q j j' r l l' s n w) =
      bracket_case (renumbered_by p) i (renumbered_by q) j j' (renumbered_by r) l l' (renumbered_by s) n (renumbered_by w)
  renumbered_by (start q u p) = start q u (renumbered_by p)
  renumbered_by (join f u p v q r) = join (args_by f) u (renumbered_by p) v (renumbered_by q) (renumbered_by r)
  renumbered_by (cancel f) = cancel (args_by f)
  renumbered_by (first f g) = first (args_by f) (args_by g)
  renumbered_by (offer v) = offer (args_by v)
  renumbered_by (try_offer v) = try_offer (args_by v)
  renumbered_by take = take
  renumbered_by (try_take u p q) = try_take u (renumbered_by p) (renumbered_by q)
  renumbered_by finished = finished
  renumbered_by (masked {r = r} {r' = r'} s p) = masked (by r r' s) (renumbered_by p)
  renumbered_by (opened {r = r} {r' = r'} s p) = opened (by r r' s) (renumbered_by p)
  renumbered_by (using_ p q) = using_ (renumbered_by p) (renumbered_by q)
  renumbered_by (using_case p i q j r s) = using_case (renumbered_by p) i (renumbered_by q) j (renumbered_by r) (renumbered_by s)
  renumbered_by (releasing p) = releasing (renumbered_by p)
  renumbered_by (loop u p) = loop u (renumbered_by p)
  renumbered_by await = await

-- with the regions below a number alone, it is the same term
module _ (n : ℕ) where
  same_region : {r r' : ℕ} → AreRegionsOf (regions_below n) r r' → r ≡ r'
  same_region (kept h) = refl
  same_region (moved others a b l l' e) = absurd cc

  same_number : {k : NameKind} {i j : ℕ} → AreNumbersOf (regions_below n) k i j → i ≡ j
  same_number value = refl
  same_number fiber = refl
  same_number (region s) = same_region s
  same_number unused = refl

  same_arg : {k : NameKind} {a a' : Arg} → AreArgs (regions_below n) k a a' → a ≡ a'
  same_arg (number v) = ap Number (same_number v)
  same_arg slot = refl

  pub same_term : {t t' : Term} → IsRenumbered (regions_below n) t t' → t ≡ t'
  same_term (pure a) = let e = same_arg a in cc
  same_term (raise a) = let e = same_arg a in cc
  same_term canceled = refl
  same_term never = refl
  same_term cede = refl
  same_term (let_ p u q) = let e = same_term p in let f = same_term q in cc
  same_term (handle p u q) = let e = same_term p in let f = same_term q in cc
  same_term (if_ v p q) = let d = same_arg v in let e = same_term p in let f = same_term q in cc
  same_term (for_ u p) = let e = same_term p in cc
  same_term (mask u p) = let e = same_term p in cc
  same_term (poll v p) = let d = same_arg v in let e = same_term p in cc
  same_term (oncancel p q) = let e = same_term p in let f = same_term q in cc
  same_term (bracket p i q j r) = let e = same_term p in let f = same_term q in let g = same_term r in cc
  same_term (bracket_case p i q j j' r l l' s o w) =
      let e = same_term p in let f = same_term q in let g = same_term r in let h = same_term s in let k = same_term w in cc
  same_term (start q u p) = let e = same_term p in cc
  same_term (join f u p v q r) = let d = same_arg f in let e = same_term p in let g = same_term q in let h = same_term r in cc
  same_term (cancel f) = let e = same_arg f in cc
  same_term (first f g) = let d = same_arg f in let e = same_arg g in cc
  same_term (offer v) = let e = same_arg v in cc
  same_term (try_offer v) = let e = same_arg v in cc
  same_term take = refl
  same_term (try_take u p q) = let e = same_term p in let f = same_term q in cc
  same_term finished = refl
  same_term (masked s p) = let d = same_region s in let e = same_term p in cc
  same_term (opened s p) = let d = same_region s in let e = same_term p in cc
  same_term (using_ p q) = let e = same_term p in let f = same_term q in cc
  same_term (using_case p i q j r s) = let e = same_term p in let f = same_term q in let g = same_term r in let h = same_term s in cc
  same_term (releasing p) = let e = same_term p in cc
  same_term (loop u p) = let e = same_term p in cc
  same_term await = refl
