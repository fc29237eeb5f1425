-- Terms that are the same but for the numbers of their regions, whatever these are. Where nothing is canceled, as in a clean-up, they run the same.
use Rattle.std.proofs.Common.{◌≡◌, ℕ, ◌==◌, if◌then◌else◌, Bool, true, false, Option, Some, None, refl, sym, ◌∙◌, subst}
use Rattle.std.proofs.lemmas.Bool.{eqb-true}
use Rattle.fx_term.specs.declared.node.Arg.{Arg}
use Rattle.fx_term.specs.declared.node.Arg.TheVariants.{Number, Slot}
use Rattle.fx_term.specs.declared.done.Done.{Done}
use Rattle.fx_term.specs.declared.name_kind.NameKind.{NameKind}
use Rattle.fx_term.specs.declared.name_kind.NameKind.TheVariants as kind
use Rattle.fx_term.specs.Term.{Term, put_arg, put, put_named}
use Rattle.fx_term.specs.Term as term
use Rattle.fx_term.specs.Scope.{with_name, with_named, IsScoped}
use Rattle.fx_term.proofs.NameUses.{IsArgUsedAs, IsUsedAs, scoped_name_used, put_used, put_unused}

pub data AreRegions : Arg → Arg → Type 0 where
  number : {r r' : ℕ} → AreRegions (Number r) (Number r')
  slot : {x : ℕ} → AreRegions (Slot x) (Slot x)

-- each mask in it binds a poll. What runs as another fiber is the same
pub data IsRemasked : Term → Term → Type 0 where
  pure : {a : Arg} → IsRemasked (term.Pure a) (term.Pure a)
  raise : {a : Arg} → IsRemasked (term.Raise a) (term.Raise a)
  canceled : IsRemasked term.Canceled term.Canceled
  never : IsRemasked term.Never term.Never
  cede : IsRemasked term.Cede term.Cede
  let_ : {x : Option ℕ} {a a' b b' : Term} → IsRemasked a a' → IsRemasked b b' → IsRemasked (term.Let x a b) (term.Let x a' b')
  handle : {x : Option ℕ} {a a' b b' : Term} → IsRemasked a a' → IsRemasked b b' → IsRemasked (term.Handle a x b) (term.Handle a' x b')
  if_ : {v : Arg} {a a' b b' : Term} → IsRemasked a a' → IsRemasked b b' → IsRemasked (term.If v a b) (term.If v a' b')
  for_ : {i n : ℕ} {a a' : Term} → IsRemasked a a' → IsRemasked (term.For i n a) (term.For i n a')
  mask : {p : ℕ} {a a' : Term} → IsUsedAs kind.Poll p a → IsRemasked a a' → IsRemasked (term.Mask p a) (term.Mask p a')
  poll : {p p' : Arg} {a a' : Term} → AreRegions p p' → IsRemasked a a' → IsRemasked (term.Poll p a) (term.Poll p' a')
  oncancel : {a a' f f' : Term} → IsRemasked a a' → IsRemasked f f' → IsRemasked (term.OnCancel a f) (term.OnCancel a' f')
  bracket : {x : Option ℕ} {a a' u u' r r' : Term} → IsRemasked a a' → IsRemasked u u' → IsRemasked r r'
      → IsRemasked (term.Bracket x a u r) (term.Bracket x a' u' r')
  bracket_case : {x y z : ℕ} {a a' u u' s s' e e' d d' : Term} → IsRemasked a a' → IsRemasked u u' → IsRemasked s s' → IsRemasked e e' → IsRemasked d d'
      → IsRemasked (term.BracketCase x a u y s z e d) (term.BracketCase x a' u' y s' z e' d')
  start : {h : ℕ} {a b b' : Term} → IsRemasked b b' → IsRemasked (term.Start h a b) (term.Start h a b')
  join : {f : Arg} {x e : ℕ} {a a' b b' d d' : Term} → IsRemasked a a' → IsRemasked b b' → IsRemasked d d'
      → IsRemasked (term.Join f x a e b d) (term.Join f x a' e b' d')
  cancel : {f : Arg} → IsRemasked (term.Cancel f) (term.Cancel f)
  first : {f g : Arg} → IsRemasked (term.First f g) (term.First f g)
  offer : {q : ℕ} {v : Arg} → IsRemasked (term.Offer q v) (term.Offer q v)
  try_offer : {q : ℕ} {v : Arg} → IsRemasked (term.TryOffer q v) (term.TryOffer q v)
  take : {q : ℕ} → IsRemasked (term.Take q) (term.Take q)
  try_take : {q x : ℕ} {a a' b b' : Term} → IsRemasked a a' → IsRemasked b b' → IsRemasked (term.TryTake q x a b) (term.TryTake q x a' b')
  finished : {v : Done} → IsRemasked (term.Finished v) (term.Finished v)
  masked : {r r' : ℕ} {a a' : Term} → IsRemasked a a' → IsRemasked (term.Masked r a) (term.Masked r' a')
  opened : {r r' : ℕ} {a a' : Term} → IsRemasked a a' → IsRemasked (term.Opened r a) (term.Opened r' a')
  using_ : {k : ℕ} {a a' r r' : Term} → IsRemasked a a' → IsRemasked r r' → IsRemasked (term.InUse k a r) (term.InUse k a' r')
  using_case : {k y z : ℕ} {a a' s s' e e' d d' : Term} → IsRemasked a a' → IsRemasked s s' → IsRemasked e e' → IsRemasked d d'
      → IsRemasked (term.InUseCase k a y s z e d) (term.InUseCase k a' y s' z e' d')
  releasing : {k : ℕ} {a a' : Term} {v : Done} → IsRemasked a a' → IsRemasked (term.InRelease k a v) (term.InRelease k a' v)
  loop : {i k n : ℕ} {a a' : Term} → IsRemasked a a' → IsRemasked (term.Loop i k n a) (term.Loop i k n a')
  await : {f : ℕ} → IsRemasked (term.Await f) (term.Await f)

same_regions : (p : Arg) → AreRegions p p
same_regions (Number r) = number
same_regions (Slot x) = slot

-- a term whose names are in scope goes with itself
pub scoped_remasked : (s : ℕ → Option NameKind) (t : Term) → IsScoped s t → IsRemasked t t
scoped_remasked s (term.Pure a) h = pure
scoped_remasked s (term.Raise a) h = raise
scoped_remasked s term.Canceled h = canceled
scoped_remasked s term.Never h = never
scoped_remasked s term.Cede h = cede
scoped_remasked s (term.Let x a b) h = let_ (scoped_remasked s a h.0) (scoped_remasked (with_named x kind.Value s) b h.2)
scoped_remasked s (term.Handle a x b) h = handle (scoped_remasked s a h.0) (scoped_remasked (with_named x kind.Value s) b h.2)
scoped_remasked s (term.If v a b) h = if_ (scoped_remasked s a h.1) (scoped_remasked s b h.2)
scoped_remasked s (term.For i n a) h = for_ (scoped_remasked (with_name i kind.Value s) a h.1)
scoped_remasked s (term.Mask p a) h = mask (scoped_name_used s kind.Poll p a h.1) (scoped_remasked (with_name p kind.Poll s) a h.1)
scoped_remasked s (term.Poll p a) h = poll (same_regions p) (scoped_remasked s a h.1)
scoped_remasked s (term.OnCancel a f) h = oncancel (scoped_remasked s a h.0) (scoped_remasked s f h.1)
scoped_remasked s (term.Bracket x a u r) h =
    bracket (scoped_remasked s a h.0) (scoped_remasked (with_named x kind.Value s) u h.2) (scoped_remasked (with_named x kind.Value s) r h.3)
scoped_remasked s (term.BracketCase x a u y b z c d) h =
    let there = with_name x kind.Value s in
    bracket_case (scoped_remasked s a h.0) (scoped_remasked there u h.2) (scoped_remasked (with_name y kind.Value there) b h.4)
    (scoped_remasked (with_name z kind.Value there) c h.6) (scoped_remasked there d h.7)
scoped_remasked s (term.Start i a b) h = start (scoped_remasked (with_name i kind.Fiber s) b h.2)
scoped_remasked s (term.Join f x a e b d) h =
    join (scoped_remasked (with_name x kind.Value s) a h.2) (scoped_remasked (with_name e kind.Value s) b h.4) (scoped_remasked s d h.5)
scoped_remasked s (term.Cancel f) h = cancel
scoped_remasked s (term.First f g) h = first
scoped_remasked s (term.Offer q v) h = offer
scoped_remasked s (term.TryOffer q v) h = try_offer
scoped_remasked s (term.Take q) h = take
scoped_remasked s (term.TryTake q x a b) h = try_take (scoped_remasked (with_name x kind.Value s) a h.1) (scoped_remasked s b h.2)
scoped_remasked s (term.Finished v) h = finished
scoped_remasked s (term.Masked r a) h = masked (scoped_remasked s a h)
scoped_remasked s (term.Opened r a) h = opened (scoped_remasked s a h)
scoped_remasked s (term.InUse k a r) h = using_ (scoped_remasked s a h.0) (scoped_remasked s r h.1)
scoped_remasked s (term.InUseCase k u y b z c d) h =
    using_case (scoped_remasked s u h.0) (scoped_remasked (with_name y kind.Value s) b h.2) (scoped_remasked (with_name z kind.Value s) c h.4)
    (scoped_remasked s d h.5)
scoped_remasked s (term.InRelease k a v) h = releasing (scoped_remasked s a h)
scoped_remasked s (term.Loop i k n a) h = loop (scoped_remasked (with_name i kind.Value s) a h.1)
scoped_remasked s (term.Await f) h = await

module _ (x : ℕ) where
  put_regions : (n n' : ℕ) {p p' : Arg} → AreRegions p p' → AreRegions (put_arg x n p) (put_arg x n' p')
  put_regions n n' number = number
  put_regions n n' (slot {x = y}) = by_test (y == x)
    where
      by_test : (b : Bool) → AreRegions (if b then Number n else Slot y) (if b then Number n' else Slot y)
      by_test true = number
      by_test false = slot

  -- the same number for a name
  pub put_same : (n : ℕ) {t t' : Term} → IsRemasked t t' → IsRemasked (put x n t) (put x n t')
  put_same n pure = pure
  put_same n raise = raise
  put_same n canceled = canceled
  put_same n never = never
  put_same n cede = cede
  put_same n (let_ p q) = let_ (put_same n p) (put_same n q)
  put_same n (handle p q) = handle (put_same n p) (put_same n q)
  put_same n (if_ p q) = if_ (put_same n p) (put_same n q)
  put_same n (for_ p) = for_ (put_same n p)
  put_same n (mask {p = y} {a = a} u p) = mask (put_used y kind.Poll x n a u) (put_same n p)
  put_same n (poll r p) = poll (put_regions n n r) (put_same n p)
  put_same n (oncancel p q) = oncancel (put_same n p) (put_same n q)
  put_same n (bracket p q r) = bracket (put_same n p) (put_same n q) (put_same n r)
  put_same n (bracket_case p q r s w) = bracket_case (put_same n p) (put_same n q) (put_same n r) (put_same n s) (put_same n w)
  put_same n (start p) = start (put_same n p)
  put_same n (join p q r) = join (put_same n p) (put_same n q) (put_same n r)
  put_same n cancel = cancel
  put_same n first = first
  put_same n offer = offer
  put_same n try_offer = try_offer
  put_same n take = take
  put_same n (try_take p q) = try_take (put_same n p) (put_same n q)
  put_same n finished = finished
  put_same n (masked p) = masked (put_same n p)
  put_same n (opened p) = opened (put_same n p)
  put_same n (using_ p q) = using_ (put_same n p) (put_same n q)
  put_same n (using_case p q r s) = using_case (put_same n p) (put_same n q) (put_same n r) (put_same n s)
  put_same n (releasing p) = releasing (put_same n p)
  put_same n (loop p) = loop (put_same n p)
  put_same n await = await

  module _ (n n' : ℕ) where
    arg_kept : (place : NameKind) (a : Arg) → IsArgUsedAs kind.OtherPoll x place a → put_arg x n a ≡ put_arg x n' a
    arg_kept place (Number m) h = refl
    arg_kept place (Slot y) h = by_test (y == x) refl
      where
        by_test : (b : Bool) → (y == x) ≡ b → (if b then Number n else Slot y) ≡ (if b then Number n' else Slot y)
        by_test true e = absurd (h (eqb-true y x e))
        by_test false e = refl

    value_kept : (a : Arg) → IsArgUsedAs kind.Poll x kind.Value a → put_arg x n a ≡ put_arg x n' a
    value_kept a h = arg_kept kind.Value a h

    fiber_kept : (a : Arg) → IsArgUsedAs kind.Poll x kind.Fiber a → put_arg x n a ≡ put_arg x n' a
    fiber_kept a h = arg_kept kind.Fiber a h

    -- the numbers of two regions for the name of a poll
    pub put_polls : {t t' : Term} → IsRemasked t t' → IsUsedAs kind.Poll x t → IsRemasked (put x n t) (put x n' t')
    put_polls (pure {a = a}) h = rw (value_kept a h) pure
    put_polls (raise {a = a}) h = rw (value_kept a h) raise
    put_polls canceled h = canceled
    put_polls never h = never
    put_polls cede h = cede
    put_polls (let_ p q) h = let_ (put_polls p h.0) (put_polls q h.1)
    put_polls (handle p q) h = handle (put_polls p h.0) (put_polls q h.1)
    put_polls (if_ {v = v} p q) h = rw (value_kept v h.0) (if_ (put_polls p h.1) (put_polls q h.2))
    put_polls (for_ p) h = for_ (put_polls p h)
    put_polls (mask {p = y} {a = a} u p) h = mask (put_used y kind.Poll x n a u) (put_polls p h)
    put_polls (poll r p) h = poll (put_regions n n' r) (put_polls p h.1)
    put_polls (oncancel p q) h = oncancel (put_polls p h.0) (put_polls q h.1)
    put_polls (bracket p q r) h = bracket (put_polls p h.0) (put_polls q h.1) (put_polls r h.2)
    put_polls (bracket_case p q r s w) h =
        bracket_case (put_polls p h.0) (put_polls q h.1) (put_polls r h.2) (put_polls s h.3) (put_polls w h.4)
    put_polls (start {h = i} {a = a} {b = b} {b' = b'} p) h =
        subst (λ (c : Term). IsRemasked (term.Start i (put x n a) (put x n b)) (term.Start i c (put x n' b')))
        (put_unused x n a h.0 ∙ sym (put_unused x n' a h.0)) (start (put_polls p h.1))
    put_polls (join {f = f} p q r) h = rw (fiber_kept f h.0) (join (put_polls p h.1) (put_polls q h.2) (put_polls r h.3))
    put_polls (cancel {f = f}) h = rw (fiber_kept f h) cancel
    put_polls (first {f = f} {g = g}) h = rw (fiber_kept f h.0, fiber_kept g h.1) first
    put_polls (offer {v = v}) h = rw (value_kept v h) offer
    put_polls (try_offer {v = v}) h = rw (value_kept v h) try_offer
    put_polls take h = take
    put_polls (try_take p q) h = try_take (put_polls p h.0) (put_polls q h.1)
    put_polls finished h = finished
    put_polls (masked p) h = masked (put_polls p h)
    put_polls (opened p) h = opened (put_polls p h)
    put_polls (using_ p q) h = using_ (put_polls p h.0) (put_polls q h.1)
    put_polls (using_case p q r s) h = using_case (put_polls p h.0) (put_polls q h.1) (put_polls r h.2) (put_polls s h.3)
    put_polls (releasing p) h = releasing (put_polls p h)
    put_polls (loop p) h = loop (put_polls p h)
    put_polls await h = await

pub put_named_same : (x : Option ℕ) (n : ℕ) {t t' : Term} → IsRemasked t t' → IsRemasked (put_named x n t) (put_named x n t')
put_named_same None n p = p
put_named_same (Some x) n p = put_same x n p
