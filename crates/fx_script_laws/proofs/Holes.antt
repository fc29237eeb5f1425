-- At how many places two terms differ, those of a loop as often as it has turns left; and a number that is put for a name.
use Rattle.std.proofs.Common.{◌≡◌, ℕ, ◌+◌, ◌-◌, ◌*◌, ◌==◌, Bool, true, false, if◌then◌else◌, Option, Some, None, refl, ap, arith}
use Rattle.std.proofs.lemmas.Bool.{eq-eqb}
use Rattle.fx_term.specs.declared.done.Done.{Done}
use Rattle.fx_term.specs.declared.node.Arg.{Arg}
use Rattle.fx_term.specs.Term.{Term, put, put_named}
use Rattle.fx_term.specs.Term as term
use Rattle.fx_term.specs.Need.{need}
use Rattle.fx_script_laws.specs.Cover.{Cover, Sealed, uncovered, in_mask, in_poll}
use Rattle.fx_script_laws.specs.Filled.{none_bound, and_bound, and_named, IsFilled}
use Rattle.fx_script_laws.specs.Filled as filled

-- the same but for such pairs, none of which is round the leaf, nor is a name bound there
pub data AreAlong (Pair : Cover → (ℕ → Bool) → Term → Term → Type 0) : Cover → Term → Term → Type 0 where
  same : {v : Cover} {t : Term} → AreAlong Pair v t t
  let_ : {v : Cover} {x : Option ℕ} {a a' b b' : Term} → AreAlong Pair v a a' → IsFilled Pair v (and_named x none_bound) b b'
      → AreAlong Pair v (term.Let x a b) (term.Let x a' b')
  handle : {v : Cover} {x : Option ℕ} {a a' b b' : Term} → AreAlong Pair v a a' → IsFilled Pair v (and_named x none_bound) b b'
      → AreAlong Pair v (term.Handle a x b) (term.Handle a' x b')
  if_ : {v : Cover} {w : Arg} {a a' b b' : Term} → IsFilled Pair v none_bound a a' → IsFilled Pair v none_bound b b'
      → AreAlong Pair v (term.If w a b) (term.If w a' b')
  for_ : {v : Cover} {i n : ℕ} {a a' : Term} → IsFilled Pair v (and_bound i none_bound) a a' → AreAlong Pair v (term.For i n a) (term.For i n a')
  mask : {v : Cover} {p : ℕ} {a a' : Term} → IsFilled Pair (in_mask v) (and_bound p none_bound) a a' → AreAlong Pair v (term.Mask p a) (term.Mask p a')
  poll : {v : Cover} {p : Arg} {a a' : Term} → IsFilled Pair (in_poll v) none_bound a a' → AreAlong Pair v (term.Poll p a) (term.Poll p a')
  oncancel : {v : Cover} {a a' f f' : Term} → AreAlong Pair v a a' → IsFilled Pair Sealed none_bound f f'
      → AreAlong Pair v (term.OnCancel a f) (term.OnCancel a' f')
  bracket : {v : Cover} {x : Option ℕ} {a a' u u' r r' : Term} → AreAlong Pair Sealed a a' → IsFilled Pair v (and_named x none_bound) u u'
      → IsFilled Pair Sealed (and_named x none_bound) r r' → AreAlong Pair v (term.Bracket x a u r) (term.Bracket x a' u' r')
  bracket_case : {v : Cover} {x y z : ℕ} {a a' u u' s s' e e' d d' : Term} → AreAlong Pair Sealed a a' → IsFilled Pair v (and_bound x none_bound) u u'
      → IsFilled Pair Sealed (and_bound y (and_bound x none_bound)) s s' → IsFilled Pair Sealed (and_bound z (and_bound x none_bound)) e e'
      → IsFilled Pair Sealed (and_bound x none_bound) d d' → AreAlong Pair v (term.BracketCase x a u y s z e d) (term.BracketCase x a' u' y s' z e' d')
  start : {v : Cover} {h : ℕ} {a a' b b' : Term} → IsFilled Pair uncovered none_bound a a' → IsFilled Pair v (and_bound h none_bound) b b'
      → AreAlong Pair v (term.Start h a b) (term.Start h a' b')
  join : {v : Cover} {f : Arg} {x e : ℕ} {a a' b b' d d' : Term} → IsFilled Pair v (and_bound x none_bound) a a' → IsFilled Pair v (and_bound e none_bound) b b'
      → IsFilled Pair v none_bound d d' → AreAlong Pair v (term.Join f x a e b d) (term.Join f x a' e b' d')
  try_take : {v : Cover} {q x : ℕ} {a a' b b' : Term} → IsFilled Pair v (and_bound x none_bound) a a' → IsFilled Pair v none_bound b b'
      → AreAlong Pair v (term.TryTake q x a b) (term.TryTake q x a' b')
  masked : {v : Cover} {r : ℕ} {a a' : Term} → AreAlong Pair (in_mask v) a a' → AreAlong Pair v (term.Masked r a) (term.Masked r a')
  opened : {v : Cover} {r : ℕ} {a a' : Term} → AreAlong Pair (in_poll v) a a' → AreAlong Pair v (term.Opened r a) (term.Opened r a')
  in_use : {v : Cover} {k : ℕ} {a a' r r' : Term} → AreAlong Pair v a a' → IsFilled Pair Sealed none_bound r r'
      → AreAlong Pair v (term.InUse k a r) (term.InUse k a' r')
  in_use_case : {v : Cover} {k y z : ℕ} {a a' s s' e e' d d' : Term} → AreAlong Pair v a a' → IsFilled Pair Sealed (and_bound y none_bound) s s'
      → IsFilled Pair Sealed (and_bound z none_bound) e e' → IsFilled Pair Sealed none_bound d d'
      → AreAlong Pair v (term.InUseCase k a y s z e d) (term.InUseCase k a' y s' z e' d')
  in_release : {v : Cover} {k : ℕ} {a a' : Term} {w : Done} → AreAlong Pair Sealed a a' → AreAlong Pair v (term.InRelease k a w) (term.InRelease k a' w)
  loop : {v : Cover} {i k n : ℕ} {a a' : Term} → IsFilled Pair v (and_bound i none_bound) a a' → AreAlong Pair v (term.Loop i k n a) (term.Loop i k n a')

-- a number is put for x, which is one of the names that are bound, and no more are bound then
pub record IsPutUnder (v v' : ℕ → Bool) (x : ℕ) : Type 0 where
  pub has : v x ≡ true
  pub less : (z : ℕ) → v' z ≡ true → v z ≡ true

more_bound : (v v' : ℕ → Bool) (y z : ℕ) → (v' z ≡ true → v z ≡ true) → and_bound y v' z ≡ true → and_bound y v z ≡ true
more_bound v v' y z less = by_test (z == y) refl
  where
    by_test : (b : Bool) → (z == y) ≡ b → (if b then true else v' z) ≡ true → (if b then true else v z) ≡ true
    by_test true e h = refl
    by_test false e h = less h

still_bound : (v : ℕ → Bool) (y x : ℕ) → v x ≡ true → and_bound y v x ≡ true
still_bound v y x has = by_test (x == y)
  where
    by_test : (b : Bool) → (if b then true else v x) ≡ true
    by_test true = refl
    by_test false = has

pub deeper : {v v' : ℕ → Bool} {x : ℕ} (y : ℕ) → IsPutUnder v v' x → IsPutUnder (and_bound y v) (and_bound y v') x
deeper {v} {v'} {x} y h = record { has = still_bound v y x h.has; less = λ z k. more_bound v v' y z (h.less z) k }

pub deeper_named : {v v' : ℕ → Bool} {x : ℕ} (y : Option ℕ) → IsPutUnder v v' x → IsPutUnder (and_named y v) (and_named y v') x
deeper_named None h = h
deeper_named (Some y) h = deeper y h

pub first : (x : ℕ) → IsPutUnder (and_bound x none_bound) none_bound x
first x = record { has = rw (eq-eqb x x refl) refl; less = λ z k. absurd cc }

-- pairs are pairs with such a number too
abbrev pub ArePut : (Cover → (ℕ → Bool) → Term → Term → Type 0) → Type 0
ArePut Pair =
    (s : Cover) (v v' : ℕ → Bool) (x : ℕ) → IsPutUnder v v' x → (n : ℕ) (t u : Term) → Pair s v t u → Pair s v' (put x n t) (put x n u)

module _ {Pair : Cover → (ℕ → Bool) → Term → Term → Type 0} where
  abbrev pub holes : {s : Cover} {v : ℕ → Bool} {t u : Term} → IsFilled Pair s v t u → ℕ
  holes (filled.pair s) = 1
  holes filled.same = 0
  holes (filled.let_ p q) = holes p + holes q
  holes (filled.handle p q) = holes p + holes q
  holes (filled.if_ p q) = holes p + holes q
  holes (filled.for_ {n = n} p) = n * holes p
  holes (filled.mask p) = holes p
  holes (filled.poll p) = holes p
  holes (filled.oncancel p q) = holes p + holes q
  holes (filled.bracket p q r) = holes p + holes q + holes r
  holes (filled.bracket_case p q r s w) = holes p + holes q + holes r + holes s + holes w
  holes (filled.start p q) = holes p + holes q
  holes (filled.join p q r) = holes p + holes q + holes r
  holes (filled.try_take p q) = holes p + holes q
  holes (filled.masked p) = holes p
  holes (filled.opened p) = holes p
  holes (filled.in_use p q) = holes p + holes q
  holes (filled.in_use_case p q r s) = holes p + holes q + holes r + holes s
  holes (filled.in_release p) = holes p
  holes (filled.loop {k = k} {n = n} p) = (n - k) * holes p

  abbrev pub holes_along : {s : Cover} {t u : Term} → AreAlong Pair s t u → ℕ
  holes_along same = 0
  holes_along (let_ p q) = holes_along p + holes q
  holes_along (handle p q) = holes_along p + holes q
  holes_along (if_ p q) = holes p + holes q
  holes_along (for_ {n = n} p) = n * holes p
  holes_along (mask p) = holes p
  holes_along (poll p) = holes p
  holes_along (oncancel p q) = holes_along p + holes q
  holes_along (bracket p q r) = holes_along p + holes q + holes r
  holes_along (bracket_case p q r s w) = holes_along p + holes q + holes r + holes s + holes w
  holes_along (start p q) = holes p + holes q
  holes_along (join p q r) = holes p + holes q + holes r
  holes_along (try_take p q) = holes p + holes q
  holes_along (masked p) = holes_along p
  holes_along (opened p) = holes_along p
  holes_along (in_use p q) = holes_along p + holes q
  holes_along (in_use_case p q r s) = holes_along p + holes q + holes r + holes s
  holes_along (in_release p) = holes_along p
  holes_along (loop {k = k} {n = n} p) = (n - k) * holes p

  -- the two use as many fiber numbers, where those of a pair do
  pub filled_need : ((s : Cover) (v : ℕ → Bool) (t u : Term) → Pair s v t u → need t ≡ need u) → {s : Cover} {v : ℕ → Bool} {t u : Term} → IsFilled Pair s v t u
      → need t ≡ need u
  filled_need n (filled.pair {s = c} {bound = v} {t = t} {u = u} s) = n c v t u s
  filled_need n filled.same = refl
  filled_need n (filled.let_ p q) = let a = filled_need n p in let b = filled_need n q in cc
  filled_need n (filled.handle p q) = let a = filled_need n p in let b = filled_need n q in cc
  filled_need n (filled.if_ p q) = let a = filled_need n p in let b = filled_need n q in cc
  filled_need n (filled.for_ p) = let a = filled_need n p in cc
  filled_need n (filled.mask p) = filled_need n p
  filled_need n (filled.poll p) = filled_need n p
  filled_need n (filled.oncancel p q) = let a = filled_need n p in let b = filled_need n q in cc
  filled_need n (filled.bracket p q r) = let a = filled_need n p in let b = filled_need n q in let c = filled_need n r in cc
  filled_need n (filled.bracket_case p q r s w) =
      let a = filled_need n p in let b = filled_need n q in let c = filled_need n r in let d = filled_need n s in let e = filled_need n w in cc
  filled_need n (filled.start p q) = let a = filled_need n p in let b = filled_need n q in cc
  filled_need n (filled.join p q r) = let a = filled_need n p in let b = filled_need n q in let c = filled_need n r in cc
  filled_need n (filled.try_take p q) = let a = filled_need n p in let b = filled_need n q in cc
  filled_need n (filled.masked p) = filled_need n p
  filled_need n (filled.opened p) = filled_need n p
  filled_need n (filled.in_use p q) = let a = filled_need n p in let b = filled_need n q in cc
  filled_need n (filled.in_use_case p q r s) =
      let a = filled_need n p in let b = filled_need n q in let c = filled_need n r in let d = filled_need n s in cc
  filled_need n (filled.in_release p) = filled_need n p
  filled_need n (filled.loop p) = let a = filled_need n p in cc

  -- where pairs are pairs with a number for a name too
  module _ (puts : ArePut Pair) where
    abbrev pub put_filled : {v v' : ℕ → Bool} {x : ℕ} → IsPutUnder v v' x → (n : ℕ) {s : Cover} {t u : Term} → IsFilled Pair s v t u
        → IsFilled Pair s v' (put x n t) (put x n u)
    put_filled h n (filled.pair {s = c} {bound = v} {t = t} {u = u} s) = filled.pair (puts c v _ _ h n t u s)
    put_filled h n filled.same = filled.same
    put_filled h n (filled.let_ {x = y} p q) = filled.let_ (put_filled h n p) (put_filled (deeper_named y h) n q)
    put_filled h n (filled.handle {x = y} p q) = filled.handle (put_filled h n p) (put_filled (deeper_named y h) n q)
    put_filled h n (filled.if_ p q) = filled.if_ (put_filled h n p) (put_filled h n q)
    put_filled h n (filled.for_ {i = i0} p) = filled.for_ (put_filled (deeper i0 h) n p)
    put_filled h n (filled.mask {p = p0} p) = filled.mask (put_filled (deeper p0 h) n p)
    put_filled h n (filled.poll p) = filled.poll (put_filled h n p)
    put_filled h n (filled.oncancel p q) = filled.oncancel (put_filled h n p) (put_filled h n q)
    put_filled h n (filled.bracket {x = y} p q r) = filled.bracket (put_filled h n p) (put_filled (deeper_named y h) n q) (put_filled (deeper_named y h) n r)
    put_filled h n (filled.bracket_case {x =
        x0} {y = y0} {z = z0} p q r s w) = filled.bracket_case (put_filled h n p) (put_filled (deeper x0 h) n q)
        (put_filled (deeper y0 (deeper x0 h)) n r) (put_filled (deeper z0 (deeper x0 h)) n s) (put_filled (deeper x0 h) n w)
    put_filled h n (filled.start {h = h0} p q) = filled.start (put_filled h n p) (put_filled (deeper h0 h) n q)
    put_filled h n (filled.join {x = x0} {e = e0} p q r) = filled.join (put_filled (deeper x0 h) n p) (put_filled (deeper e0 h) n q) (put_filled h n r)
    put_filled h n (filled.try_take {x = x0} p q) = filled.try_take (put_filled (deeper x0 h) n p) (put_filled h n q)
    put_filled h n (filled.masked p) = filled.masked (put_filled h n p)
    put_filled h n (filled.opened p) = filled.opened (put_filled h n p)
    put_filled h n (filled.in_use p q) = filled.in_use (put_filled h n p) (put_filled h n q)
    put_filled h n (filled.in_use_case {y =
        y0} {z = z0} p q r s) = filled.in_use_case (put_filled h n p) (put_filled (deeper y0 h) n q) (put_filled (deeper z0 h) n r) (put_filled h n s)
    put_filled h n (filled.in_release p) = filled.in_release (put_filled h n p)
    put_filled h n (filled.loop {i = i0} p) = filled.loop (put_filled (deeper i0 h) n p)

    pub put_holes : {v v' : ℕ → Bool} {x : ℕ} (h : IsPutUnder v v' x) (n : ℕ) {s : Cover} {t u : Term} (p : IsFilled Pair s v t u)
        → holes (put_filled h n p) ≡ holes p
    put_holes h n (filled.pair s) = refl
    put_holes h n filled.same = refl
    put_holes h n (filled.let_ {x = y} p q) = let a = put_holes h n p in let b = put_holes (deeper_named y h) n q in omega arith
    put_holes h n (filled.handle {x = y} p q) = let a = put_holes h n p in let b = put_holes (deeper_named y h) n q in omega arith
    put_holes h n (filled.if_ p q) = let a = put_holes h n p in let b = put_holes h n q in omega arith
    put_holes h n (filled.for_ {i = i0} {n = c} p) = ap (λ (m : ℕ). c * m) (put_holes (deeper i0 h) n p)
    put_holes h n (filled.mask {p = p0} p) = put_holes (deeper p0 h) n p
    put_holes h n (filled.poll p) = put_holes h n p
    put_holes h n (filled.oncancel p q) = let a = put_holes h n p in let b = put_holes h n q in omega arith
    put_holes h n (filled.bracket {x = y} p q r) =
        let a = put_holes h n p in
        let b = put_holes (deeper_named y h) n q in
        let c = put_holes (deeper_named y h) n r in
        omega arith
    put_holes h n (filled.bracket_case {x = x0} {y = y0} {z = z0} p q r s w) =
        let a = put_holes h n p in
        let b = put_holes (deeper x0 h) n q in
        let c = put_holes (deeper y0 (deeper x0 h)) n r in
        let d = put_holes (deeper z0 (deeper x0 h)) n s in
        let e = put_holes (deeper x0 h) n w in
        omega arith
    put_holes h n (filled.start {h = h0} p q) = let a = put_holes h n p in let b = put_holes (deeper h0 h) n q in omega arith
    put_holes h n (filled.join {x = x0} {e = e0} p q r) =
        let a = put_holes (deeper x0 h) n p in
        let b = put_holes (deeper e0 h) n q in
        let c = put_holes h n r in
        omega arith
    put_holes h n (filled.try_take {x = x0} p q) = let a = put_holes (deeper x0 h) n p in let b = put_holes h n q in omega arith
    put_holes h n (filled.masked p) = put_holes h n p
    put_holes h n (filled.opened p) = put_holes h n p
    put_holes h n (filled.in_use p q) = let a = put_holes h n p in let b = put_holes h n q in omega arith
    put_holes h n (filled.in_use_case {y = y0} {z = z0} p q r s) =
        let a = put_holes h n p in
        let b = put_holes (deeper y0 h) n q in
        let c = put_holes (deeper z0 h) n r in
        let d = put_holes h n s in
        omega arith
    put_holes h n (filled.in_release p) = put_holes h n p
    put_holes h n (filled.loop {i = i0} {k = k} {n = c} p) = ap (λ (m : ℕ). (c - k) * m) (put_holes (deeper i0 h) n p)

    -- a number for the one name that is bound
    abbrev pub put_first : (x n : ℕ) {s : Cover} {t u : Term} → IsFilled Pair s (and_bound x none_bound) t u
        → IsFilled Pair s none_bound (put x n t) (put x n u)
    put_first x n p = put_filled (first x) n p

    abbrev pub put_named_filled : (x : Option ℕ) (n : ℕ) {s : Cover} {t u : Term} → IsFilled Pair s (and_named x none_bound) t u
        → IsFilled Pair s none_bound (put_named x n t) (put_named x n u)
    put_named_filled None n p = p
    put_named_filled (Some x) n p = put_first x n p

    pub put_named_holes : (x : Option ℕ) (n : ℕ) {s : Cover} {t u : Term} (p : IsFilled Pair s (and_named x none_bound) t u)
        → holes (put_named_filled x n p) ≡ holes p
    put_named_holes None n p = refl
    put_named_holes (Some x) n p = put_holes (first x) n p
