-- Terms of which one is the other with fibers in it that begin otherwise: numbers for names, and fiber numbers.
use Rattle.std.proofs.Common.{◌≡◌, ℕ, Bool, Option, Some, None, refl}
use Rattle.fx_term.specs.Term.{Term, put, put_named}
use Rattle.fx_term.specs.Need.{need}
use Rattle.fx_script_laws.specs.Filled.{none_bound, and_bound, and_named}
use Rattle.fx_script_laws.proofs.Holes.{IsPutUnder, deeper, deeper_named, first}
use Rattle.fx_look_laws.specs.OtherFibers.{StartsOthers}
use Rattle.fx_look_laws.specs.OtherFibers as others

-- pairs are pairs with such a number too
abbrev pub ArePutToo : ((ℕ → Bool) → Term → Term → Type 0) → Type 0
ArePutToo Pair = (v v' : ℕ → Bool) (x : ℕ) → IsPutUnder v v' x → (n : ℕ) (t u : Term) → Pair v t u → Pair v' (put x n t) (put x n u)

module _ {Pair : (ℕ → Bool) → Term → Term → Type 0} where
  -- the two use as many fiber numbers, where those of a pair do
  pub others_need : ((v : ℕ → Bool) (t u : Term) → Pair v t u → need t ≡ need u) → {v : ℕ → Bool} {t u : Term} → StartsOthers Pair v t u → need t ≡ need u
  others_need n others.same = refl
  others_need n (others.starts {bound = v} {a = a} {a' = a'} p q) = let a = n v a a' p in let b = others_need n q in cc
  others_need n (others.start p q) = let a = others_need n p in let b = others_need n q in cc
  others_need n (others.let_ p q) = let a = others_need n p in let b = others_need n q in cc
  others_need n (others.handle p q) = let a = others_need n p in let b = others_need n q in cc
  others_need n (others.if_ p q) = let a = others_need n p in let b = others_need n q in cc
  others_need n (others.for_ p) = let a = others_need n p in cc
  others_need n (others.mask p) = others_need n p
  others_need n (others.poll p) = others_need n p
  others_need n (others.oncancel p q) = let a = others_need n p in let b = others_need n q in cc
  others_need n (others.bracket p q r) = let a = others_need n p in let b = others_need n q in let c = others_need n r in cc
  others_need n (others.bracket_case p q r s w) =
      let a = others_need n p in let b = others_need n q in let c = others_need n r in let d = others_need n s in let e = others_need n w in cc
  others_need n (others.join p q r) = let a = others_need n p in let b = others_need n q in let c = others_need n r in cc
  others_need n (others.try_take p q) = let a = others_need n p in let b = others_need n q in cc
  others_need n (others.masked p) = others_need n p
  others_need n (others.opened p) = others_need n p
  others_need n (others.in_use p q) = let a = others_need n p in let b = others_need n q in cc
  others_need n (others.in_use_case p q r s) =
      let a = others_need n p in let b = others_need n q in let c = others_need n r in let d = others_need n s in cc
  others_need n (others.in_release p) = others_need n p
  others_need n (others.loop p) = let a = others_need n p in cc

  -- where pairs are pairs with a number for a name too
  module _ (puts : ArePutToo Pair) where
    pub put_others : {v v' : ℕ → Bool} {x : ℕ} → IsPutUnder v v' x → (n : ℕ) {t u : Term} → StartsOthers Pair v t u
        → StartsOthers Pair v' (put x n t) (put x n u)
    put_others h n others.same = others.same
    put_others {v = v} {v' = v'} {x = x} h n (others.starts {h = h0} {a = a} {a' = a'} p q) =
        others.starts (puts v v' x h n a a' p) (put_others (deeper h0 h) n q)
    put_others h n (others.start {h = h0} p q) = others.start (put_others h n p) (put_others (deeper h0 h) n q)
    put_others h n (others.let_ {x = y} p q) = others.let_ (put_others h n p) (put_others (deeper_named y h) n q)
    put_others h n (others.handle {x = y} p q) = others.handle (put_others h n p) (put_others (deeper_named y h) n q)
    put_others h n (others.if_ p q) = others.if_ (put_others h n p) (put_others h n q)
    put_others h n (others.for_ {i = i0} p) = others.for_ (put_others (deeper i0 h) n p)
    put_others h n (others.mask {p = p0} p) = others.mask (put_others (deeper p0 h) n p)
    put_others h n (others.poll p) = others.poll (put_others h n p)
    put_others h n (others.oncancel p q) = others.oncancel (put_others h n p) (put_others h n q)
    put_others h n (others.bracket {x = y} p q r) =
        others.bracket (put_others h n p) (put_others (deeper_named y h) n q) (put_others (deeper_named y h) n r)
    put_others h n (others.bracket_case {x = x0} {y = y0} {z = z0} p q r s w) =
        others.bracket_case (put_others h n p) (put_others (deeper x0 h) n q) (put_others (deeper y0 (deeper x0 h)) n r)
        (put_others (deeper z0 (deeper x0 h)) n s) (put_others (deeper x0 h) n w)
    put_others h n (others.join {x = x0} {e = e0} p q r) =
        others.join (put_others (deeper x0 h) n p) (put_others (deeper e0 h) n q) (put_others h n r)
    put_others h n (others.try_take {x = x0} p q) = others.try_take (put_others (deeper x0 h) n p) (put_others h n q)
    put_others h n (others.masked p) = others.masked (put_others h n p)
    put_others h n (others.opened p) = others.opened (put_others h n p)
    put_others h n (others.in_use p q) = others.in_use (put_others h n p) (put_others h n q)
    put_others h n (others.in_use_case {y = y0} {z = z0} p q r s) =
        others.in_use_case (put_others h n p) (put_others (deeper y0 h) n q) (put_others (deeper z0 h) n r) (put_others h n s)
    put_others h n (others.in_release p) = others.in_release (put_others h n p)
    put_others h n (others.loop {i = i0} p) = others.loop (put_others (deeper i0 h) n p)

    -- a number for the one name that is bound
    pub put_one : (x n : ℕ) {t u : Term} → StartsOthers Pair (and_bound x none_bound) t u → StartsOthers Pair none_bound (put x n t) (put x n u)
    put_one x n p = put_others (first x) n p

    pub put_one_named : (x : Option ℕ) (n : ℕ) {t u : Term} → StartsOthers Pair (and_named x none_bound) t u
        → StartsOthers Pair none_bound (put_named x n t) (put_named x n u)
    put_one_named None n p = p
    put_one_named (Some x) n p = put_one x n p
