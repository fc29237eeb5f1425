-- What stands in lists that were joined.
use Rattle.std.proofs.Common.{◌≡◌, ℕ, List, [], ◌∷◌, ◌++◌, ◌⊎◌, inl, inr, ⊎_elim, length, zero, suc, refl, sym, ap}
use mathlib.Core.Option.{some, some-injective, some-ne-none}
use lib.ListN.{get_elem?}
use Rattle.fx_term.specs.Lists.{Among}

module _ {A : Type 0} where
  pub Among-append_left : (xs ys : List A) (x : A) → Among x xs → Among x (xs ++ ys)
  Among-append_left [] ys x h = absurd h
  Among-append_left (y ∷ xs) ys x h = ⊎_elim inl (λ t. inr (Among-append_left xs ys x t)) h

  pub Among-append_right : (xs ys : List A) (x : A) → Among x ys → Among x (xs ++ ys)
  Among-append_right [] ys x h = h
  Among-append_right (y ∷ xs) ys x h = inr (Among-append_right xs ys x h)

  pub Among-append : (xs ys : List A) (x : A) → Among x (xs ++ ys) → Among x xs ⊎ Among x ys
  Among-append [] ys x h = inr h
  Among-append (y ∷ xs) ys x h = ⊎_elim (λ e. inl (inl e)) (λ t. ⊎_elim (λ l. inl (inr l)) inr (Among-append xs ys x t)) h

  -- what stands at j where one more is at the end
  pub at_end : (l : List A) (a b : A) (j : ℕ) → get_elem? (l ++ a ∷ []) j ≡ some b → ((j ≡ length l) × (a ≡ b)) ⊎ (get_elem? l j ≡ some b)
  at_end [] a b zero e = inl (refl, some-injective a b e)
  at_end [] a b (suc j) e = absurd (some-ne-none b (sym e))
  at_end (x ∷ xs) a b zero e = inr e
  at_end (x ∷ xs) a b (suc j) e = ⊎_elim (λ t. inl (ap suc t.0, t.1)) inr (at_end xs a b j e)
