-- The last of a list, which is the first of it from back to front.
use Rattle.std.proofs.Common.{◌≡◌, ◌∙◌, ℕ, ◌-◌, List, [], ◌∷◌, ◌++◌, length, reverse, get_or, set, sym, ap, arith, length-append}
use Rattle.std.proofs.lemmas.List.{reverse-append, reverse-reverse, set_at, get_or_at}

module _ {X : Type 0} (xs : List X) (x : X) (outer : List X) (is : reverse xs ≡ x ∷ outer) where
  apart : xs ≡ reverse outer ++ x ∷ []
  apart = sym (reverse-reverse xs) ∙ ap reverse is ∙ reverse-append (x ∷ []) outer

  place : (n : ℕ) → n ≡ length xs → length (reverse outer) ≡ n - 1
  place n e = let a = ap length apart in let b = length-append (reverse outer) (x ∷ []) in omega arith

  pub last_is : (n : ℕ) (d : X) → n ≡ length xs → get_or xs (n - 1) d ≡ x
  last_is n d e = ap (λ (ys : List X). get_or ys (n - 1) d) apart ∙ get_or_at (reverse outer) x [] d (n - 1) (place n e)

  pub with_last : (n : ℕ) (y : X) → n ≡ length xs → reverse (set xs (n - 1) y) ≡ y ∷ outer
  with_last n y e = ap (λ (ys : List X). reverse (set ys (n - 1) y)) apart
      ∙ ap reverse (set_at (reverse outer) x [] y (n - 1) (place n e))
      ∙ reverse-append (reverse outer) (y ∷ []) ∙ ap (λ (ys : List X). y ∷ ys) (reverse-reverse outer)
