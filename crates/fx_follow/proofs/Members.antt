-- Members of a list out of which one was taken.
use Rattle.std.proofs.Common.{◌≡◌, ℕ, ◌<◌, List, [], ◌∷◌, ◌++◌, take, drop, length, get_or, zero, suc, sym, ◌∙◌, inl, inr, ◌⊎◌, ⊎_elim, arith}
use Rattle.fx_term.specs.Lists.{Among}
use Rattle.fx_fiber.specs.Fiber.{FiberView}
use Rattle.fx_fiber.specs.PortFacts.{Facts}
use Rattle.fx_follow.specs.Waiting.{IsTakenOut}

module _ {A : Type 0} where
  pub among_at : (xs : List A) (i : ℕ) (x : A) → i < length xs → x ≡ get_or xs i x → Among x xs
  among_at [] i x lt e = absurd (omega arith)
  among_at (y ∷ ys) zero x lt e = inl e
  among_at (y ∷ ys) (suc i) x lt e = inr (among_at ys i x (omega arith) e)

  others_stay : (xs : List A) (i : ℕ) (x : A) → i < length xs → x ≡ get_or xs i x → (g : A) → Among g xs
      → (g ≡ x) ⊎ Among g (take i xs ++ drop (suc i) xs)
  others_stay [] i x lt e g h = absurd h
  others_stay (y ∷ ys) zero x lt e g (inl is) = inl (is ∙ sym e)
  others_stay (y ∷ ys) zero x lt e g (inr h) = inr h
  others_stay (y ∷ ys) (suc i) x lt e g (inl is) = inr (inl is)
  others_stay (y ∷ ys) (suc i) x lt e g (inr h) = ⊎_elim inl (λ t. inr (inr t)) (others_stay ys i x (omega arith) e g h)

  none_comes : (xs : List A) (i : ℕ) (g : A) → i < length xs → Among g (take i xs ++ drop (suc i) xs) → Among g xs
  none_comes [] i g lt h = absurd (omega arith)
  none_comes (y ∷ ys) zero g lt h = inr h
  none_comes (y ∷ ys) (suc i) g lt (inl is) = inl is
  none_comes (y ∷ ys) (suc i) g lt (inr h) = inr (none_comes ys i g (omega arith) h)

pub taken_out : (xs : List (FiberView Facts)) (i : ℕ) (x : FiberView Facts) → i < length xs → x ≡ get_or xs i x
    → IsTakenOut x xs (take i xs ++ drop (suc i) xs)
taken_out xs i x lt e = record {
  was_there = among_at xs i x lt e;
  stays = others_stay xs i x lt e;
  none_comes = λ g h. none_comes xs i g lt h;
}
