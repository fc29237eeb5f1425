-- Maps that were changed at one number, and maps that a decision makes.
use Rattle.std.proofs.Common.{◌≡◌, ◌≢◌, ℕ, Bool, if◌then◌else◌, ◌⊎◌, inl, inr, refl, sym, ◌∙◌, ap, eq-eqb, ne_eqb}
use mathlib.Core.Logic.{dite}
use native.Mathlib.Decide.{ℕ_discrete}
use Rattle.fx_term.specs.Maps.{with_at}

module _ {A : Type 0} where
  pub at_that : (n : ℕ) (x : A) (m : ℕ → A) (k : ℕ) → k ≡ n → with_at n x m k ≡ x
  at_that n x m k e = ap (λ (b : Bool). if b then x else m k) (eq-eqb k n e)

  pub at_other : (n : ℕ) (x : A) (m : ℕ → A) (k : ℕ) → k ≢ n → with_at n x m k ≡ m k
  at_other n x m k h = ap (λ (b : Bool). if b then x else m k) (ne_eqb k n h)

  -- what is at k afterwards is what was put there, or what was there
  pub at_cases : (n : ℕ) (x : A) (m : ℕ → A) (k : ℕ) (y : A) → with_at n x m k ≡ y → ((k ≡ n) × (x ≡ y)) ⊎ ((k ≢ n) × (m k ≡ y))
  at_cases n x m k y e = dite (ℕ_discrete k n) (λ h. inl (h, sym (at_that n x m k h) ∙ e)) (λ h. inr (h, sym (at_other n x m k h) ∙ e))

  -- one of two, by a decision
  pub pick : {P : Type 0} → Dec P → A → A → A
  pick (yes p) a b = a
  pick (no n) a b = b

  pub pick_yes : {P : Type 0} (d : Dec P) (a b : A) → P → pick d a b ≡ a
  unfolding pick
  pick_yes (yes p) a b h = refl
  pick_yes (no n) a b h = absurd (n h)

  pub pick_no : {P : Type 0} (d : Dec P) (a b : A) → (P → ⊥) → pick d a b ≡ b
  unfolding pick
  pick_no (yes p) a b h = absurd (h p)
  pick_no (no n) a b h = refl
