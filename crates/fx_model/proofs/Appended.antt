-- Where the elements of a list stand after something was appended to it.
use Rattle.std.proofs.Common.{◌≡◌, ℕ, zero, suc, ◌<◌, ◌≤◌, Bool, true, false, Some, List, [], ◌∷◌, ◌++◌, length, refl, ◌∙◌, ap, arith, ◌⊎◌, inl, inr}
use Rattle.std.specs.Prelude.{slice_get}
use Rattle.std.specs.List.{filter}
use Rattle.std.proofs.lemmas.Option.{none-some, same_Some}

module _ {A : Type 0} where
  -- an element stands where it stood
  pub still_at : (xs ys : List A) (i : ℕ) (x : A) → slice_get xs i ≡ Some x → slice_get (xs ++ ys) i ≡ Some x
  still_at [] ys i x e = absurd (none-some x e)
  still_at (z ∷ xs) ys zero x e = e
  still_at (z ∷ xs) ys (suc i) x e = still_at xs ys i x e

  -- and stood there if its place is one of those from before
  pub stood_at : (xs ys : List A) (i : ℕ) (x : A) → i < length xs → slice_get (xs ++ ys) i ≡ Some x → slice_get xs i ≡ Some x
  stood_at [] ys i x lt e = absurd (omega arith)
  stood_at (z ∷ xs) ys zero x lt e = e
  stood_at (z ∷ xs) ys (suc i) x lt e = stood_at xs ys i x (omega arith) e

  -- the last element
  pub at_seam : (xs : List A) (x : A) → slice_get (xs ++ x ∷ []) (length xs) ≡ Some x
  at_seam [] x = refl
  at_seam (y ∷ xs) x = at_seam xs x

  one_at : (ys : List A) (i : ℕ) (x : A) → length ys ≤ 1 → slice_get ys i ≡ Some x → (i ≡ 0) × (ys ≡ x ∷ [])
  one_at [] i x few e = absurd (none-some x e)
  one_at (y ∷ []) zero x few e = (refl, ap (λ (z : A). z ∷ []) (same_Some y x e))
  one_at (y ∷ []) (suc i) x few e = absurd (none-some x e)
  one_at (y ∷ z ∷ ys) i x few e = absurd (omega arith)

  -- after at most one is appended each element stood there before, or is the new one
  pub stood_or_new : (xs ys : List A) (i : ℕ) (x : A) → length ys ≤ 1 → slice_get (xs ++ ys) i ≡ Some x
      → (slice_get xs i ≡ Some x) ⊎ ((i ≡ length xs) × (ys ≡ x ∷ []))
  stood_or_new [] ys i x few e = inr (one_at ys i x few e)
  stood_or_new (z ∷ xs) ys zero x few e = inl e
  stood_or_new (z ∷ xs) ys (suc i) x few e = elim (stood_or_new xs ys i x few e) [ inl old ↦ inl old | inr new ↦ inr (ap suc new.0, new.1) ]

-- an element that passes a test is still there when those that fail are left out
pub record StandsIn {A : Type 0} (xs : List A) (x : A) : Type 0 where
  pub place : ℕ
  pub at : slice_get xs place ≡ Some x

-- what passes stood in the list
pub filter_stood : {A : Type 0} (test : A → Bool) (xs : List A) (i : ℕ) (x : A) → slice_get (filter test xs) i ≡ Some x → StandsIn xs x
filter_stood test [] i x e = absurd (none-some x e)
filter_stood {A = A} test (y ∷ xs) i x e = by_test (test y) refl i e (λ j later. filter_stood test xs j x later)
  where
    by_test : (b : Bool) → test y ≡ b → (i : ℕ) → slice_get (filter test (y ∷ xs)) i ≡ Some x
        → ((j : ℕ) → slice_get (filter test xs) j ≡ Some x → StandsIn xs x) → StandsIn (y ∷ xs) x
    by_test true is zero e rest = record { place = 0; at = rw is at e }
    by_test true is (suc i) e rest = let h = rest i (rw is at e) in record { place = suc h.place; at = h.at }
    by_test false is i e rest = let h = rest i (rw is at e) in record { place = suc h.place; at = h.at }

pub filter_keeps : {A : Type 0} (test : A → Bool) (xs : List A) (i : ℕ) (x : A) → slice_get xs i ≡ Some x → test x ≡ true → StandsIn (filter test xs) x
filter_keeps test [] i x e passes = absurd (none-some x e)
filter_keeps {A = A} test (y ∷ xs) zero x e passes = rw (ap test (same_Some y x e) ∙ passes) (record { place = 0; at = e })
filter_keeps {A = A} test (y ∷ xs) (suc i) x e passes = by_test (test y) refl (filter_keeps test xs i x e passes)
  where
    by_test : (b : Bool) → test y ≡ b → StandsIn (filter test xs) x → StandsIn (filter test (y ∷ xs)) x
    by_test true is h = rw is (record { place = suc h.place; at = h.at })
    by_test false is h = rw is (record { place = h.place; at = h.at })
