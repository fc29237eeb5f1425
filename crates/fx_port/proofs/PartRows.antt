-- A row changed up to a place.
use Rattle.std.proofs.Common.{◌≡◌, ℕ, ◌+◌, List, [], ◌∷◌, ◌++◌, length, map, take, set, Some, slice_get, refl, sym, ◌∙◌, ap, zero, suc, arith, add-one}

module _ {A : Type 0} where
  -- the first k are changed
  abbrev pub partly : (A → A) → ℕ → List A → List A
  partly f zero xs = xs
  partly f (suc k) [] = []
  partly f (suc k) (x ∷ xs) = f x ∷ partly f k xs

  pub partly-get : (f : A → A) (k : ℕ) (xs : List A) → slice_get (partly f k xs) k ≡ slice_get xs k
  partly-get f zero xs = refl
  partly-get f (suc k) [] = refl
  partly-get f (suc k) (x ∷ xs) = partly-get f k xs

  pub partly-set : (f : A → A) (k : ℕ) (xs : List A) (x : A) → slice_get xs k ≡ Some x → set (partly f k xs) k (f x) ≡ partly f (suc k) xs
  partly-set f zero [] x e = let z : ⊥ = cc in absurd z
  partly-set f zero (y ∷ xs) x e = let t : y ≡ x = cc in λ i. f (sym t i) ∷ xs
  partly-set f (suc k) [] x e = let z : ⊥ = cc in absurd z
  partly-set f (suc k) (y ∷ xs) x e = ap (λ l. f y ∷ l) (partly-set f k xs x e)

  pub partly-all : (f : A → A) (xs : List A) (k : ℕ) → k ≡ length xs → partly f k xs ≡ map f xs
  partly-all f [] zero e = refl
  partly-all f [] (suc k) e = refl
  partly-all f (x ∷ xs) zero e = absurd (omega (arith, e))
  partly-all f (x ∷ xs) (suc k) e = ap (λ l. f x ∷ l) (partly-all f xs k (omega (arith, e)))

  pub partly-length : (f : A → A) (k : ℕ) (xs : List A) → length (partly f k xs) ≡ length xs
  partly-length f zero xs = refl
  partly-length f (suc k) [] = refl
  partly-length f (suc k) (x ∷ xs) = ap (λ (n : ℕ). suc n) (partly-length f k xs)

  pub take-snoc : {B : Type 0} (g : A → B) (k : ℕ) (xs : List A) (x : A) → slice_get xs k ≡ Some x → map g (take k xs) ++ g x ∷ [] ≡ map g (take (suc k) xs)
  take-snoc g zero [] x e = let z : ⊥ = cc in absurd z
  take-snoc g zero (y ∷ xs) x e = let t : y ≡ x = cc in λ i. g (sym t i) ∷ []
  take-snoc g (suc k) [] x e = let z : ⊥ = cc in absurd z
  take-snoc g (suc k) (y ∷ xs) x e = ap (λ l. g y ∷ l) (take-snoc g k xs x e)

  pub was_there : (f : A → A) (k : ℕ) (xs now : List A) (s : A) → now ≡ partly f k xs → slice_get now k ≡ Some s → slice_get xs k ≡ Some s
  was_there f k xs now s row at = sym (partly-get f k xs) ∙ (ap (λ l. slice_get l k) (sym row) ∙ at)

  pub row_step : (f : A → A) (k : ℕ) (xs now : List A) (s new : A)
      → now ≡ partly f k xs → slice_get now k ≡ Some s → new ≡ f s → set now k new ≡ partly f (k + 1) xs
  row_step f k xs now s new row at e =
      ap (λ l. set l k new) row ∙ (ap (λ x. set (partly f k xs) k x) e ∙ (partly-set f k xs s (was_there f k xs now s row at)
      ∙ ap (λ (n : ℕ). partly f n xs) (sym (add-one k))))

  pub new_step : {B : Type 0} (f : A → A) (g : A → B) (k : ℕ) (xs now : List A) (s : A) (made : List B) (b : B) → now ≡ partly f k xs → slice_get now k ≡ Some s
      → made ≡ map g (take k xs) → b ≡ g s → made ++ b ∷ [] ≡ map g (take (k + 1) xs)
  new_step f g k xs now s made b row at e h =
      ap (λ l. l ++ b ∷ []) e ∙ (ap (λ x. map g (take k xs) ++ x ∷ []) h ∙ (take-snoc g k xs s (was_there f k xs now s row at)
      ∙ ap (λ (n : ℕ). map g (take n xs)) (sym (add-one k))))
