-- Lists in which no number stands twice.
use Rattle.std.proofs.Common.{◌≡◌, ℕ, ◌<◌, true, false, nat_eq, List, [], ◌∷◌, ◌++◌, length, get_or, refl, sym, ◌∙◌, arith, eq-eqb, eqb-true}
use Rattle.std.specs.List.{IsDistinct, AllByRecursion, list_any}
use Rattle.std.proofs.lemmas.List.{get_or_append_left, get_or_push, length_push}
use Rattle.std.proofs.lemmas.Map.Keys.{IsDistinct-head, IsDistinct-tail, IsDistinct-cons, apart_from_distinct}
use Rattle.std.proofs.lemmas.Map.Views.{Contains-from_any}

front_passes : (P : ℕ → Type 0) (xs ys : List ℕ) → AllByRecursion P (xs ++ ys) → AllByRecursion P xs
front_passes P [] ys h = tt
front_passes P (x ∷ xs) ys h = (h.0, front_passes P xs ys h.1)

-- the front of such a list is one too
pub distinct_front : (xs ys : List ℕ) → IsDistinct nat_eq (xs ++ ys) → IsDistinct nat_eq xs
unfolding IsDistinct
distinct_front [] ys h = tt
distinct_front (x ∷ xs) ys h =
    IsDistinct-cons nat_eq x xs (front_passes (λ y. nat_eq x y ≡ false) xs ys (IsDistinct-head nat_eq x (xs ++ ys) h))
    (distinct_front xs ys (IsDistinct-tail nat_eq x (xs ++ ys) h))

-- a number that stands in the list cannot follow it
pub distinct_push_absurd : (xs : List ℕ) (y : ℕ) → list_any (nat_eq y) xs ≡ true → IsDistinct nat_eq (xs ++ y ∷ []) → ⊥
distinct_push_absurd xs y stands h =
    let at = Contains-from_any {eq = nat_eq} eqb-true y xs stands in
    let within : at.0 < length xs = at.1 in
    let last : length xs < length (xs ++ y ∷ []) = omega (arith, length_push xs y) in
    let apart = apart_from_distinct nat_eq (xs ++ y ∷ []) at.0 (length xs) y h within last in
    let left = get_or_append_left xs (y ∷ []) y at.0 within ∙ at.2 in
    let right = get_or_push xs y y (length xs) refl in
    let same = eq-eqb (get_or (xs ++ y ∷ []) at.0 y) (get_or (xs ++ y ∷ []) (length xs) y) (left ∙ sym right) in
    cc
