-- Sums over the numbers below a bound.
use Rattle.std.proofs.Common.{◌≡◌, ◌≢◌, ℕ, zero, suc, ◌+◌, ◌<◌, ◌≤◌, nat_eq, false, List, [], ◌∷◌, refl, ap, arith}
use Rattle.std.specs.Prelude.{All}
use Rattle.std.specs.List.{IsDistinct, AllByRecursion, sum_by}
use Rattle.std.proofs.lemmas.Bool.{eqb-false}
use Rattle.std.proofs.lemmas.List.Elements.{All-head, All-tail}
use Rattle.std.proofs.lemmas.List.Sums.{sum_by-cons}
use Rattle.std.proofs.lemmas.Map.Keys.{IsDistinct-head, IsDistinct-tail}

-- f 0 + f 1 + .. for so many numbers
abbrev pub sum_below : (ℕ → ℕ) → ℕ → ℕ
sum_below f zero = 0
sum_below f (suc n) = f zero + sum_below (λ i. f (suc i)) n

pub sum_below_more : (f : ℕ → ℕ) (n : ℕ) → sum_below f (suc n) ≡ sum_below f n + f n
sum_below_more f zero = omega arith
sum_below_more f (suc n) = let p = sum_below_more (λ i. f (suc i)) n in omega arith

-- the function, but 0 at this number
abbrev without : ℕ → (ℕ → ℕ) → ℕ → ℕ
without zero f zero = 0
without zero f (suc i) = f (suc i)
without (suc x) f zero = f zero
without (suc x) f (suc i) = without x (λ j. f (suc j)) i

sum_below_without : (f : ℕ → ℕ) (x n : ℕ) → x < n → sum_below f n ≡ f x + sum_below (without x f) n
sum_below_without f x zero h = absurd (omega arith)
sum_below_without f zero (suc n) h = omega arith
sum_below_without f (suc x) (suc n) h = let p = sum_below_without (λ i. f (suc i)) x n (omega arith) in omega arith

without_other : (f : ℕ → ℕ) (x y : ℕ) → x ≢ y → without x f y ≡ f y
without_other f zero zero h = absurd (h refl)
without_other f zero (suc y) h = refl
without_other f (suc x) zero h = refl
without_other f (suc x) (suc y) h = without_other (λ i. f (suc i)) x y (λ e. h (ap suc e))

sum_by_without : (f : ℕ → ℕ) (x : ℕ) (ys : List ℕ) → AllByRecursion (λ y. nat_eq x y ≡ false) ys → sum_by (without x f) ys ≡ sum_by f ys
sum_by_without f x [] h = refl
sum_by_without f x (y ∷ ys) h =
    let p = without_other f x y (eqb-false x y h.0) in
    let q = sum_by_without f x ys h.1 in
    omega (arith, sum_by-cons f y ys, sum_by-cons (without x f) y ys)

-- numbers below the bound, none of them twice, give no more than all of them
pub sum_by_distinct : (f : ℕ → ℕ) (n : ℕ) (xs : List ℕ) → IsDistinct nat_eq xs → All (λ x. x < n) xs → sum_by f xs ≤ sum_below f n
sum_by_distinct f n [] distinct below = omega arith
sum_by_distinct f n (x ∷ xs) distinct below =
    let here : x < n = All-head (λ y. y < n) x xs below in
    let rest = sum_by_distinct (without x f) n xs (IsDistinct-tail nat_eq x xs distinct) (All-tail (λ y. y < n) x xs below) in
    let same = sum_by_without f x xs (IsDistinct-head nat_eq x xs distinct) in
    let split = sum_below_without f x n here in
    omega (arith, sum_by-cons f x xs)
