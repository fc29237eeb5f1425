-- Lists whose elements have keys that rise: what is found by a key, and when two such lists are equal.
use Rattle.std.proofs.Common.{◌≡◌, ℕ, zero, suc, ◌+◌, ◌<◌, ◌≤◌, Bool, true, false, Option, Some, None, List, [], ◌∷◌, map, refl, sym, ◌∙◌, ap, subst}
use Rattle.std.proofs.Common.{arith, inl, inr, le_refl, All, Contains}
use Rattle.std.specs.Prelude.{◌==◌, ◌||◌, slice_index}
use Rattle.std.specs.List.{find, list_any}
use Rattle.std.specs.List.Sorted.{IsStrictlyIncreasing}
use Rattle.std.proofs.lemmas.Bool.{cases_order, cases_eq, eq-eqb, eqb-true, ne_eqb, or_cases, or_left, or_right}
use Rattle.std.proofs.lemmas.List.Elements.{All-nil, All-cons}
use Rattle.std.proofs.lemmas.Option.{none-some, same_Some}

module _ {X : Type 0} (key : X → ℕ) where
  -- the keys rise, from above this number
  abbrev pub RisesFrom : ℕ → List X → Type 0
  RisesFrom n [] = Unit {0}
  RisesFrom n (x ∷ xs) = (n ≤ key x) × RisesFrom (suc (key x)) xs

  abbrev pub found : ℕ → List X → Option X
  found f xs = find (λ (y : X). key y == f) xs

  tail_rises : (n : ℕ) (ns : List ℕ) → IsStrictlyIncreasing (n ∷ ns) → IsStrictlyIncreasing ns
  tail_rises n ns h k lt =
      let e : suc k + 1 ≡ suc (k + 1) = omega arith in
      subst (λ (j : ℕ). slice_index (n ∷ ns) (suc k) < slice_index (n ∷ ns) j) e (h (suc k) (omega arith))

  rises_above : (n : ℕ) (xs : List X) → IsStrictlyIncreasing (map key xs) → ((x : X) (ys : List X) → xs ≡ x ∷ ys → n ≤ key x) → RisesFrom n xs
  rises_above n [] h low = tt
  rises_above n (x ∷ xs) h low = (low x xs refl, rises_above (suc (key x)) xs (tail_rises (key x) (map key xs) h) first)
    where
      first : (y : X) (ys : List X) → xs ≡ y ∷ ys → suc (key x) ≤ key y
      first y ys e = subst (λ (zs : List X). IsStrictlyIncreasing (map key (x ∷ zs)) → key x < key y) (sym e) (λ r. r 0 (omega arith)) h

  pub rises_from : (xs : List X) → IsStrictlyIncreasing (map key xs) → RisesFrom 0 xs
  rises_from xs h = rises_above 0 xs h (λ x ys e. omega arith)

  not_below : (n f : ℕ) (xs : List X) → RisesFrom n xs → f < n → found f xs ≡ None
  not_below n f [] r lt = refl
  not_below n f (x ∷ xs) r lt = let low = r.0 in rw (ne_eqb (key x) f (λ e. omega arith)) (not_below (suc (key x)) f xs r.1 (omega arith))

  found_first : (x : X) (xs : List X) → found (key x) (x ∷ xs) ≡ Some x
  found_first x xs = rw (eq-eqb (key x) (key x) refl) refl

  found_rest : (f : ℕ) (x : X) (xs : List X) → (key x ≡ f → ⊥) → found f (x ∷ xs) ≡ found f xs
  found_rest f x xs ne = rw (ne_eqb (key x) f ne) refl

  -- one that passes a test is found by its key
  record PassesAt (xs : List X) (test : X → Bool) (n : ℕ) : Type 0 where
    pub element : X
    pub least : n ≤ key element
    pub is : found (key element) xs ≡ Some element
    pub passes : test element ≡ true

  passes_at : (n : ℕ) (test : X → Bool) (xs : List X) → RisesFrom n xs → list_any test xs ≡ true → PassesAt xs test n
  passes_at n test [] rises e = absurd cc
  passes_at n test (x ∷ xs) rises e = elim (or_cases (test x) (list_any test xs) e) [
    | inl here ↦ record { element = x; least = rises.0; is = found_first x xs; passes = here }
    | inr later ↦
        (let p = passes_at (suc (key x)) test xs rises.1 later in
        let above = p.least in
        let low = rises.0 in
        record { element = p.element; least = omega arith; is = found_rest (key p.element) x xs (λ same. omega arith) ∙ p.is; passes = p.passes })
  ]

  pub passing_is_found : (test : X → Bool) (xs : List X) → RisesFrom 0 xs → list_any test xs ≡ true
      → (x : X) × (found (key x) xs ≡ Some x) × (test x ≡ true)
  passing_is_found test xs rises e = (let p = passes_at 0 test xs rises e in (p.element, p.is, p.passes))

  -- what is so of each that is found by its key is so of each
  all_above : (P : X → Type 0) (n : ℕ) (xs : List X) → RisesFrom n xs → ((f : ℕ) (x : X) → n ≤ f → found f xs ≡ Some x → P x) → All P xs
  all_above P n [] rises each = All-nil P
  all_above P n (x ∷ xs) rises each =
      let low = rises.0 in
      All-cons P x xs (each (key x) x low (found_first x xs))
      (all_above P (suc (key x)) xs rises.1 (λ f y above is. each f y (omega arith) (found_rest f x xs (λ same. omega arith) ∙ is)))

  pub all_found : (P : X → Type 0) (xs : List X) → IsStrictlyIncreasing (map key xs) → ((f : ℕ) (x : X) → found f xs ≡ Some x → P x) → All P xs
  all_found P xs rises each = all_above P 0 xs (rises_from xs rises) (λ f x above. each f x)

  -- what is found passes what it passes in the list
  pub found_passes : (f : ℕ) (test : X → Bool) (xs : List X) (x : X) → found f xs ≡ Some x → test x ≡ true → list_any test xs ≡ true
  found_passes f test [] x e t = absurd (none-some x e)
  found_passes f test (y ∷ xs) x e t = by_test (key y == f) refl (λ later. found_passes f test xs x later t)
    where
      by_test : (b : Bool) → (key y == f) ≡ b → (found f xs ≡ Some x → list_any test xs ≡ true) → (test y || list_any test xs) ≡ true
      by_test true is rest = or_left (test y) (list_any test xs) (ap test (same_Some y x (rw is at e)) ∙ t)
      by_test false is rest = or_right (test y) (list_any test xs) (rest (rw is at e))

  -- lists whose keys rise, and that have the same at each key, are equal
  same_above : (n : ℕ) (xs ys : List X) → RisesFrom n xs → RisesFrom n ys → ((f : ℕ) → found f xs ≡ found f ys) → xs ≡ ys
  same_above n [] [] r r' e = refl
  same_above n [] (y ∷ ys) r r' e = absurd (none-some y (e (key y) ∙ found_first y ys))
  same_above n (x ∷ xs) [] r r' e = absurd (none-some x (sym (e (key x)) ∙ found_first x xs))
  same_above n (x ∷ xs) (y ∷ ys) r r' e = elim (cases_order (key x) (key y)) [
    | inl same ↦
        (let head : x ≡ y = same_Some x y (sym (found_first x xs) ∙ e (key x) ∙ ap (λ (k : ℕ). found k (y ∷ ys)) same ∙ found_first y ys) in
        let rises : RisesFrom (suc (key x)) ys = subst (λ (k : ℕ). RisesFrom (suc k) ys) (sym same) r'.1 in
        let tail = same_above (suc (key x)) xs ys r.1 rises (λ f. elim (cases_eq (key x) f) [
          | inl at ↦ not_below (suc (key x)) f xs r.1 (omega arith) ∙ sym (not_below (suc (key x)) f ys rises (omega arith))
          | inr ne ↦ sym (found_rest f x xs ne) ∙ e f ∙ found_rest f y ys (λ at. ne (same ∙ at))
        ]) in
        cc)
    | inr apart ↦ elim apart [
      | inl lt ↦ absurd (none-some x (sym (not_below (key y) (key x) (y ∷ ys) (le_refl (key y), r'.1) lt) ∙ sym (e (key x)) ∙ found_first x xs))
      | inr gt ↦ absurd (none-some y (sym (not_below (key x) (key y) (x ∷ xs) (le_refl (key x), r.1) gt) ∙ e (key y) ∙ found_first y ys))
    ]
  ]

  pub same_lists : (xs ys : List X) → IsStrictlyIncreasing (map key xs) → IsStrictlyIncreasing (map key ys)
      → ((f : ℕ) → found f xs ≡ found f ys) → xs ≡ ys
  same_lists xs ys r r' e = same_above 0 xs ys (rises_from xs r) (rises_from ys r') e

-- a number of a list passes
pub contained_passes : (ns : List ℕ) (n : ℕ) → Contains ns n → list_any (λ m. m == n) ns ≡ true
contained_passes [] n h = absurd (let lt = h.1 in omega arith)
contained_passes (m ∷ ns) n (zero, lt, e) = or_left (m == n) _ (eq-eqb m n e)
contained_passes (m ∷ ns) n (suc k, lt, e) = or_right (m == n) _ (contained_passes ns n (k, omega arith, e))

-- and one that passes is a number of the list
pub passing_contained : (ns : List ℕ) (n : ℕ) → list_any (λ m. m == n) ns ≡ true → Contains ns n
passing_contained [] n e = absurd cc
passing_contained (m ∷ ns) n e = elim (or_cases (m == n) (list_any (λ m. m == n) ns) e) [
  | inl here ↦ (0, omega arith, eqb-true m n here)
  | inr later ↦ (let h = passing_contained ns n later in (suc h.0, (let lt = h.1 in omega arith), h.2))
]
