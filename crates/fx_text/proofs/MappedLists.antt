-- Tests and positions in a list that was mapped, and in two lists one after the other.
use Rattle.std.proofs.Common.{◌≡◌, ℕ, ◌+◌, nat_lt, ◌==◌, Bool, true, false, cond, ◌||◌, not, Option, Some, None, option_map, List, [], ◌∷◌, ◌++◌}
use Rattle.std.proofs.Common.{length, map, refl, ap, arith}
use Rattle.std.proofs.lemmas.Bool.{ltb-true, ltb-false, le-ltb, lt-ltb}
use Rattle.std.proofs.lemmas.Bool.Decides.{nat_tests}
use Rattle.std.proofs.lemmas.List.Folds.{prefix_len-append}
use Rattle.std.proofs.lemmas.List.Sums.{prefix_len-le-length}
use Rattle.std.specs.List.{list_any, position, prefix_len}
use Rattle.std.proofs.lemmas.List.{length-map, length-append}

pub list_any_map : {X Y : Type 0} (f : X → Y) (p : Y → Bool) (xs : List X) → list_any p (map f xs) ≡ list_any (λ x. p (f x)) xs
list_any_map f p [] = refl
list_any_map f p (x ∷ xs) = ap (λ (b : Bool). p (f x) || b) (list_any_map f p xs)

prefix_len_map : {X Y : Type 0} (f : X → Y) (p : Y → Bool) (xs : List X) → prefix_len p (map f xs) ≡ prefix_len (λ x. p (f x)) xs
prefix_len_map f p [] = refl
prefix_len_map f p (x ∷ xs) = ap (λ (n : ℕ). cond (p (f x)) (1 + n) 0) (prefix_len_map f p xs)

pub position_map : {X Y : Type 0} (f : X → Y) (p : Y → Bool) (xs : List X) → position p (map f xs) ≡ position (λ x. p (f x)) xs
position_map f p xs = let e = prefix_len_map f (λ y. not (p y)) xs in let l = length-map xs f in cc

module _ {X : Type 0} (p : X → Bool) (xs ys : List X) where
  both_prefixes : prefix_len p (xs ++ ys) ≡ cond (prefix_len p xs == length xs) (length xs + prefix_len p ys) (prefix_len p xs)
  both_prefixes = prefix_len-append p xs ys

module _ {X : Type 0} (p : X → Bool) (xs ys : List X) where
  -- what is found in the first list
  pub position_front : (i : ℕ) → position p xs ≡ Some i → position p (xs ++ ys) ≡ Some i
  position_front i e = by_test (nat_lt (prefix_len (λ x. not (p x)) xs) (length xs)) refl e
    where
      by_test : (b : Bool) → nat_lt (prefix_len (λ x. not (p x)) xs) (length xs) ≡ b → cond b (Some (prefix_len (λ x. not (p x)) xs)) None ≡ Some i
          → position p (xs ++ ys) ≡ Some i
      by_test true lt e =
          let less = ltb-true _ _ lt in
          let other : (prefix_len (λ x. not (p x)) xs == length xs) ≡ false = grind (arith, nat_tests) in
          let both = both_prefixes (λ x. not (p x)) xs ys in
          let same : prefix_len (λ x. not (p x)) (xs ++ ys) ≡ prefix_len (λ x. not (p x)) xs = rw other at both in
          let fits : nat_lt (prefix_len (λ x. not (p x)) xs) (length (xs ++ ys)) ≡ true = lt-ltb _ _ (omega (arith, length-append xs ys)) in
          rw (same, fits) e
      by_test false lt e = absurd cc

  -- and in the second
  pub position_back : position p xs ≡ None → position p (xs ++ ys) ≡ option_map (λ i. length xs + i) (position p ys)
  position_back e = by_test (nat_lt (prefix_len (λ x. not (p x)) xs) (length xs)) refl e
    where
      by_second : (b : Bool) → nat_lt (prefix_len (λ x. not (p x)) ys) (length ys) ≡ b
          → cond (nat_lt (length xs + prefix_len (λ x. not (p x)) ys) (length (xs ++ ys))) (Some (length xs + prefix_len (λ x. not (p x)) ys)) None
          ≡ option_map (λ i. length xs + i) (cond b (Some (prefix_len (λ x. not (p x)) ys)) None)
      by_second true lt =
          let less = ltb-true _ _ lt in
          let fits : nat_lt (length xs + prefix_len (λ x. not (p x)) ys) (length (xs ++ ys)) ≡ true = lt-ltb _ _ (omega (arith, length-append xs ys)) in
          rw fits refl
      by_second false lt =
          let least = ltb-false _ _ lt in
          let over : nat_lt (length xs + prefix_len (λ x. not (p x)) ys) (length (xs ++ ys)) ≡ false = le-ltb _ _ (omega (arith, length-append xs ys)) in
          rw over refl

      by_test : (b : Bool) → nat_lt (prefix_len (λ x. not (p x)) xs) (length xs) ≡ b
          → ◌≡◌ {A = Option ℕ} (cond b (Some (prefix_len (λ x. not (p x)) xs)) None) None
          → position p (xs ++ ys) ≡ option_map (λ i. length xs + i) (position p ys)
      by_test true lt e = absurd cc
      by_test false lt e =
          let most = prefix_len-le-length (λ x. not (p x)) xs in
          let least = ltb-false _ _ lt in
          let whole : (prefix_len (λ x. not (p x)) xs == length xs) ≡ true = grind (arith, nat_tests) in
          let both = both_prefixes (λ x. not (p x)) xs ys in
          let past : prefix_len (λ x. not (p x)) (xs ++ ys) ≡ length xs + prefix_len (λ x. not (p x)) ys =
          rw whole at both in
          rw past (by_second (nat_lt (prefix_len (λ x. not (p x)) ys) (length ys)) refl)
