-- What is made of the numbers from 0 on, one more at a time.
use Rattle.std.proofs.Common.{◌≡◌, ℕ, zero, suc, ◌+◌, Bool, true, false, Option, Some, None, List, [], ◌∷◌, ◌++◌, refl, ◌∙◌, ap, arith, append-nil}
use Rattle.std.specs.List.{range_with_len, filter, filter_map}
use Rattle.std.proofs.lemmas.List.Elements.{filter-append, filter_map-append}

one_more : (a n : ℕ) → range_with_len a (suc n) ≡ range_with_len a n ++ (a + n) ∷ []
one_more a zero = let e : a ≡ a + 0 = omega arith in ap (λ (k : ℕ). k ∷ []) e
one_more a (suc n) =
    let e : a + 1 + n ≡ a + suc n = omega arith in
    ap (λ (ns : List ℕ). a ∷ ns) (one_more (a + 1) n ∙ ap (λ (k : ℕ). range_with_len (a + 1) n ++ k ∷ []) e)

one_more_from : (a n : ℕ) → range_with_len a (n + 1) ≡ range_with_len a n ++ (a + n) ∷ []
one_more_from a n = let e : n + 1 ≡ suc n = omega arith in ap (range_with_len a) e ∙ one_more a n

up_to : (n : ℕ) → range_with_len 0 (n + 1) ≡ range_with_len 0 n ++ n ∷ []
up_to n = let e : 0 + n ≡ n = omega arith in one_more_from 0 n ∙ ap (λ (k : ℕ). range_with_len 0 n ++ k ∷ []) e

module _ (n : ℕ) where
  -- those that pass a test
  pub one_passes : (p : ℕ → Bool) → p n ≡ true → filter p (range_with_len 0 (n + 1)) ≡ filter p (range_with_len 0 n) ++ n ∷ []
  one_passes p e = ap (filter p) (up_to n) ∙ filter-append p (range_with_len 0 n) (n ∷ []) ∙ rw e refl

  pub none_passes : (p : ℕ → Bool) → p n ≡ false → filter p (range_with_len 0 (n + 1)) ≡ filter p (range_with_len 0 n)
  none_passes p e = ap (filter p) (up_to n) ∙ filter-append p (range_with_len 0 n) (n ∷ []) ∙ rw e (append-nil (filter p (range_with_len 0 n)))

  -- what some of them give
  pub one_gives : {X : Type 0} (h : ℕ → Option X) (x : X) → h n ≡ Some x
      → filter_map h (range_with_len 0 (n + 1)) ≡ filter_map h (range_with_len 0 n) ++ x ∷ []
  one_gives h x e = ap (filter_map h) (up_to n) ∙ filter_map-append h (range_with_len 0 n) (n ∷ []) ∙ rw e refl

  pub none_gives : {X : Type 0} (h : ℕ → Option X) → h n ≡ None → filter_map h (range_with_len 0 (n + 1)) ≡ filter_map h (range_with_len 0 n)
  none_gives h e = ap (filter_map h) (up_to n) ∙ filter_map-append h (range_with_len 0 n) (n ∷ []) ∙ rw e (append-nil (filter_map h (range_with_len 0 n)))
