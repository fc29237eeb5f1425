-- The numbers below a bound that are marked, ascending.
use Rattle.std.proofs.Common.{◌≡◌, ℕ, ◌+◌, ◌<◌, Bool, true, false, List, [], ◌∷◌, ◌++◌, get_or, sym, ◌∙◌, ap, subst, inl, inr, arith, Contains}
use Rattle.std.specs.List.{AllPairs}
use Rattle.std.proofs.lemmas.List.{get_or_default}
use Rattle.std.proofs.lemmas.List.Elements.{Contains-append_left, Contains-append_cases, Contains-push}
use Rattle.std.proofs.lemmas.List.Quantifiers.{all_pairs_push}
use mathlib.Core.Logic.{dite}
use native.Mathlib.Decide.{ℕ_discrete}
use Rattle.fx_port.specs.Marks.{is_marked}
use Rattle.fx_run.specs.Closing.{AreMarked}
use Rattle.fx_run.proofs.Members.{contains_among}

-- one more number is looked at
pub told_more : (marks : List Bool) (numbers : List ℕ) (n : ℕ) → is_marked marks n ≡ true
    → AreMarked n marks numbers
    → AreMarked (n + 1) marks (numbers ++ n ∷ [])
told_more marks numbers n here told f = (
  (λ i. elim (Contains-append_cases numbers (n ∷ []) f i) [
    | inl j ↦ (let t = (told f).0 j in let lt = t.0 in (omega (arith, lt), t.1))
    | inr j ↦ elim (contains_among f (n ∷ []) j) [
      | inl e ↦ (omega (arith, e), ap (is_marked marks) e ∙ here)
      | inr none ↦ absurd none
    ]
  ]),
  (λ t. let lt = t.0 in dite (ℕ_discrete f n)
      (λ e. subst (Contains (numbers ++ n ∷ [])) (sym e) (Contains-push numbers n))
      (λ other. Contains-append_left numbers (n ∷ []) f ((told f).1 (omega (arith, lt, other), t.1)))),
)

pub told_as_well : (marks : List Bool) (numbers : List ℕ) (n : ℕ) → is_marked marks n ≡ false
    → AreMarked n marks numbers
    → AreMarked (n + 1) marks numbers
told_as_well marks numbers n here told f = (
  (λ i. let t = (told f).0 i in let lt = t.0 in (omega (arith, lt), t.1)),
  (λ t. let lt = t.0 in dite (ℕ_discrete f n)
      (λ e. let z : false ≡ true = sym here ∙ (sym (ap (is_marked marks) e) ∙ t.1) in let w : ⊥ = cc in absurd w)
      (λ other. (told f).1 (omega (arith, lt, other), t.1))),
)

pub rising_more : (marks : List Bool) (numbers : List ℕ) (n : ℕ) → AllPairs (λ (i j : ℕ). i < j) numbers
    → AreMarked n marks numbers → AllPairs (λ (i j : ℕ). i < j) (numbers ++ n ∷ [])
rising_more marks numbers n rising told =
    all_pairs_push (λ (i j : ℕ). i < j) numbers n rising
    (λ k d lt. ((told (get_or numbers k d)).0 (k, lt, get_or_default numbers k (get_or numbers k d) d lt)).0)
