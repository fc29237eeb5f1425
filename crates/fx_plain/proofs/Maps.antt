-- Maps by number, and lists.
use Rattle.std.proofs.Common.{◌≡◌, ℕ, Bool, true, false, replicate, refl, sym, inl, inr, arith}
use Rattle.std.specs.Prelude.{◌==◌, slice_index_or}
use Rattle.std.proofs.lemmas.Bool.{eq-eqb, cases_lt}
use Rattle.fx_term.proofs.MapLaws.{at_that}
use Rattle.std.proofs.lemmas.List.{get_or_past, get_or-replicate, length-replicate}
use Rattle.fx_term.specs.Maps.{with_at}

pub same_number : (n : ℕ) → (n == n) ≡ true
same_number n = eq-eqb n n refl

pub at_itself : {A : Type 0} (n : ℕ) (x : A) (m : ℕ → A) → with_at n x m n ≡ x
at_itself n x m = at_that n x m n refl

-- two tests that pass together are equal
pub same_tests : (a b : Bool) → (a ≡ true → b ≡ true) → (b ≡ true → a ≡ true) → a ≡ b
same_tests true b f g = sym (f refl)
same_tests false true f g = g refl
same_tests false false f g = refl

-- a list of one element many times has it everywhere, where it is what is read past the end
pub replicated : {A : Type 0} (n i : ℕ) (a : A) → slice_index_or (replicate n a) i a ≡ a
replicated n i a = elim (cases_lt i n) [
  | inl lt ↦ get_or-replicate n i a a lt
  | inr le ↦ get_or_past (replicate n a) i a (let e = length-replicate n a in omega arith)
]
