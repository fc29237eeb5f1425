-- How many events each fiber has shown so far, as it is kept beside what is told, where the fibers have numbers below as many as are counted.
use Rattle.std.proofs.Common.{◌≡◌, ℕ, zero, suc, ◌+◌, ◌<◌, ◌≤◌, Option, Some, None, List, [], ◌∷◌, length, refl, sym, ◌∙◌, ap, subst, arith, inl, inr}
use Rattle.std.specs.Prelude.{◌==◌, if◌then◌else◌, replicate, slice_set, slice_index_or}
use Rattle.std.proofs.lemmas.Bool.{cases_eq, eq-eqb, ne_eqb}
use Rattle.std.proofs.lemmas.List.{length-append}
use Rattle.fx_term.specs.declared.event.Event.{Event}
use Rattle.fx_plain.specs.declared.told.Told.{Told}
use Rattle.fx_plain.specs.declared.told.Told.TheVariants.{Step, Request, Passed}
use Rattle.fx_plain.specs.ToldRun.{one_shown, events_told}
use Rattle.fx_command.specs.SoFar.{SoFarView, nothing_shown, next_of}
use Rattle.fx_command.specs.StoodEvents.{shown_when}
use Rattle.fx_command.specs.TakesInOrder.{shown_by_all}
use Rattle.fx_command.proofs.ShownCounts.{none_of}
use Rattle.fx_command.proofs.ToldFibers.{AreBelow, below_more}

many_zeros : (n : ℕ) → length (replicate n zero) ≡ n
many_zeros zero = refl
many_zeros (suc n) = ap suc (many_zeros n)

set_count : (xs : List ℕ) (f k : ℕ) → f < length xs → slice_index_or (slice_set xs f k) f 0 ≡ k
set_count [] f k lt = absurd (omega arith)
set_count (x ∷ xs) zero k lt = refl
set_count (x ∷ xs) (suc f) k lt = set_count xs f k (omega arith)

other_count : (xs : List ℕ) (f g k : ℕ) → (f ≡ g → ⊥) → slice_index_or (slice_set xs f k) g 0 ≡ slice_index_or xs g 0
other_count [] f g k ne = refl
other_count (x ∷ xs) zero zero k ne = absurd (ne refl)
other_count (x ∷ xs) zero (suc g) k ne = refl
other_count (x ∷ xs) (suc f) zero k ne = refl
other_count (x ∷ xs) (suc f) (suc g) k ne = other_count xs f g k (λ same. ne (ap suc same))

as_many_counts : (xs : List ℕ) (f k : ℕ) → length (slice_set xs f k) ≡ length xs
as_many_counts [] f k = refl
as_many_counts (x ∷ xs) zero k = refl
as_many_counts (x ∷ xs) (suc f) k = ap suc (as_many_counts xs f k)

shown_length : (s : SoFarView) (f : ℕ) (o : Option Event) → length (shown_when s f o).shown ≡ length s.shown
shown_length s f None = refl
shown_length s f (Some e) = as_many_counts s.shown f (suc (next_of s f).place)

counted_one : (s : SoFarView) (f g : ℕ) (o : Option Event) → f < length s.shown
    → slice_index_or (shown_when s f o).shown g 0 ≡ slice_index_or s.shown g 0 + length (if f == g then one_shown o else [])
counted_one s f g None below = elim (cases_eq f g) [ inl same ↦ rw (eq-eqb f g same) (omega arith) | inr other ↦ rw (ne_eqb f g other) (omega arith) ]
counted_one s f g (Some e) below = elim (cases_eq f g) [
  | inl same ↦ rw (eq-eqb f g same)
      (ap (λ (k : ℕ). slice_index_or (slice_set s.shown f (suc (next_of s f).place)) k 0) (sym same)
      ∙ set_count s.shown f (suc (next_of s f).place) below ∙ ap (λ (k : ℕ). suc (slice_index_or s.shown k 0)) same ∙ omega arith)
  | inr other ↦ rw (ne_eqb f g other) (other_count s.shown f g (suc (next_of s f).place) other ∙ omega arith)
]

counted : (s : SoFarView) (g : ℕ) (before : List Told) → AreBelow (length s.shown) before
    → slice_index_or (shown_by_all s before).shown g 0 ≡ slice_index_or s.shown g 0 + length (events_told g before)
counted s g [] are = omega arith
counted s g (Step t ∷ before) are =
    let same = shown_length s t.fiber t.event in
    let rest = counted (shown_when s t.fiber t.event) g before (subst (λ (n : ℕ). AreBelow n before) (sym same) are.1) in
    let one = counted_one s t.fiber g t.event are.0 in
    let all = length-append (if t.fiber == g then one_shown t.event else []) (events_told g before) in
    omega (arith, rest, one, all)
counted s g (Request f ∷ before) are = counted s g before are.1
counted s g (Passed x ∷ before) are = counted s g before are.1

-- so many as are told, from nothing on
pub counted_told : (n fibers queues g : ℕ) → n ≤ fibers → (before : List Told) → AreBelow n before
    → slice_index_or (shown_by_all (nothing_shown fibers queues) before).shown g 0 ≡ length (events_told g before)
counted_told n fibers queues g enough before below =
    let none = none_of fibers g in
    let many = counted (nothing_shown fibers queues) g before
    (below_more n (length (replicate fibers 0)) (rw (many_zeros fibers) enough) before below) in
    omega (arith, none, many)
