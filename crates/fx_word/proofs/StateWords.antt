-- The state word as a number.
use Rattle.std.proofs.Common.{◌≡◌, ◌*◌, ◌/◌, ◌%◌, ◌==◌, Bool, true, false, bit_or, Option, Some, None, refl, ap, arith}
use Rattle.fx_term.specs.declared.outcome.Outcome.{Outcome}
use Rattle.fx_term.specs.declared.outcome.Outcome.TheVariants.{Succeeded, Errored, Canceled}
use Rattle.fx_word.specs.StateWord.{state_word, done_bits, value_of, end_kind, number_of}

pub or_one : (b : Bool) (o : Option Outcome) → bit_or (state_word b o) 1 ≡ state_word true o
or_one false None = refl
or_one true None = refl
or_one false (Some (Succeeded x)) = refl
or_one true (Some (Succeeded x)) = refl
or_one false (Some (Errored x)) = refl
or_one true (Some (Errored x)) = refl
or_one false (Some Canceled) = refl
or_one true (Some Canceled) = refl

pub odd : (b : Bool) (o : Option Outcome) → (state_word b o % 2 == 1) ≡ b
odd false None = refl
odd true None = refl
odd false (Some (Succeeded x)) = refl
odd true (Some (Succeeded x)) = refl
odd false (Some (Errored x)) = refl
odd true (Some (Errored x)) = refl
odd false (Some Canceled) = refl
odd true (Some Canceled) = refl

pub outcome_same : (o q : Outcome) → number_of (end_kind o) ≡ number_of (end_kind q) → value_of o ≡ value_of q → o ≡ q
outcome_same (Succeeded x) (Succeeded y) k v = ap Succeeded v
outcome_same (Succeeded x) (Errored y) k v = absurd (omega (arith, k))
outcome_same (Succeeded x) Canceled k v = absurd (omega (arith, k))
outcome_same (Errored x) (Succeeded y) k v = absurd (omega (arith, k))
outcome_same (Errored x) (Errored y) k v = ap Errored v
outcome_same (Errored x) Canceled k v = absurd (omega (arith, k))
outcome_same Canceled (Succeeded y) k v = absurd (omega (arith, k))
outcome_same Canceled (Errored y) k v = absurd (omega (arith, k))
outcome_same Canceled Canceled k v = refl

pub or_done : (b : Bool) (o : Outcome) → bit_or (state_word b None) (done_bits (Some o)) ≡ state_word b (Some o)
or_done false (Succeeded x) = refl
or_done true (Succeeded x) = refl
or_done false (Errored x) = refl
or_done true (Errored x) = refl
or_done false Canceled = refl
or_done true Canceled = refl

-- the done bits alone
pub half : (b : Bool) (o : Option Outcome) → state_word b o / 2 * 2 ≡ done_bits o
half false None = refl
half true None = refl
half false (Some (Succeeded x)) = refl
half true (Some (Succeeded x)) = refl
half false (Some (Errored x)) = refl
half true (Some (Errored x)) = refl
half false (Some Canceled) = refl
half true (Some Canceled) = refl
