-- The queues at which somebody waits, as fibers leave them.
use Rattle.std.proofs.Common.{◌≡◌, ℕ, ◌<◌, Bool, false, List, length, sym, ◌∙◌, ap, inl, inr, arith}
use Rattle.std.proofs.lemmas.Bool.{cases_eq}
use Rattle.fx_plain.specs.NumberSet.{is_member_of}
use Rattle.fx_term.specs.Maps.{with_at}
use Rattle.fx_plain.specs.ClassSets.{AreWaitedAt}
use Rattle.fx_term.proofs.MapLaws.{at_that, at_other}

-- a number that was not there is not there without another
still_out : (fiber f : ℕ) (was : ℕ → Bool) → was f ≡ false → with_at fiber false was f ≡ false
still_out fiber f was e = elim (cases_eq f fiber) [
  | inl same ↦ at_that fiber false was f same
  | inr apart ↦ at_other fiber false was f apart ∙ e
]

out_of_all : (queue fiber q f : ℕ) (was : ℕ → ℕ → Bool) → was q f ≡ false → with_at queue (with_at fiber false (was queue)) was q f ≡ false
out_of_all queue fiber q f was e = elim (cases_eq q queue) [
  | inl same ↦
      ap (λ (set : ℕ → Bool). set f) (at_that queue (with_at fiber false (was queue)) was q same)
      ∙ still_out fiber f (was queue) (ap (λ n. was n f) (sym same) ∙ e)
  | inr apart ↦ ap (λ (set : ℕ → Bool). set f) (at_other queue (with_at fiber false (was queue)) was q apart) ∙ e
]

-- the sets have lost at most this number at that index
abbrev pub IsWithout : ℕ → ℕ → List (List ℕ) → List (List ℕ) → Type 0
IsWithout queue fiber old new =
    (i k : ℕ) → i < length old → is_member_of new i k ≡ with_at queue (with_at fiber false (is_member_of old queue)) (is_member_of old) i k

module _ (waited : ℕ → Bool) (queue fiber : ℕ) (rooms elements : List (List ℕ)) (are : AreWaitedAt waited rooms elements) where
  pub room_left : (rooms' : List (List ℕ)) → length rooms' ≡ length rooms → IsWithout queue fiber rooms rooms' → AreWaitedAt waited rooms' elements
  room_left rooms' long without q lt e f =
      let within : q < length rooms = omega arith in
      let were = are q within e f in
      (without q f within ∙ out_of_all queue fiber q f (is_member_of rooms) were.0, were.1)

  pub element_left : (elements' : List (List ℕ)) → length elements ≡ length rooms → IsWithout queue fiber elements elements'
      → AreWaitedAt waited rooms elements'
  element_left elements' long without q lt e f =
      let within : q < length elements = omega arith in
      let were = are q lt e f in
      (were.0, without q f within ∙ out_of_all queue fiber q f (is_member_of elements) were.1)
