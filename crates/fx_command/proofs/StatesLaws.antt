-- A word lets a search go on from as many states as it writes in decimal.
use Rattle.std.proofs.Common.{◌≡◌, ◌≢◌, ℕ, ◌≤◌, Option, Some, List, [], ◌∷◌, length, get_or, sym, ◌∙◌, ap, subst, inl, inr, arith}
use Rattle.std.specs.Prelude.{◌↔◌, decimal}
use Rattle.std.proofs.lemmas.Bool.{cases_eq, cases_lt, eq-eqb, ne_eqb}
use Rattle.std.proofs.lemmas.Fmt.{decimal_nonempty, decimal_digit, first_decimal, decimal-digits_value}
use Rattle.std.proofs.lemmas.Option.{none-some}
use Rattle.fx_text.specs.Limits.{most_number}
use Rattle.fx_text.specs.Schedule.{IsNumber}
use Rattle.fx_findings.proofs.PrintedSchedules.{decimal_is_number}
use Rattle.fx_command.specs.Workers.{workers_in}
use Rattle.fx_command.specs.States.{states_in}
use Rattle.fx_command.proofs.WorkersLaws.{number_in, is_number_in, own}

states_of_decimal : (word : List ℕ) (n : ℕ) → 1 ≤ n → n ≤ most_number → word ≡ decimal n → states_in word ≡ Some n
states_of_decimal [] n some small e =
    let written = decimal_nonempty n (omega arith) in
    absurd (let none : 0 ≡ length (decimal n) = ap length e in omega arith)
states_of_decimal (b ∷ bytes) n some small e =
    let first = first_decimal n (omega arith) (omega arith) in
    let is : b ≡ get_or (decimal n) 0 0 = ap (λ (bs : List ℕ). get_or bs 0 0) e in
    let other : b ≢ 48 = λ zero. omega arith in
    rw (ne_eqb b 48 other) (number_in (b ∷ bytes) n (subst (λ (bs : List ℕ). IsNumber bs n) (sym e) (decimal_is_number n small)))

-- the number of such a word
written : (b : ℕ) (bytes : List ℕ) (n : ℕ) → b ≢ 48 → workers_in (b ∷ bytes) ≡ Some n → (1 ≤ n) × (n ≤ most_number) × ((b ∷ bytes) ≡ decimal n)
written b bytes n other e =
    let h = is_number_in (b ∷ bytes) n e in
    let small = h.small in
    let value = h.value in
    let digits : decimal n ≡ b ∷ bytes =
    ap decimal (sym value) ∙ decimal-digits_value own (b ∷ bytes) h.all h.some (λ zero. absurd (other zero)) (omega arith) in
    let some : 1 ≤ n = elim (cases_lt n 1) [
      | inl none ↦ absurd (other (
          let is : n ≡ 0 = omega arith in
          ap (λ (bs : List ℕ). get_or bs 0 0) (sym digits ∙ ap decimal is ∙ decimal_digit 0 (omega arith))))
      | inr some ↦ some
    ] in
    (some, small, sym digits)

decimal_of_states : (word : List ℕ) (n : ℕ) → states_in word ≡ Some n → (1 ≤ n) × (n ≤ most_number) × (word ≡ decimal n)
decimal_of_states [] n e = absurd (none-some n e)
decimal_of_states (b ∷ bytes) n e = elim (cases_eq b 48) [
  | inl zero ↦ absurd (none-some n (rw (eq-eqb b 48 zero) at e))
  | inr other ↦ written b bytes n other (rw (ne_eqb b 48 other) at e)
]

-- so what a word gives is the number that it writes
pub states_are_written : (word : List ℕ) (r : Option ℕ) → r ≡ states_in word
    → (n : ℕ) → ((1 ≤ n) × (n ≤ most_number) × (word ≡ decimal n)) ↔ (r ≡ Some n)
states_are_written word r is n = (λ h. is ∙ states_of_decimal word n h.0 h.1 h.2, λ e. decimal_of_states word n (sym is ∙ e))
