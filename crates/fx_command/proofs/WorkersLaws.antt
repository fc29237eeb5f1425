-- How many workers a word asks for, and how many a run has that did not fail for their number.
use Rattle.std.proofs.Common.{◌≡◌, ℕ, ◌<◌, ◌≤◌, ◌^◌, ◌⊎◌, Option, Some, None, Result, Ok, Err, List, length, refl, inl, inr, true, arith, rules}
use Rattle.std.specs.Prelude.{◌&&◌, ◌↔◌, nat_lt, nat_le}
use Rattle.std.specs.List.{list_all}
use Rattle.std.specs.Result.{OkIff, result_ok}
use Rattle.std.specs.Str.Parse.{ParsesUnsigned}
use Rattle.std.proofs.lemmas.Bool.{and_parts, cases_lt, lt-ltb, ltb-true, le-leb, leb-true, cond_both, cond-true}
use Rattle.std.proofs.lemmas.Option.{cond_some}
use Rattle.std.proofs.lemmas.Result.{IfErr-at_err}
use Rattle.std.proofs.lemmas.Str.Parse.{IsNumeralModel, numerals_by_fold, parse_digits}
use Rattle.fx_text.specs.Limits.{most_number}
use Rattle.fx_text.specs.Schedule.{IsNumber}
use Rattle.fx_text.specs.Token.{is_digit, value_after}
use Rattle.fx_run.specs.Workers.{most_workers}
use Rattle.fx_run.specs.declared.run_fault.RunFault.{RunFault}
use Rattle.fx_run.specs.declared.run_fault.RunFault.TheVariants.{Workers}
use Rattle.fx_command.specs.Workers.{writes_number, workers_in}

-- a word has just the number that its digits write
pub number_in : (word : List ℕ) (n : ℕ) → IsNumber word n → workers_in word ≡ Some n
number_in word n h =
    let some : nat_lt 0 (length word) ≡ true = lt-ltb _ _ h.some in
    let small : nat_le (value_after 0 word) most_number ≡ true = le-leb _ _ (let v = h.value in let s = h.small in omega arith) in
    rw (some, h.all, small, h.value) refl

pub is_number_in : (word : List ℕ) (n : ℕ) → workers_in word ≡ Some n → IsNumber word n
is_number_in word n e =
    let small = nat_le (value_after 0 word) most_number in
    let both = cond_some (writes_number word) (value_after 0 word) n e in
    let tests = and_parts (nat_lt 0 (length word) && list_all is_digit word) small both.0 in
    let digits = and_parts (nat_lt 0 (length word)) (list_all is_digit word) tests.0 in
    record {
      some = ltb-true _ _ digits.0;
      all = digits.1;
      value = both.1;
      small = let v = both.1 in let s = leb-true _ _ tests.1 in omega arith;
    }

-- these are the digits and the numbers of `parse`
pub own : IsNumeralModel (λ ds. list_all is_digit ds ≡ true) (value_after 0)
own = numerals_by_fold _ (search rules) value_after (search rules)

number_read : {E : Type 0} (word : List ℕ) (r : Result ℕ E) → list_all is_digit word ≡ true
    → OkIff r ((0 < length word) × (value_after 0 word < 2 ^ 32)) (value_after 0 word) → result_ok r ≡ workers_in word
number_read word (Ok x) all (is, e) =
    let some : nat_lt 0 (length word) ≡ true = lt-ltb _ _ is.0 in
    let small : nat_le (value_after 0 word) most_number ≡ true = le-leb _ _ (let s = is.1 in omega arith) in
    rw (some, all, small, e) refl
number_read word (Err f) all none = cond_both (writes_number word) _ _ (λ (o : Option ℕ). None ≡ o) (λ yes. absurd (
    let h = is_number_in word (value_after 0 word) (cond-true (writes_number word) _ _ yes) in
    none (h.some, (let s = h.small in omega arith)))) (λ _. refl)

pub number_parsed : {E : Type 0} (word : List ℕ) (r : Result ℕ E) → list_all is_digit word ≡ true → ParsesUnsigned 32 10 word r
    → result_ok r ≡ workers_in word
number_parsed word r all parsed = number_read word r all (parse_digits own 32 word r parsed all)

-- a run that came to its end has from 1 to most_workers workers
outside_or_can : (n : ℕ) → ((n < 1) ⊎ (most_workers < n)) ⊎ ((1 ≤ n) × (n ≤ most_workers))
outside_or_can n = elim (cases_lt n 1) [
  | inl none ↦ inl (inl none)
  | inr some ↦ elim (cases_lt most_workers n) [
    | inl many ↦ inl (inr many)
    | inr few ↦ inr (some, few)
  ]
]

pub can_run : {A : Type 0} (n : ℕ) (x : A) → (((n < 1) ⊎ (most_workers < n)) ↔ (◌≡◌ {A = Result A RunFault} (Ok x) (Err Workers)))
    → (1 ≤ n) × (n ≤ most_workers)
can_run n x exactly = elim (outside_or_can n) [
  | inl outside ↦ absurd (IfErr-at_err (λ _. ⊥) (exactly.0 outside) tt)
  | inr can ↦ can
]
