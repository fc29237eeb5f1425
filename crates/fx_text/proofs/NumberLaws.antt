-- Reading a number digit by digit.
use Rattle.std.proofs.Common.{
  ◌≡◌,
  ℕ,
  suc,
  length,
  drop,
  get_or,
  drop-cons,
  subst,
  ◌+◌,
  ◌-◌,
  ◌*◌,
  ◌^◌,
  ◌<◌,
  ◌≤◌,
  Bool,
  true,
  false,
  cond,
  List,
  [],
  ◌∷◌,
  refl,
  sym,
  arith,
}
use Rattle.std.specs.Prelude.{◌&&◌, nat_lt}
use Rattle.std.specs.List.{list_all}
use Rattle.std.proofs.lemmas.List.{drop_all}
use Rattle.std.proofs.lemmas.Bool.{le-ltb, lt-ltb}
use Rattle.fx_text.specs.Token.{Number, Misnumber, is_digit, value_after, number}

-- more digits make a number no smaller
pub value_after_ge : (n : ℕ) (ds : List ℕ) → n ≤ value_after n ds
value_after_ge n [] = omega arith
value_after_ge n (d ∷ ds) = let h = value_after_ge (10 * n + (d - 48)) ds in omega arith

-- a word, what is left of it, and the value of the digits before
pub record IsReadTo (word left : List ℕ) (value : ℕ) : Type 0 where
  pub digits : list_all is_digit left ≡ list_all is_digit word
  pub values : value_after value left ≡ value_after 0 word

pub goes_on : (word left : List ℕ) (d value : ℕ) → IsReadTo word (d ∷ left) value → is_digit d ≡ true → IsReadTo word left (10 * value + (d - 48))
goes_on word left d value h e = record { digits = rw e at h.digits; values = h.values }

pub no_digit : (word left : List ℕ) (d value : ℕ) → IsReadTo word (d ∷ left) value → is_digit d ≡ false → number word ≡ Misnumber
no_digit word left d value h e = let p : list_all is_digit word ≡ false = sym (rw e at h.digits) in rw p refl

by_digits : (b : Bool) (v : ℕ) → 2 ^ 64 ≤ v → cond (b && nat_lt v (2 ^ 64)) (Number v) Misnumber ≡ Misnumber
by_digits true v h = let p : nat_lt v (2 ^ 64) ≡ false = le-ltb _ _ h in rw p refl
by_digits false v h = refl

pub too_large : (word left : List ℕ) (d value : ℕ) → IsReadTo word (d ∷ left) value → 2 ^ 64 ≤ 10 * value + (d - 48) → number word ≡ Misnumber
too_large word left d value h big = by_digits (list_all is_digit word) (value_after 0 word) (let g = value_after_ge (10 * value + (d - 48)) left in
    let e = h.values in omega arith)

pub is_number : (word : List ℕ) (value : ℕ) → IsReadTo word [] value → value < 2 ^ 64 → number word ≡ Number value
is_number word value h lt =
    let p : list_all is_digit word ≡ true = sym h.digits in
    let q : value_after 0 word ≡ value = sym h.values in
    let r : nat_lt value (2 ^ 64) ≡ true = lt-ltb _ _ lt in
    rw (p, q, r) refl

pub too_large_at : (word : List ℕ) (i value : ℕ) → i < length word → IsReadTo word (drop i word) value → 2 ^ 64 ≤ 10 * value + (get_or word i 0 - 48)
    → number word ≡ Misnumber
too_large_at word i value lt h big = too_large word (drop (suc i) word) (get_or word i 0) value
    (subst (λ (l : List ℕ). IsReadTo word l value) (drop-cons word i 0 lt) h) big

pub is_number_at : (word : List ℕ) (i value : ℕ) → length word ≤ i → IsReadTo word (drop i word) value → value < 2 ^ 64 → number word ≡ Number value
is_number_at word i value le h lt = is_number word value (subst (λ (l : List ℕ). IsReadTo word l value) (drop_all i word le) h) lt
