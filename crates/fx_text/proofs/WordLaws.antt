-- A word of a schedule is read as the pick that it spells.
use Rattle.std.proofs.Common.{◌≡◌, ℕ, suc, ◌+◌, ◌-◌, ◌^◌, ◌<◌, nat_lt, nat_le, Bool, true, false, not, ◌&&◌, ◌==◌, cond, Result, Ok, Err, List, []}
use Rattle.std.proofs.Common.{◌∷◌, ◌++◌, length, take, drop, refl, sym, ap, ◌∙◌, subst, arith}
use Rattle.std.specs.List.{list_all, prefix_len}
use Rattle.std.proofs.lemmas.Bool.{eqb-true, leb-true, le-leb, le-ltb, lt-ltb}
use Rattle.std.proofs.lemmas.List.{append-nil, take-append-drop}
use Rattle.std.proofs.Math.Seq.{take-append_seam, drop-append_seam}
use Rattle.fx_text.specs.declared.pick.Pick.{Pick}
use Rattle.fx_text.specs.declared.pick.Pick.TheVariants as pick
use Rattle.fx_text.specs.declared.fault.TextKind.{TextKind}
use Rattle.fx_text.specs.declared.fault.TextKind.TheVariants as kind
use Rattle.fx_text.specs.declared.fault.Fault.{Fault}
use Rattle.fx_text.specs.Limits.{most_number}
use Rattle.fx_text.specs.Token.{Number, Misnumber, is_space, is_digit, is_letter_or_digit, value_after}
use Rattle.fx_text.specs.Schedule.{IsNumber, IsWord, step, cancel, EndsWord, is_inside, small_number, number_of, picked, pick_of, at_word, word_at, pick_at}
use Rattle.fx_text.proofs.PartLaws.{bind_ok, ok_pair}
use Rattle.fx_text.proofs.TokenLaws.{digit_too}

-- ---- bytes

-- a byte that passes a test is none that does not
passes_no : (test : ℕ → Bool) (b n : ℕ) → test n ≡ false → test b ≡ true → (b == n) ≡ false
passes_no test b n fails passes = by_same (b == n) (eqb-true b n)
  where
    by_same : (same : Bool) → (same ≡ true → b ≡ n) → same ≡ false
    by_same true h = let e : test n ≡ true = subst (λ (x : ℕ). test x ≡ true) (h refl) passes in absurd cc
    by_same false h = refl

no_space : (b : ℕ) → is_letter_or_digit b ≡ true → is_space b ≡ false
no_space b e =
    let apart = passes_no is_letter_or_digit b in
    rw (apart 32 refl e, apart 9 refl e, apart 10 refl e, apart 13 refl e) refl

inside : (b : ℕ) → is_letter_or_digit b ≡ true → is_inside b ≡ true
inside b e = rw (no_space b e) refl

all_pass : (p q : ℕ → Bool) → ((b : ℕ) → p b ≡ true → q b ≡ true) → (xs : List ℕ) → list_all p xs ≡ true → list_all q xs ≡ true
all_pass p q h [] e = refl
all_pass p q h (x ∷ xs) e = by_first (p x) refl e (all_pass p q h xs)
  where
    by_first : (b : Bool) → p x ≡ b → (b && list_all p xs) ≡ true → (list_all p xs ≡ true → list_all q xs ≡ true) → list_all q (x ∷ xs) ≡ true
    by_first true px e more = rw (h x px, more e) refl
    by_first false px e more = absurd cc

prefix_all : (p : ℕ → Bool) (xs ys : List ℕ) → list_all p xs ≡ true → prefix_len p ys ≡ 0 → prefix_len p (xs ++ ys) ≡ length xs
prefix_all p [] ys e none = none
prefix_all p (x ∷ xs) ys e none = by_first (p x) refl e (λ all. prefix_all p xs ys all none)
  where
    by_first : (b : Bool) → p x ≡ b → (b && list_all p xs) ≡ true → (list_all p xs ≡ true → prefix_len p (xs ++ ys) ≡ length xs)
        → prefix_len p (x ∷ (xs ++ ys)) ≡ length (x ∷ xs)
    by_first true px e more = rw px (let h = more e in omega arith)
    by_first false px e more = absurd cc

-- ---- numbers

ok_same : {A E : Type 0} {x y : A} → ◌≡◌ {A = Result A E} (Ok x) (Ok y) → x ≡ y
ok_same e = cc

number_read : (digits : List ℕ) (n : ℕ) → IsNumber digits n → number_of digits ≡ Ok n
number_read [] n i = absurd (let h = i.some in omega arith)
number_read (d ∷ ds) n i =
    let all = i.all in
    let fits : nat_lt (value_after 0 (d ∷ ds)) (2 ^ 64) ≡ true = lt-ltb _ _ (let e = i.value in let s = i.small in omega arith) in
    let small : nat_le (value_after 0 (d ∷ ds)) most_number ≡ true = le-leb _ _ (let e = i.value in let s = i.small in omega arith) in
    rw (all, fits, small) (ap Ok i.value)

number_spelled : (digits : List ℕ) (n : ℕ) → number_of digits ≡ Ok n → IsNumber digits n
number_spelled [] n e = absurd cc
number_spelled (d ∷ ds) n e = by_all (list_all is_digit (d ∷ ds)) refl e
  where
    v : ℕ
    v = value_after 0 (d ∷ ds)

    by_small : (b : Bool) → nat_le v most_number ≡ b → list_all is_digit (d ∷ ds) ≡ true
        → cond {A = Result ℕ TextKind} b (Ok v) (Err kind.Number) ≡ Ok n → IsNumber (d ∷ ds) n
    by_small true small all e =
        record { some = omega arith; all = all; value = ok_same e; small = let v = ok_same e in let s = leb-true _ _ small in omega arith }
    by_small false small all e = absurd cc

    by_fits : (b : Bool) → list_all is_digit (d ∷ ds) ≡ true → small_number (cond b (Number v) Misnumber) ≡ Ok n → IsNumber (d ∷ ds) n
    by_fits true all e = by_small (nat_le v most_number) refl all e
    by_fits false all e = absurd cc

    by_all : (b : Bool) → list_all is_digit (d ∷ ds) ≡ b
        → cond {A = Result ℕ TextKind} b (small_number (cond (b && nat_lt v (2 ^ 64)) (Number v) Misnumber)) (Err kind.Unwanted) ≡ Ok n → IsNumber (d ∷ ds) n
    by_all true all e = by_fits (nat_lt v (2 ^ 64)) all e
    by_all false all e = absurd cc

-- ---- words

pub word_letters : (own : List ℕ) (p : Pick) → IsWord own p → list_all is_letter_or_digit own ≡ true
word_letters own _ (step i) = all_pass is_digit is_letter_or_digit digit_too own i.all
word_letters _ _ (cancel {digits = digits} i) = all_pass is_digit is_letter_or_digit digit_too digits i.all

pub word_some : (own : List ℕ) (p : Pick) → IsWord own p → 0 < length own
word_some own _ (step i) = i.some
word_some _ _ (cancel {digits = digits} i) = omega arith

-- a word begins with no space
pub word_first : (b : ℕ) (bytes : List ℕ) (p : Pick) → IsWord (b ∷ bytes) p → is_space b ≡ false
word_first b bytes p w = by_first (is_letter_or_digit b) refl (word_letters (b ∷ bytes) p w)
  where
    by_first : (letter : Bool) → is_letter_or_digit b ≡ letter → (letter && list_all is_letter_or_digit bytes) ≡ true → is_space b ≡ false
    by_first true h e = no_space b h
    by_first false h e = absurd cc

pick_read : (own : List ℕ) (p : Pick) → IsWord own p → pick_of own ≡ Ok p
pick_read [] _ (step i) = absurd (let h = i.some in omega arith)
pick_read (d ∷ ds) _ (step {n = n} i) = rw (by_first (is_digit d) refl i.all, number_read (d ∷ ds) n i) refl
  where
    by_first : (b : Bool) → is_digit d ≡ b → (b && list_all is_digit ds) ≡ true → (d == 99) ≡ false
    by_first true h e = passes_no is_digit d 99 refl h
    by_first false h e = absurd cc
pick_read _ _ (cancel {digits = digits} {n = n} i) = rw (number_read digits n i) refl

picked_ok : (of : ℕ → Pick) (r : Result ℕ TextKind) (p : Pick) → picked of r ≡ Ok p → (n : ℕ) × (r ≡ Ok n) × (of n ≡ p)
picked_ok of (Ok n) p e = (n, refl, ok_same e)
picked_ok of (Err k) p e = absurd cc

pick_spelled : (own : List ℕ) (p : Pick) → pick_of own ≡ Ok p → IsWord own p
pick_spelled [] p e = absurd cc
pick_spelled (b ∷ bytes) p e = by_first (b == 99) (eqb-true b 99) e
  where
    by_first : (c : Bool) → (c ≡ true → b ≡ 99)
        → cond c (picked pick.Cancel (number_of bytes)) (picked pick.Step (number_of (b ∷ bytes))) ≡ Ok p → IsWord (b ∷ bytes) p
    by_first true h e =
        let n = picked_ok pick.Cancel (number_of bytes) p e in
        subst (λ (x : ℕ). IsWord (x ∷ bytes) p) (sym (h refl)) (subst (λ (q : Pick). IsWord (99 ∷ bytes) q) n.2 (cancel (number_spelled bytes n.0 n.1)))
    by_first false h e =
        let n = picked_ok pick.Step (number_of (b ∷ bytes)) p e in
        subst (λ (q : Pick). IsWord (b ∷ bytes) q) n.2 (step (number_spelled (b ∷ bytes) n.0 n.1))

-- ---- a word in its text

-- the word at the front of a text, and what is left after it
pub record HasWord (text : List ℕ) (p : Pick) (rest : List ℕ) : Type 0 where
  pub own : List ℕ
  pub is : IsWord own p
  pub ends : EndsWord rest
  pub whole : text ≡ own ++ rest

none_inside : (rest : List ℕ) → EndsWord rest → prefix_len is_inside rest ≡ 0
none_inside [] ends = refl
none_inside (b ∷ bytes) ends = rw ends refl

ends_so : (text : List ℕ) → EndsWord (drop (prefix_len is_inside text) text)
ends_so [] = tt
ends_so (b ∷ bytes) = by_space (is_space b) refl (ends_so bytes)
  where
    by_space : (space : Bool) → is_space b ≡ space → EndsWord (drop (prefix_len is_inside bytes) bytes)
        → EndsWord (drop (cond (not space) (1 + prefix_len is_inside bytes) 0) (b ∷ bytes))
    by_space true e h = e
    by_space false e h =
        let one : 1 + prefix_len is_inside bytes ≡ suc (prefix_len is_inside bytes) = omega arith in
        subst (λ (n : ℕ). EndsWord (drop n (b ∷ bytes))) (sym one) h

pub word_read : (own rest : List ℕ) (p : Pick) → IsWord own p → EndsWord rest → pick_at (own ++ rest) ≡ Ok (p, rest)
unfolding pick_at
word_read own rest p w ends =
    let letters = word_letters own p w in
    let len : prefix_len is_inside (own ++ rest) ≡ length own = prefix_all is_inside own rest
    (all_pass is_letter_or_digit is_inside inside own letters) (none_inside rest ends) in
    let fine : prefix_len is_letter_or_digit own ≡ length own = subst (λ (xs : List ℕ). prefix_len is_letter_or_digit xs ≡ length own) (append-nil own)
    (prefix_all is_letter_or_digit own [] letters refl) in
    let all : nat_lt (length own) (length own) ≡ false = le-ltb _ _ (omega arith) in
    rw (len, take-append_seam own rest, drop-append_seam own rest, fine, all, pick_read own p w) refl

pub word_spelled : (text rest : List ℕ) (p : Pick) → pick_at text ≡ Ok (p, rest) → HasWord text p rest
unfolding pick_at
word_spelled text rest p e =
    let n = prefix_len is_inside text in
    let w = bind_ok (word_at (length text) (take n text)) (λ q. Ok (q, drop n text)) (p, rest) e in
    let o = ok_pair w.0 p (drop n text) rest w.2 in
    record {
      own = take n text;
      is = by_fine (nat_lt (prefix_len is_letter_or_digit (take n text)) (length (take n text))) (w.1 ∙ ap Ok o.0);
      ends = subst (λ (l : List ℕ). EndsWord l) o.1 (ends_so text);
      whole = subst (λ (l : List ℕ). text ≡ take n text ++ l) o.1 (sym (take-append-drop n text));
    }
  where
    own : List ℕ
    own = take (prefix_len is_inside text) text

    by_pick : (r : Result Pick TextKind) → at_word (length text) r ≡ Ok p → r ≡ Ok p
    by_pick (Ok q) h = ap Ok (ok_same h)
    by_pick (Err k) h = absurd cc

    by_fine : (b : Bool) → cond {A = Result Pick Fault} b (Err (record { kind = kind.Byte; left = length text - prefix_len is_letter_or_digit own }))
        (at_word (length text) (pick_of own)) ≡ Ok p → IsWord own p
    by_fine true h = absurd cc
    by_fine false h = pick_spelled own p (by_pick (pick_of own) h)
