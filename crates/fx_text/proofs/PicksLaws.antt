-- Reading picks word by word.
use Rattle.std.proofs.Common.{◌≡◌, ℕ, suc, ◌-◌, ◌<◌, ◌≤◌, true, Result, Ok, Err, List, [], ◌∷◌, ◌++◌, length, refl, sym, ap, ◌∙◌, append_assoc}
use Rattle.std.proofs.Common.{append-nil, length-append, arith}
use Rattle.std.specs.List.{list_all}
use Rattle.fx_text.specs.declared.pick.Pick.{Pick}
use Rattle.fx_text.specs.declared.fault.Fault.{Fault}
use Rattle.fx_text.specs.declared.fault.ReadError.{ReadError}
use Rattle.fx_text.specs.declared.fault.ReadError.TheVariants as errors
use Rattle.fx_text.specs.declared.fault.TextKind.TheVariants as kind
use Rattle.fx_text.specs.Limits.{most_picks}
use Rattle.fx_text.specs.Token.{is_digit, number, after_spaces}
use Rattle.fx_text.specs.Reading.{◌>>=◌}
use Rattle.fx_text.specs.Given.{Fails}
use Rattle.fx_text.specs.Schedule.{number_of, small_number, pick_at, picks_at}

-- the number of digits is that of their token
pub number_of_digits : (digits : List ℕ) → 0 < length digits → list_all is_digit digits ≡ true → number_of digits ≡ small_number (number digits)
number_of_digits [] some all = absurd (omega arith)
number_of_digits (d ∷ ds) some all = rw all refl

-- the picks before, and then those that are read
abbrev pub after : List Pick → Result (List Pick) Fault → Result (List Pick) Fault
after before read = read >>= λ ps. Ok (before ++ ps)

after_none : (read : Result (List Pick) Fault) → after [] read ≡ read
after_none (Ok ps) = refl
after_none (Err f) = refl

after_more : (before : List Pick) (p : Pick) (read : Result (List Pick) Fault) → after before (after (p ∷ []) read) ≡ after (before ++ p ∷ []) read
after_more before p (Ok ps) = ap Ok (sym (append_assoc before (p ∷ []) ps))
after_more before p (Err f) = refl

picks_none : (rest : List ℕ) → length rest ≡ 0 → (left : ℕ) → picks_at left rest ≡ Ok []
unfolding picks_at
picks_none [] none left = refl
picks_none (b ∷ bytes) none left = absurd (omega (none, arith))

module _ (rest : List ℕ) (some : 0 < length rest) where
  -- a word more is read where one may come
  pub picks_more : (left : ℕ) (p : Pick) (more : List ℕ) → pick_at rest ≡ Ok (p, more)
      → picks_at (suc left) rest ≡ after (p ∷ []) (picks_at left (after_spaces more))
  unfolding picks_at
  picks_more left p more e = by_text rest some e
    where
      by_text : (text : List ℕ) → 0 < length text → pick_at text ≡ Ok (p, more)
          → picks_at (suc left) text ≡ after (p ∷ []) (picks_at left (after_spaces more))
      by_text [] none e = absurd (omega arith)
      by_text (b ∷ bytes) some e = rw e refl

  picks_fail : (left : ℕ) (f : Fault) → pick_at rest ≡ Err f → picks_at (suc left) rest ≡ Err f
  unfolding picks_at
  picks_fail left f e = by_text rest some e
    where
      by_text : (text : List ℕ) → 0 < length text → pick_at text ≡ Err f → picks_at (suc left) text ≡ Err f
      by_text [] none e = absurd (omega arith)
      by_text (b ∷ bytes) some e = rw e refl

  picks_full : picks_at 0 rest ≡ Err (record { kind = kind.Size; left = length rest })
  unfolding picks_at
  picks_full = by_text rest some
    where
      by_text : (text : List ℕ) → 0 < length text → picks_at 0 text ≡ Err (record { kind = kind.Size; left = length text })
      by_text [] none = absurd (omega arith)
      by_text (b ∷ bytes) some = refl

-- ---- the loop over words

-- these picks were read, and the rest of the text is still to come
pub record Goes (text : List ℕ) (before : List Pick) (rest : List ℕ) : Type 0 where
  pub few : length before ≤ most_picks
  pub read : picks_at most_picks (after_spaces text) ≡ after before (picks_at (most_picks - length before) rest)

pub begins : (text : List ℕ) → Goes text [] (after_spaces text)
begins text = record { few = omega arith; read = sym (after_none _) }

module _ {text : List ℕ} {before : List Pick} {rest : List ℕ} (g : Goes text before rest) where
  pub ends : length rest ≡ 0 → picks_at most_picks (after_spaces text) ≡ Ok before
  ends none = g.read ∙ ap (after before) (picks_none rest none _) ∙ ap Ok (append-nil before)

  module _ (some : 0 < length rest) where
    pub too_many : length before ≡ most_picks
        → picks_at most_picks (after_spaces text) ≡ Err (record { kind = kind.Size; left = length rest })
    too_many full =
        let no : most_picks - length before ≡ 0 = omega arith in
        g.read ∙ ap (λ (n : ℕ). after before (picks_at n rest)) no ∙ ap (after before) (picks_full rest some)

    module _ (fewer : length before < most_picks) where
      one_left : most_picks - length before ≡ suc (most_picks - suc (length before))
      one_left = omega arith

      pub fails : (e : ReadError) → Fails e (pick_at rest) → Fails e (picks_at most_picks (after_spaces text))
      fails errors.Memory h = tt
      fails (errors.Fault f) h = g.read ∙ ap (λ (n : ℕ). after before (picks_at n rest)) one_left ∙ ap (after before) (picks_fail rest some _ f h)

      pub goes_on : (p : Pick) (more : List ℕ) → pick_at rest ≡ Ok (p, more) → Goes text (before ++ p ∷ []) (after_spaces more)
      goes_on p more h =
          let len : length (before ++ p ∷ []) ≡ suc (length before) = omega (arith, length-append before (p ∷ [])) in
          let one = picks_more rest some (most_picks - suc (length before)) p more h in
          record {
            few = omega arith;
            read = g.read ∙ ap (λ (n : ℕ). after before (picks_at n rest)) one_left ∙ ap (after before) one ∙ after_more before p _
                ∙ ap (λ (n : ℕ). after (before ++ p ∷ []) (picks_at (most_picks - n) (after_spaces more))) (sym len);
          }
