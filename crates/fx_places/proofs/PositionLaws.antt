-- Where the bytes after one stand.
use Rattle.std.proofs.Common.{◌≡◌, ◌==◌, ℕ, ◌+◌, Bool, true, false, List, [], ◌∷◌, ◌++◌, if◌then◌else◌, refl, sym, ◌∙◌, ap, length, ◌≤◌, arith, append_assoc}
use Rattle.fx_text.specs.declared.position.Position.{Position}
use Rattle.fx_places.specs.Position.{line_after, column_after}
use Rattle.fx_places.specs.Places.{StandsAt}

-- where both branches of a test are the same
same_by : (test : Bool) (a b c d : ℕ) → a ≡ c → b ≡ d → (if test then a else b) ≡ (if test then c else d)
same_by true a b c d e f = e
same_by false a b c d e f = f

-- a test before a call, or after it
line_of_test : (test : Bool) (m n : ℕ) (before bytes : List ℕ)
    → line_after (if test then line_after m before else line_after n before) bytes
    ≡ (if test then line_after (line_after m before) bytes else line_after (line_after n before) bytes)
line_of_test true m n before bytes = refl
line_of_test false m n before bytes = refl

column_of_test : (test : Bool) (m n : ℕ) (before bytes : List ℕ)
    → column_after (if test then column_after m before else column_after n before) bytes
    ≡ (if test then column_after (column_after m before) bytes else column_after (column_after n before) bytes)
column_of_test true m n before bytes = refl
column_of_test false m n before bytes = refl

line_more : (n : ℕ) (before bytes : List ℕ) → line_after n (before ++ bytes) ≡ line_after (line_after n before) bytes
line_more n [] bytes = refl
line_more n (b ∷ before) bytes =
    same_by (b == 10) _ _ _ _ (line_more (n + 1) before bytes) (line_more n before bytes) ∙ sym (line_of_test (b == 10) (n + 1) n before bytes)

column_more : (n : ℕ) (before bytes : List ℕ) → column_after n (before ++ bytes) ≡ column_after (column_after n before) bytes
column_more n [] bytes = refl
column_more n (b ∷ before) bytes =
    same_by (b == 10) _ _ _ _ (column_more 1 before bytes) (column_more (n + 1) before bytes) ∙ sym (column_of_test (b == 10) 1 (n + 1) before bytes)

-- neither grows by more than one at a byte
line_near : (n b : ℕ) → line_after n (b ∷ []) ≤ n + 1
line_near n b = near (b == 10)
  where
    near : (feed : Bool) → (if feed then n + 1 else n) ≤ n + 1
    near true = omega arith
    near false = omega arith

column_near : (n b : ℕ) → column_after n (b ∷ []) ≤ n + 1
column_near n b = near (b == 10)
  where
    near : (feed : Bool) → (if feed then 1 else n + 1) ≤ n + 1
    near true = omega arith
    near false = omega arith

-- so they stay below the length of the text
pub line_within : (here next b bound : ℕ) (rest inside : List ℕ) → next ≡ line_after here (b ∷ []) → rest ≡ b ∷ inside → here + length rest ≤ bound
    → next + length inside ≤ bound
line_within here next b bound rest inside e is h = omega (arith, e, line_near here b, ap (λ (bytes : List ℕ). length bytes) is)

pub column_within : (here next b bound : ℕ) (rest inside : List ℕ) → next ≡ column_after here (b ∷ []) → rest ≡ b ∷ inside → here + length rest ≤ bound
    → next + length inside ≤ bound
column_within here next b bound rest inside e is h = omega (arith, e, column_near here b, ap (λ (bytes : List ℕ). length bytes) is)

-- a text stands at its begin
pub stands_first : (text : List ℕ) → StandsAt text text (record { line = 1; column = 1 })
stands_first text = record { before = []; is = refl; line = refl; column = refl }

-- and what follows a byte stands one byte later
pub stands_next : (text rest : List ℕ) (byte : ℕ) (here next : Position) → next.line ≡ line_after here.line (byte ∷ [])
    → next.column ≡ column_after here.column (byte ∷ []) → StandsAt text (byte ∷ rest) here → StandsAt text rest next
stands_next text rest byte here next line column at = record {
  before = at.before ++ byte ∷ [];
  is = at.is ∙ sym (append_assoc at.before (byte ∷ []) rest);
  line = line ∙ ap (λ (n : ℕ). line_after n (byte ∷ [])) at.line ∙ sym (line_more 1 at.before (byte ∷ []));
  column = column ∙ ap (λ (n : ℕ). column_after n (byte ∷ [])) at.column ∙ sym (column_more 1 at.before (byte ∷ []));
}
