-- What reading a text takes from its reader, where the bytes that the reader has left are known.
use Rattle.std.specs.Prelude.{◌≡◌, ℕ, ◌-◌, ◌≤◌, Option, List, ◌++◌, length, take, IfSome}
use Rattle.std.specs.Io.KnownBytes.{Consumes, IsAtEnd}
use Rattle.fx_report.specs.declared.answer_fault.AnswerFault.{AnswerFault}
use Rattle.fx_report.specs.declared.answer_fault.AnswerFault.TheVariants.{Read, Write, Memory}

-- the piece was taken and appended, and only at the end is it empty
pub record TakesPiece (left rest : Option (List ℕ)) (text longer : List ℕ) (n : ℕ) : Type 0 where
  pub piece : List ℕ
  pub taken : Consumes left rest piece
  pub appended : longer ≡ text ++ piece
  pub count : length piece ≡ n
  pub at_end : n ≡ 0 → IsAtEnd rest

-- these bytes were taken: the first ones of what was left, as many as are wanted, or all
pub record TakesPrefix (most : ℕ) (left rest : Option (List ℕ)) (bytes : List ℕ) : Type 0 where
  pub first : IfSome left (λ all. bytes ≡ take most all)
  pub taken : Consumes left rest bytes
  pub within : length bytes ≤ most

-- some bytes were taken, no more than these
pub record TakesAtMost (most : ℕ) (left rest : Option (List ℕ)) : Type 0 where
  pub bytes : List ℕ
  pub taken : Consumes left rest bytes
  pub within : length bytes ≤ most

-- the text is all that was left, and of it the first bytes were taken, as many as are wanted, or all
pub record ReadsText (most : ℕ) (left rest : Option (List ℕ)) (text : List ℕ) : Type 0 where
  pub all : IfSome left (λ all. text ≡ all)
  pub taken : Consumes left rest (take most text)

-- the text was not read, or not kept. With all bytes in hand that are wanted no read follows that could fail
abbrev pub FailsToRead : ℕ → AnswerFault → Option (List ℕ) → Option (List ℕ) → Type 0
FailsToRead most Read left rest = TakesAtMost (most - 1) left rest
FailsToRead most Memory left rest = TakesAtMost most left rest
FailsToRead most Write left rest = ⊥
