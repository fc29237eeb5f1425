-- What a writer holds after an answer, a status and a text of which this or that is known, was written: whole, or in part.
use Rattle.std.specs.Prelude.{ℕ, Option, List}
use Rattle.std.specs.Io.KnownBytes.{Appends}
use Rattle.fx_report.specs.Output.{WritesPrefix}

-- the text of some such answer was written whole, and nothing else
pub record WritesAnswer (IsAnswer : ℕ → List ℕ → Type 0) (status : ℕ) (old new : Option (List ℕ)) : Type 0 where
  pub text : List ℕ
  pub answer : IsAnswer status text
  pub appended : Appends old new text

-- a prefix of the text of some such answer was written, and nothing else
pub record WritesPart (IsAnswer : ℕ → List ℕ → Type 0) (old new : Option (List ℕ)) : Type 0 where
  pub status : ℕ
  pub text : List ℕ
  pub answer : IsAnswer status text
  pub part : WritesPrefix text old new
