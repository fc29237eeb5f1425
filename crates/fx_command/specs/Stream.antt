-- What a standard stream has taken.
use Rattle.std.specs.Prelude.{◌≡◌, ℕ, Bool, true, Option, List}
use Rattle.std.specs.Io.KnownBytes.{Appends}
use Rattle.fx_report.specs.Output.{WritesPrefix}

-- its bytes, where they are known, and whether it has refused a write
pub record StreamView : Type 0 where
  pub written : Option (List ℕ)
  pub has_refused : Bool

-- the text was taken whole, and no write of it was refused
pub record TakesWhole (text : List ℕ) (old new : StreamView) : Type 0 where
  pub appended : Appends old.written new.written text
  pub none_refused : new.has_refused ≡ old.has_refused

-- a prefix of the text was taken, short of its end, and then a write was refused
pub record TakesPart (text : List ℕ) (old new : StreamView) : Type 0 where
  pub part : WritesPrefix text old.written new.written
  pub refused : new.has_refused ≡ true

-- the text of some such answer was taken whole, and nothing else
pub record PrintsAnswer (IsAnswer : ℕ → List ℕ → Type 0) (status : ℕ) (old new : StreamView) : Type 0 where
  pub text : List ℕ
  pub answer : IsAnswer status text
  pub taken : TakesWhole text old new

-- a prefix of the text of some such answer was taken, and nothing else, and then a write was refused
pub record PrintsPart (IsAnswer : ℕ → List ℕ → Type 0) (old new : StreamView) : Type 0 where
  pub status : ℕ
  pub text : List ℕ
  pub answer : IsAnswer status text
  pub taken : TakesPart text old new
