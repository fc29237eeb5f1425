-- What a fiber's seat keeps while the fiber runs.
use Rattle.std.specs.Prelude.{◌≡◌}
use Rattle.fx_word.specs.Words.{Seated}

-- the seat is the same fiber's, of the same words, and has split off and taken in the same
pub record IsSameFiber (s t : Seated) : Type 0 where
  pub table : t.table ≡ s.table
  pub id : t.view.own.id ≡ s.view.own.id
  pub parts : t.view.own.parts ≡ s.view.own.parts
  pub taken : t.view.taken ≡ s.view.taken
