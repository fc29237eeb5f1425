-- The gate of one turn.
use Rattle.std.specs.Prelude.{ℕ}

-- how many turns begin before the one that it waits for, and whom it names then
pub record AtView : Type 0 where
  pub turn : ℕ
  pub id : ℕ
