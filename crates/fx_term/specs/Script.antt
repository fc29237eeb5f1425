-- What a script is to its runs.
use Rattle.std.specs.Prelude.{ℕ, ◌+◌, List}
use Rattle.fx_term.specs.Term.{Term}
use Rattle.fx_term.specs.Need.{need}

-- its term, and the capacities of its queues, in order
pub record ScriptView : Type 0 where
  pub term : Term
  pub capacities : List ℕ

-- its fibers have the numbers below this
abbrev pub total : ScriptView → ℕ
total s = 1 + need s.term
