-- What a script says.
use Rattle.std.specs.Prelude.{List}
use Rattle.fx_term.specs.Term.{Term}
use Rattle.fx_text.specs.Queues.{Queue}

-- what a script says: its queues, in the order of the text, and its term
pub record Meaning : Type 0 where
  pub queues : List Queue
  pub term : Term
