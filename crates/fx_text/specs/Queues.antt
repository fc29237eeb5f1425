-- The queues that a script declares.
use Rattle.std.specs.Prelude.{ℕ, ◌≤◌, List, [], ◌∷◌, length, map, codes, bytes_eq}
use Rattle.std.specs.Int.{IsInRange}
use Rattle.std.specs.List.{AllByRecursion, IsDistinct}
use Rattle.fx_text.specs.Limits.{most_queues, most_capacity}
use Rattle.fx_text.specs.Token.{Token, Open, Close, Number, Name}

-- a queue: its name, and the most elements that it may hold
abbrev pub Queue : Type 0
Queue = List ℕ × ℕ

-- their names
abbrev pub names_of : List Queue → List (List ℕ)
names_of = map λ q. q.0

-- the tokens of its declaration
abbrev pub declaration : Queue → List Token
declaration q = Open ∷ Name (codes "queue") ∷ Name q.0 ∷ Number q.1 ∷ Close ∷ []

-- a script may declare these queues: they are few, each may hold an element and not too many, and no two have the same name
pub record AreQueues (queues : List Queue) : Type 0 where
  pub few : length queues ≤ most_queues
  pub sized : AllByRecursion (λ (q : Queue). IsInRange 1 most_capacity q.1) queues
  pub distinct : IsDistinct bytes_eq (names_of queues)
