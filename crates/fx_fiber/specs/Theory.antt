-- What contracts know of a port: what is of its type, and what each of its values tells.
use Rattle.std.specs.Prelude.{ℕ, Bool, List, ◌∷◌, [], ◌++◌}
use Rattle.fx_term.specs.declared.node.Node.{Node}
use Rattle.fx_fiber.specs.Deed.{Deed}
use Rattle.fx_fiber.specs.StampedDeed.{StampedDeed, stamped_deed}
use Rattle.fx_fiber.specs.Calls.{PortCalls}
use Rattle.fx_fiber.specs.PortFacts.{Facts}

-- the nodes of the code; a number above that of each fiber; the numbers of the fibers that may be requested from outside; what each call does; and of each port
-- whose it is and how far its fiber has come by it, and what it says of that fiber's deeds
pub record Theory (P S : Type 0) : Type 1 where
  pub code : List Node
  pub total : ℕ
  pub may : ℕ → Bool
  pub calls : PortCalls P S
  pub facts : P → Facts
  pub agrees : P → List StampedDeed → Type 0

-- the port agrees with one more deed, which has this number
abbrev pub HasDone : {P S : Type 0} → Theory P S → Deed → ℕ → P → P → Type 0
HasDone theory deed number old new = (deeds : List StampedDeed) → theory.agrees old deeds → theory.agrees new (deeds ++ stamped_deed deed number ∷ [])

-- the port agrees with the deeds as before
abbrev pub HasDoneNothing : {P S : Type 0} → Theory P S → P → P → Type 0
HasDoneNothing theory old new = (deeds : List StampedDeed) → theory.agrees old deeds → theory.agrees new deeds
