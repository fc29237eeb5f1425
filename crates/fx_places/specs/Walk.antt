-- What is known on the way through a text.
use Rattle.std.specs.Prelude.{ℕ, IfSome, All, List}
use Rattle.fx_term.specs.declared.node.Node.{Node}
use Rattle.fx_places.specs.declared.group.Group.{Group}
use Rattle.fx_places.specs.declared.walk.Walk.{Walk}
use Rattle.fx_places.specs.Places.{IsFormPlace, AreMadeFrom}

-- where the group is a form, it stands in the text there
abbrev pub IsGroupIn : List ℕ → Group → Type 0
IsGroupIn text group = IfSome group.place (IsFormPlace text)

-- so it is with all groups that are open, and with the places so far, which are those of the first nodes
pub record IsWalk (text : List ℕ) (nodes : List Node) (walk : Walk) : Type 0 where
  pub groups : All (IsGroupIn text) walk.open.items
  pub forms : All (IsFormPlace text) walk.places.items
  pub made : AreMadeFrom nodes 0 walk.places.items
