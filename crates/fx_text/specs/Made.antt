-- The nodes that a form makes of its parts.
use Rattle.std.specs.Prelude.{◌≡◌, ℕ, ◌+◌, ◌≤◌, List, [], ◌∷◌, length}
use Rattle.fx_term.specs.declared.node.NodeId.{NodeId}
use Rattle.fx_term.specs.declared.node.Node.{Node}
use Rattle.fx_term.specs.Term.{Term}
use Rattle.fx_term.specs.Meaning.{term_of}
use Rattle.fx_text.specs.declared.reader.Reader.{Reader}
use Rattle.fx_text.specs.Limits.{most_nodes}
use Rattle.fx_text.specs.Needs.{AreMade}
use Rattle.fx_text.specs.Trees.{AllBelow, GrowsBy, Keeps}
use Rattle.fx_text.specs.ReaderState.{ids}

-- the parts have nodes, and there is room for so many more
pub record CanMake (count : ℕ) (r : Reader) (parts : List NodeId) : Type 0 where
  pub made : AreMade r.nodes.items r.needs.items
  pub below : AllBelow (length r.nodes.items) (ids parts)
  pub room : length r.nodes.items + count ≤ most_nodes

-- of the parts this term was made, by no more nodes than so many
pub record Makes (count : ℕ) (old new : Reader) (parts : List NodeId) (t : Term) (root : ℕ) : Type 0 where
  pub names : new.names.items ≡ old.names.items
  pub place : new.place ≡ old.place
  pub made : AreMade new.nodes.items new.needs.items
  pub keeps : Keeps old.nodes.items new.nodes.items
  pub last : root + 1 ≡ length new.nodes.items
  pub paid : length new.nodes.items ≤ length old.nodes.items + count
  pub term : term_of new.nodes.items root ≡ t
  pub grows : (start : List Node) → GrowsBy start old.nodes.items (ids parts) → GrowsBy start new.nodes.items (root ∷ [])

-- of no parts this term was made, by so many nodes
pub record MakesTree (old new : Reader) (count : ℕ) (t : Term) (root : ℕ) : Type 0 where
  pub names : new.names.items ≡ old.names.items
  pub place : new.place ≡ old.place
  pub made : AreMade new.nodes.items new.needs.items
  pub keeps : Keeps old.nodes.items new.nodes.items
  pub last : root + 1 ≡ length new.nodes.items
  pub more : length new.nodes.items ≡ length old.nodes.items + count
  pub term : term_of new.nodes.items root ≡ t
  pub grows : GrowsBy old.nodes.items new.nodes.items (root ∷ [])
