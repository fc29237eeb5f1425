-- What is known of the reader after it reads the resources of `using`.
use Rattle.std.specs.Prelude.{◌≡◌, ℕ, ◌+◌, ◌*◌, ◌≤◌, List, [], ◌∷◌, ◌++◌, length, map}
use Rattle.fx_term.specs.declared.node.Node.{Node}
use Rattle.fx_term.specs.Meaning.{term_of}
use Rattle.fx_text.specs.declared.reader.Reader.{Reader}
use Rattle.fx_text.specs.declared.reader.resources.Resource.{Resource as CodeResource}
use Rattle.fx_text.specs.declared.scope.Bound.{Bound as CodeBound}
use Rattle.fx_term.specs.declared.name_kind.NameKind.TheVariants as kind
use Rattle.fx_text.specs.Group.{Resource}
use Rattle.fx_text.specs.Shape.{using}
use Rattle.fx_text.specs.Needs.{AreMade}
use Rattle.fx_text.specs.Trees.{AllBelow, GrowsBy, Keeps}

-- a resource, with the terms that the nodes stand for
abbrev pub resource_of : List Node → CodeResource → Resource
resource_of nodes r = record { name = r.name.now; slot = r.slot; acquire = term_of nodes r.acquire.0; release = term_of nodes r.release.0 }

abbrev pub resources_of : List Node → List CodeResource → List Resource
resources_of nodes = map (resource_of nodes)

-- the roots of their terms, in the order of the text
abbrev pub roots_of : List CodeResource → List ℕ
roots_of [] = []
roots_of (r ∷ rs) = r.acquire.0 ∷ r.release.0 ∷ roots_of rs

-- the names that they bind
abbrev pub bounds_of : List CodeResource → List CodeBound
bounds_of = map λ r. record { name = r.name; kind = kind.Value }

-- after resources, any number: their names are in scope too, the place is as before, and for each a byte and more was paid that is left over
pub record Binds (old new : Reader) (rs : List CodeResource) (bytes rest : List ℕ) : Type 0 where
  pub names : new.names.items ≡ old.names.items ++ bounds_of rs
  pub place : new.place ≡ old.place
  pub made : AreMade new.nodes.items new.needs.items
  pub keeps : Keeps old.nodes.items new.nodes.items
  pub below : AllBelow (length new.nodes.items) (roots_of rs)
  pub paid : length new.nodes.items + 8 * (length rest + length rs) ≤ length old.nodes.items + 8 * length bytes
  pub shorter : length rest + length rs ≤ length bytes

-- resources were made brackets round what uses them, by one node more for each
pub record Nests (old new : Reader) (rs : List CodeResource) (used root : ℕ) : Type 0 where
  pub names : new.names.items ≡ old.names.items
  pub place : new.place ≡ old.place
  pub made : AreMade new.nodes.items new.needs.items
  pub keeps : Keeps old.nodes.items new.nodes.items
  pub more : length new.nodes.items ≡ length old.nodes.items + length rs
  pub term : term_of new.nodes.items root ≡ using (resources_of old.nodes.items rs) (term_of old.nodes.items used)
  pub grows : (start : List Node) → GrowsBy start old.nodes.items (roots_of rs ++ used ∷ []) → GrowsBy start new.nodes.items (root ∷ [])
