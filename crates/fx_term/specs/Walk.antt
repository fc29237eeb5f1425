-- The walk through a tree: its nodes from the root down, each with the names in whose scope it stands.
use Rattle.std.specs.Prelude.{ℕ, zero, suc, ◌-◌, Bool, true, false, Option, Some, None, List, [], ◌∷◌, ◌++◌, length, map, slice_get}
use Rattle.std.specs.List.{flat_map}
use Rattle.fx_term.specs.declared.name_kind.NameKind.{NameKind}
use Rattle.fx_term.specs.declared.name_kind.NameKind.TheVariants as kind
use Rattle.fx_term.specs.declared.node.Node.{Node}
use Rattle.fx_term.specs.declared.code.signature.Part.{Part}
use Rattle.fx_term.specs.Scope.{kind_elsewhere}
use Rattle.fx_term.specs.Signature.{parts_of}
use Rattle.fx_term.specs.Turns.{turns_inside}

-- a node, the kinds of the names in scope there, the outermost first (a name is the place of its kind in the list), and how often the loops round it run it
pub record Spot : Type 0 where
  pub id : ℕ
  pub kinds : List NameKind
  pub turns : ℕ

-- the names in scope in a part that runs in another fiber, or in the same one
abbrev pub kinds_inside : Bool → List NameKind → List NameKind
kinds_inside true kinds = map kind_elsewhere kinds
kinds_inside false kinds = kinds

-- the names in scope under a binder
abbrev pub kinds_under : Option ℕ → NameKind → List NameKind → List NameKind
kinds_under None k kinds = kinds
kinds_under (Some x) k kinds = kinds ++ k ∷ []

-- the names in scope in a part: its own binders stand in the fiber that runs it
abbrev pub kinds_of_part : Part → List NameKind → List NameKind
kinds_of_part p kinds = kinds_under p.inner kind.Value (kinds_under p.binder p.kind (kinds_inside p.elsewhere kinds))

-- a part of a node that stands there, and is run so many times
abbrev pub spot_of : List NameKind → ℕ → Part → Spot
spot_of kinds turns p = record { id = p.node.0; kinds = kinds_of_part p kinds; turns = turns_inside turns p.count }

-- the parts of a node in the order of the text, each where it stands
abbrev pub spots_below : Option Node → List NameKind → ℕ → List Spot
spots_below o kinds turns = map (spot_of kinds turns) (parts_of o)

-- a node and what stands below it, a parent before its children, that many levels deep
unfoldable pub walk : ℕ → List Node → Spot → List Spot
walk zero nodes s = []
walk (suc depth) nodes s = s ∷ flat_map (walk depth nodes) (spots_below (slice_get nodes s.id) s.kinds s.turns)

-- the same at all its levels: children stand before their parents, so there are at most as many as its number and one
unfoldable pub spots_from : List Node → Spot → List Spot
spots_from nodes s = walk (suc s.id) nodes s

-- all nodes of a tree, from its root, which is the last node, in no binder's scope, and run once
abbrev pub spots : List Node → List Spot
spots nodes = spots_from nodes (record { id = length nodes - 1; kinds = []; turns = 1 })
