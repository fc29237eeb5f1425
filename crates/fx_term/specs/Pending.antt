-- The nodes that a walk has still to look at, as spots.
use Rattle.std.specs.Prelude.{◌≡◌, ℕ, ◌≤◌, if◌then◌else◌, Option, Some, None, option_map, List, [], ◌∷◌, ◌++◌, length, map, take, drop, reverse}
use Rattle.fx_term.specs.declared.name_kind.NameKind.{NameKind}
use Rattle.fx_term.specs.declared.name_kind.NameKind.TheVariants as kind
use Rattle.fx_term.specs.declared.code.signature.Part.{Part}
use Rattle.fx_term.specs.declared.code.walk.Pending.{Pending}
use Rattle.fx_term.specs.Scope.{kind_elsewhere}
use Rattle.fx_term.specs.Turns.{turns_inside}
use Rattle.fx_term.specs.Walk.{Spot}

-- the kinds with that of one more name, if there is one
abbrev pub with_own : Option NameKind → List NameKind → List NameKind
with_own None path = path
with_own (Some k) path = path ++ k ∷ []

-- the kinds of the names in scope at a pending node, where those round it begin this list
abbrev pub path_to : List NameKind → Pending → List NameKind
path_to path p = with_own p.inner (with_own p.own (take p.outer path))

-- the kinds as a fiber sees them, where so many of the names, the outermost ones, are in scope outside of it
abbrev pub seen_past : ℕ → List NameKind → List NameKind
seen_past foreign kinds = map kind_elsewhere (take foreign kinds) ++ drop foreign kinds

-- the spot of a pending node
abbrev pub spot_at : List NameKind → Pending → Spot
spot_at path p = record { id = p.node.0; kinds = seen_past p.foreign (path_to path p); turns = p.turns }

-- of the pending nodes of a stack each has no fewer names round it than those below, and none has more than so many; its fiber began inside no more than these
abbrev pub AreNested : ℕ → List Pending → ℕ → Type 0
AreNested least [] most = least ≤ most
AreNested least (p ∷ stack) most = (least ≤ p.outer) × (p.foreign ≤ p.outer) × AreNested p.outer stack most

-- the kind of the name that is bound in a part, if one is
abbrev pub own_of : Part → Option NameKind
own_of p = option_map (λ x. p.kind) p.binder

-- the kind of the name that is bound in it inside of that one, if one is
abbrev pub inner_of : Part → Option NameKind
inner_of p = option_map (λ x. kind.Value) p.inner

-- a part of a node as a pending one, where names of these kinds are in scope at the node: they are all outside of a fiber that the node starts for the part
abbrev pub under : List NameKind → Pending → Part → Pending
under path parent p = record {
  node = p.node;
  outer = length path;
  foreign = if p.elsewhere then length path else parent.foreign;
  own = own_of p;
  inner = inner_of p;
  turns = turns_inside parent.turns p.count;
}

-- the spots of these parts are on the stack, the first one uppermost, and nothing below has changed
pub record ArePushed (path : List NameKind) (ps : List Spot) (old new : List Pending) : Type 0 where
  pub spots : map (spot_at path) new ≡ map (spot_at path) old ++ reverse ps
  pub nested : AreNested 0 old (length path) → AreNested 0 new (length path)
