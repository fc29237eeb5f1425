-- What the term of a node is, said by the node's signature: one law for each property. Of the laws on trees and walks these alone look at the forms.
use Rattle.std.proofs.Common.{◌≡◌, ℕ, ◌≤◌, Bool, true, false, Option, Some, refl, arith}
use Rattle.std.specs.List.{AllByRecursion}
use Rattle.fx_term.specs.declared.name_kind.NameKind.{NameKind}
use Rattle.fx_term.specs.declared.name_kind.NameKind.TheVariants as kind
use Rattle.fx_term.specs.declared.node.Node.{Node}
use Rattle.fx_term.specs.declared.node.Node.TheVariants as node
use Rattle.fx_term.specs.declared.code.signature.Part.{Part}
use Rattle.fx_term.specs.Signature.{uses, queue_named, parts}
use Rattle.fx_term.specs.QueuesNamed.{NamesQueuesBelow}
use Rattle.fx_term.specs.Term.{Term}
use Rattle.fx_term.specs.Scope.{IsNew, bound_under, with_named, elsewhere, HasLevels, IsScoped}
use Rattle.fx_term.specs.Turns.{turns_inside, HasFewTurns}
use Rattle.fx_term.specs.WellPlaced.{IsUseBelow, IsUseOf, IsNextBinder, IsQueueBelow, HasFewTurnsInside}
use Rattle.fx_term.specs.Need.{need, most_need, NeedsFew}
use Rattle.fx_term.specs.NodeNeed.{need_of_node}
use Rattle.fx_term.specs.Meaning.{assemble}

-- the scope in a part that runs in another fiber, or in the same one
abbrev pub scope_inside : Bool → (ℕ → Option NameKind) → ℕ → Option NameKind
scope_inside true scope = elsewhere scope
scope_inside false scope = scope

module _ (term : ℕ → Term) where
  -- each binder has the number of binders in whose scope it stands, and each name is below the bound
  module _ (bound : ℕ) where
    abbrev pub HasPartLevels : Part → Type 0
    HasPartLevels p = IsNextBinder bound p × HasLevels (bound_under (bound_under bound p.binder) p.inner) (term p.node.0)

    pub node_levels : (n : Node) → AllByRecursion (IsUseBelow bound) (uses n) → AllByRecursion HasPartLevels (parts n)
        → HasLevels bound (assemble (Some n) term)
    node_levels node.Canceled us ps = tt
    node_levels _ us ps = assumption

    pub levels_of_node : (n : Node) → HasLevels bound (assemble (Some n) term)
        → AllByRecursion (IsUseBelow bound) (uses n) × AllByRecursion HasPartLevels (parts n)
    levels_of_node node.Canceled h = (tt, tt)
    levels_of_node _ h = assumption

  -- each name is in scope and of its kind, and no binder binds a name that is in scope
  module _ (scope : ℕ → Option NameKind) where
    abbrev pub IsPartScoped : Part → Type 0
    IsPartScoped p =
        let there = with_named p.binder p.kind (scope_inside p.elsewhere scope) in
        IsNew (scope_inside p.elsewhere scope) p.binder × IsNew there p.inner × IsScoped (with_named p.inner kind.Value there) (term p.node.0)

    pub node_scoped : (n : Node) → AllByRecursion (IsUseOf scope) (uses n) → AllByRecursion IsPartScoped (parts n)
        → IsScoped scope (assemble (Some n) term)
    node_scoped node.Canceled us ps = tt
    node_scoped _ us ps = assumption

    pub scoped_of_node : (n : Node) → IsScoped scope (assemble (Some n) term)
        → AllByRecursion (IsUseOf scope) (uses n) × AllByRecursion IsPartScoped (parts n)
    scoped_of_node node.Canceled h = (tt, tt)
    scoped_of_node _ h = assumption

  -- no loop's part has too many turns
  module _ (turns : ℕ) where
    abbrev pub HasPartFewTurns : Part → Type 0
    HasPartFewTurns p = HasFewTurnsInside turns p × HasFewTurns (turns_inside turns p.count) (term p.node.0)

    pub node_turns : (n : Node) → AllByRecursion HasPartFewTurns (parts n) → HasFewTurns turns (assemble (Some n) term)
    node_turns node.Canceled ps = tt
    node_turns _ ps = assumption

    pub turns_of_node : (n : Node) → HasFewTurns turns (assemble (Some n) term) → AllByRecursion HasPartFewTurns (parts n)
    turns_of_node node.Canceled h = tt
    turns_of_node _ h = assumption

  -- each part can use few fiber numbers
  abbrev pub NeedsFewInside : Part → Type 0
  NeedsFewInside p = NeedsFew (term p.node.0)

  pub node_needs_few : (n : Node) → need (assemble (Some n) term) ≤ most_need → AllByRecursion NeedsFewInside (parts n) → NeedsFew (assemble (Some n) term)
  node_needs_few node.Canceled few ps = tt
  node_needs_few _ few ps = assumption

  pub few_of_node : (n : Node) → NeedsFew (assemble (Some n) term) → AllByRecursion NeedsFewInside (parts n)
  few_of_node node.Canceled h = tt
  few_of_node _ h = assumption

  -- itself and each part name queues below a number
  module _ (queues : ℕ) where
    abbrev pub NamesBelowInside : Part → Type 0
    NamesBelowInside p = NamesQueuesBelow queues (term p.node.0)

    pub node_names_below : (n : Node) → IsQueueBelow queues (queue_named n) → AllByRecursion NamesBelowInside (parts n)
        → NamesQueuesBelow queues (assemble (Some n) term)
    node_names_below node.Canceled q ps = tt
    node_names_below _ q ps = assumption

    pub names_of_node : (n : Node) → NamesQueuesBelow queues (assemble (Some n) term)
        → IsQueueBelow queues (queue_named n) × AllByRecursion NamesBelowInside (parts n)
    names_of_node node.Canceled h = (tt, tt)
    names_of_node _ h = assumption

  -- how many it can use itself
  pub need_is : (n : Node) → need (assemble (Some n) term) ≡ need_of_node (λ id. need (term id)) n
  need_is (node.Pure a) = refl
  need_is _ = omega arith

-- a node's term depends on the terms of its parts alone
pub node_same : (n : Node) (f g : ℕ → Term) → AllByRecursion (λ (p : Part). f p.node.0 ≡ g p.node.0) (parts n) → assemble (Some n) f ≡ assemble (Some n) g
node_same node.Canceled f g h = refl
node_same _ f g h = cc
