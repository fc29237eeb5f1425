-- The tests at a node of a script with so many queues, where names of these kinds are in scope and the loops round it run it so many times.
use Rattle.std.specs.Prelude.{ℕ, ◌<◌, ◌≤◌, Option, None, Some, List, length, slice_get, All}
use Rattle.fx_term.specs.declared.name_kind.NameKind.{NameKind}
use Rattle.fx_term.specs.declared.node.Node.{Node}
use Rattle.fx_term.specs.declared.code.signature.Use.{Use}
use Rattle.fx_term.specs.declared.code.signature.Part.{Part}
use Rattle.fx_term.specs.Signature.{uses_of, queue_of, parts_of}
use Rattle.fx_term.specs.Turns.{HasFewInside}
use Rattle.fx_term.specs.Scope.{IsArgBelow, IsArgOf, IsBinderAt, bound_under}
use Rattle.fx_term.specs.Need.{need, most_need}
use Rattle.fx_term.specs.Meaning.{term_of}
use Rattle.fx_term.specs.Walk.{Spot}

-- what is used is a number, or a name below the bound
abbrev pub IsUseBelow : ℕ → Use → Type 0
IsUseBelow bound u = IsArgBelow bound u.arg

-- it is a number, or a name of the kind that it is used as
abbrev pub IsUseOf : (ℕ → Option NameKind) → Use → Type 0
IsUseOf scope u = IsArgOf u.kind scope u.arg

-- the binders of a part that stands in the scope of that many binders
abbrev pub IsNextBinder : ℕ → Part → Type 0
IsNextBinder bound p = IsBinderAt bound p.binder × IsBinderAt (bound_under bound p.binder) p.inner

-- a part of what is run so many times has few turns, if a loop repeats it
abbrev pub HasFewTurnsInside : ℕ → Part → Type 0
HasFewTurnsInside turns p = HasFewInside turns p.count

-- where so many names are in scope, a binder of the node has the next slot, and each slot that it uses is that of a name in scope
pub record HasRightSlots (names : ℕ) (o : Option Node) : Type 0 where
  pub binders : All (IsNextBinder names) (parts_of o)
  pub uses : All (IsUseBelow names) (uses_of o)

-- the queue that a node names, if it names one, is one of so many
abbrev pub IsQueueBelow : ℕ → Option ℕ → Type 0
IsQueueBelow queues None = Unit {0}
IsQueueBelow queues (Some q) = q < queues

-- its slots are right where so many names are in scope, and the queue that it names is one of so many
pub record HasRightNumbers (queues names : ℕ) (o : Option Node) : Type 0 where
  pub slots : HasRightSlots names o
  pub queue : IsQueueBelow queues (queue_of o)

-- each name that the node uses is of the kind that it uses it as
abbrev pub HasRightKinds : List NameKind → Option Node → Type 0
HasRightKinds kinds o = All (IsUseOf (λ x. slice_get kinds x)) (uses_of o)

-- the node's part, if it is a loop, has no more than the most turns, where the loop itself is run so many times
abbrev pub HasRightTurns : ℕ → Option Node → Type 0
HasRightTurns turns o = All (HasFewTurnsInside turns) (parts_of o)

-- the node's part has few turns, where the node is run so many times, and of fiber numbers it can use no more than the most
pub record IsWithinLimits (times numbers : ℕ) (o : Option Node) : Type 0 where
  pub turns : HasRightTurns times o
  pub need : numbers ≤ most_need

-- the node's slots and its queue are right where it stands, its names are of the right kinds, and it keeps the limits
pub record IsWellPlaced (queues : ℕ) (nodes : List Node) (s : Spot) : Type 0 where
  pub numbers : HasRightNumbers queues (length s.kinds) (slice_get nodes s.id)
  pub kinds : HasRightKinds s.kinds (slice_get nodes s.id)
  pub limits : IsWithinLimits s.turns (need (term_of nodes s.id)) (slice_get nodes s.id)
