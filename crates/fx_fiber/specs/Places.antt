-- Where a machine stands: at a node, before a turn of a loop, or with a result in a context, and whether cancellation is the one rule there.
use Rattle.std.specs.Prelude.{◌≡◌, ℕ, ◌<◌, ◌≤◌, Bool, false, ◌&&◌, ◌||◌, Option, Some, List, [], ◌∷◌, length, slice_get}
use Rattle.fx_term.specs.declared.node.NodeId.{NodeId}
use Rattle.fx_term.specs.declared.node.Arg.{Arg}
use Rattle.fx_term.specs.declared.node.Arg.TheVariants.{Number}
use Rattle.fx_term.specs.Fill.{fill_arg}
use Rattle.fx_term.specs.declared.node.Node.{Node}
use Rattle.fx_term.specs.declared.node.Node.TheVariants as node
use Rattle.fx_term.specs.declared.done.Done.{Done}
use Rattle.fx_term.specs.declared.outcome.Outcome.{Outcome}
use Rattle.fx_term.specs.declared.outcome.Outcome.TheVariants.{Succeeded, Errored}
use Rattle.fx_term.specs.declared.outcome.Outcome.TheVariants as outcome
use Rattle.fx_term.specs.Registers.{with_number}
use Rattle.fx_mask.specs.Closing.{is_none_closed}
use Rattle.fx_frames.specs.declared.frame.Frame.{Frame}
use Rattle.fx_model.specs.Path.{is_canceled_form}
use Rattle.fx_fiber.specs.declared.machine.focus.Focus.{Focus}
use Rattle.fx_fiber.specs.declared.machine.focus.Focus.TheVariants.{Eval, Return, Turn, Await, Ended}
use Rattle.fx_fiber.specs.declared.machine.Machine.{Machine}
use Rattle.fx_fiber.specs.Machine.{inner, counts_of, progress_of}
use Rattle.fx_fiber.specs.Sound.{IsSoundMachine}
use Rattle.fx_fiber.specs.Leaves.{IsLeafNode}

-- the fiber has come no further, though it may have entered contexts
pub record IsSame (nodes : List Node) (s s' : Machine) : Type 0 where
  pub sound : IsSoundMachine nodes s'
  pub progress : progress_of nodes s' ≡ progress_of nodes s
  pub counts : counts_of s' ≡ counts_of s

-- nothing closes the place
abbrev pub is_open_machine : Machine → Bool
is_open_machine s = is_none_closed s.masks.regions

-- cancellation is the one rule: nothing closes the place, and the fiber is known to be canceled or its leaf is `canceled`
abbrev pub must_cancel_machine : List Node → Machine → Bool
must_cancel_machine nodes s = is_open_machine s && (s.known || is_canceled_form (inner nodes s.registers s.focus))

-- the fiber has not ended
abbrev pub IsGoing : Focus → Type 0
IsGoing (Ended o) = ⊥
IsGoing _ = Unit {0}

-- all contexts are entered, and what closes the place is what these close: a fiber that awaits another is sealed itself
abbrev pub IsEntered : List Node → Focus → Type 0
IsEntered nodes (Eval id) = IsLeafNode (slice_get nodes id.0)
IsEntered nodes (Await f) = ⊥
IsEntered nodes _ = Unit {0}

-- a fiber inside all contexts, at `canceled` or not
pub record IsInside (nodes : List Node) (s : Machine) (at_canceled : Bool) : Type 0 where
  pub sound : IsSoundMachine nodes s
  pub going : IsGoing s.focus
  pub entered : IsEntered nodes s.focus
  pub canceled : is_canceled_form (inner nodes s.registers s.focus) ≡ at_canceled

abbrev pub without_first : List Frame → List Frame
without_first [] = []
without_first (f ∷ outer) = outer

-- the fiber stands at this node
pub record IsEvaluating (nodes : List Node) (s : Machine) (id : NodeId) (n : Node) : Type 0 where
  pub sound : IsSoundMachine nodes s
  pub focus : s.focus ≡ Eval id
  pub node : slice_get nodes id.0 ≡ Some n

-- the same where cancellation is not the one rule
pub record StandsAt (nodes : List Node) (s : Machine) (id : NodeId) (n : Node) : Type 0 where
  pub at : IsEvaluating nodes s id n
  pub free : must_cancel_machine nodes s ≡ false

-- the fiber has come no further, and stands at a `start` of this name and these parts
pub record StandsAtStart (nodes : List Node) (s s' : Machine) (h : ℕ) (a b : NodeId) : Type 0 where
  pub same : IsSame nodes s s'
  pub id : NodeId
  pub stands : StandsAt nodes s' id (node.Start h a b)

-- the fiber stands at an `if` of this number, with these parts
pub record StandsAtIf (nodes : List Node) (s : Machine) (n : ℕ) (part other : NodeId) : Type 0 where
  pub id : NodeId
  pub value : Arg
  pub stands : StandsAt nodes s id (node.If value part other)
  pub number : fill_arg (length s.registers) s.registers value ≡ Number n

-- the fiber stands at the loop of this node, before this turn, and cancellation is not the one rule
pub record IsBeforeTurn (nodes : List Node) (s : Machine) (id : NodeId) (turn : ℕ) (n : Node) : Type 0 where
  pub sound : IsSoundMachine nodes s
  pub focus : s.focus ≡ Turn id turn
  pub node : slice_get nodes id.0 ≡ Some n
  pub free : must_cancel_machine nodes s ≡ false

-- the loop has this turn, with this name and part
pub record HasTurn (nodes : List Node) (s : Machine) (id : NodeId) (turn name : ℕ) (part : NodeId) : Type 0 where
  pub count : ℕ
  pub at : IsBeforeTurn nodes s id turn (node.For name count part)
  pub more : turn < count

-- the same fiber without its innermost context, before this turn of the loop of this node
abbrev pub after_turn : Machine → NodeId → ℕ → Machine
after_turn s id turn = record s { frames = without_first s.frames; focus = Turn id turn }

-- the loop has no turn left
pub record IsOver (nodes : List Node) (s : Machine) : Type 0 where
  pub id : NodeId
  pub turn : ℕ
  pub name : ℕ
  pub count : ℕ
  pub part : NodeId
  pub at : IsBeforeTurn nodes s id turn (node.For name count part)
  pub over : count ≤ turn

-- the node is a bracket with this name and these parts
abbrev pub IsBracketAt : List Node → NodeId → Option ℕ → NodeId → NodeId → Type 0
IsBracketAt nodes id x u r = (a : NodeId) × (slice_get nodes id.0 ≡ Some (node.Bracket x a u r))

-- the node is a `bracketcase` with this name, this use, and this release after cancellation
abbrev pub IsCaseAt : List Node → NodeId → ℕ → NodeId → NodeId → Type 0
IsCaseAt nodes id x u d =
    (a : NodeId) × (y : ℕ) × (s : NodeId) × (z : ℕ) × (e : NodeId) × (slice_get nodes id.0 ≡ Some (node.BracketCase x a u y s z e d))

-- the node is a `bracketcase` with this release, and its name, where the use succeeded
abbrev pub HasSuccess : List Node → NodeId → ℕ → NodeId → Type 0
HasSuccess nodes id y s =
    (x : ℕ) × (a : NodeId) × (u : NodeId) × (z : ℕ) × (e : NodeId) × (d : NodeId) × (slice_get nodes id.0 ≡ Some (node.BracketCase x a u y s z e d))

-- the same where the use erred
abbrev pub HasFailure : List Node → NodeId → ℕ → NodeId → Type 0
HasFailure nodes id z e =
    (x : ℕ) × (a : NodeId) × (u : NodeId) × (y : ℕ) × (s : NodeId) × (d : NodeId) × (slice_get nodes id.0 ≡ Some (node.BracketCase x a u y s z e d))

-- the fiber stands with this result, and cancellation is not the one rule
pub record IsReturning (nodes : List Node) (s : Machine) (v : Done) : Type 0 where
  pub sound : IsSoundMachine nodes s
  pub focus : s.focus ≡ Return v
  pub free : must_cancel_machine nodes s ≡ false

-- the fiber stands with this result inside this context
pub record ReturnsInto (nodes : List Node) (s : Machine) (f : Frame) (v : Done) : Type 0 where
  pub given : IsReturning nodes s v
  pub outer : List Frame
  pub frames : s.frames ≡ f ∷ outer

-- the fiber stands with this result inside no context
pub record ReturnsOut (nodes : List Node) (s : Machine) (v : Done) : Type 0 where
  pub given : IsReturning nodes s v
  pub frames : s.frames ≡ []

-- a machine that goes on after this outcome: with one of these parts, and the number of the outcome by this name
abbrev pub joined_machine : Outcome → ℕ → NodeId → NodeId → NodeId → Machine → Machine
joined_machine (Succeeded n) x a b d s = record s { registers = with_number (Some x) n s.registers; focus = Eval a }
joined_machine (Errored n) x a b d s = record s { registers = with_number (Some x) n s.registers; focus = Eval b }
joined_machine outcome.Canceled x a b d s = record s { focus = Eval d }
