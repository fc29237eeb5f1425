-- What a machine made: one rule of its place, or none where the fiber waits or is to start another.
use Rattle.std.specs.Prelude.{◌≡◌, ℕ, ◌<◌, Bool, true, false, Option, Some, None, option_and_then, List}
use Rattle.fx_term.specs.declared.node.NodeId.{NodeId}
use Rattle.fx_term.specs.declared.node.Node.{Node}
use Rattle.fx_term.specs.declared.event.Event.{Event}
use Rattle.fx_term.specs.declared.done.Done.TheVariants.{Val}
use Rattle.fx_term.specs.Term.{Cede}
use Rattle.fx_frames.specs.declared.frame.Frame.TheVariants as frame
use Rattle.fx_model.specs.Row.{Label, Silent, Shows, Learns}
use Rattle.fx_model.specs.Step.{leaf_at, must_cancel_at, Step}
use Rattle.fx_model.specs.declared.source.Source.{Source}
use Rattle.fx_model.specs.Waiting.{wait_at}
use Rattle.fx_fiber.specs.MakesStep.{is_yielding}
use Rattle.fx_fiber.specs.declared.machine.made.Made.{Made}
use Rattle.fx_fiber.specs.declared.machine.made.Made.TheVariants as made
use Rattle.fx_fiber.specs.declared.machine.focus.Focus.TheVariants.{Eval}
use Rattle.fx_fiber.specs.declared.machine.node_row.NodeRow.{NodeRow}
use Rattle.fx_fiber.specs.declared.machine.node_row.NodeRow.TheVariants as row
use Rattle.fx_fiber.specs.declared.machine.result_row.ResultRow.{ResultRow}
use Rattle.fx_fiber.specs.declared.machine.result_row.ResultRow.TheVariants as result
use Rattle.fx_fiber.specs.declared.machine.Machine.{Machine}
use Rattle.fx_fiber.specs.Leaves.{IsLeafNode, is_silent_node, is_silent_inside}
use Rattle.fx_fiber.specs.Machine.{counts_of, progress_of}
use Rattle.fx_fiber.specs.Sound.{IsSoundMachine}
use Rattle.fx_fiber.specs.Made.{IsLocal, IsOfBracket}
use Rattle.fx_fiber.specs.Places.{IsSame, ReturnsInto, StandsAtStart, after_turn}

-- one step of the rules, with this label
abbrev pub Steps : List Node → Machine → Label → Machine → Type 0
Steps nodes s label s' = Step (counts_of s) (progress_of nodes s) label (counts_of s') (progress_of nodes s')

-- the fiber waits for this: at a leaf that waits for it, with no cancellation due, and come no further
pub record WaitsFor (nodes : List Node) (s s' : Machine) (w : Source) : Type 0 where
  pub leaf : option_and_then wait_at (leaf_at (progress_of nodes s)) ≡ Some w
  pub free : must_cancel_at s.known (progress_of nodes s) ≡ false
  pub same : IsSame nodes s s'

-- what was made: no rule where the fiber waits, or where it is to start another; the rule of `cede`; or another rule
abbrev pub Makes : List Node → Machine → Made → Machine → Type 0
Makes nodes s (made.Waits w) s' = WaitsFor nodes s s' w
Makes nodes s made.Yielded s' = (leaf_at (progress_of nodes s) ≡ Some Cede) × Steps nodes s Silent s'
Makes nodes s made.Silent s' = (is_yielding (leaf_at (progress_of nodes s)) ≡ false) × Steps nodes s Silent s'
Makes nodes s (made.Shows e) s' = Steps nodes s (Shows e) s'
Makes nodes s (made.Learns f o e) s' = Steps nodes s (Learns f o e) s'
Makes nodes s (made.Starts h a b) s' = StandsAtStart nodes s s' h a b

-- a rule was made with no question to the port
pub record MakesRule (nodes : List Node) (s : Machine) (m : Made) (s' : Machine) : Type 0 where
  pub sound : IsSoundMachine nodes s'
  pub rule : Makes nodes s m s'
  pub is_local : IsLocal m

-- a rule was made that shows nothing, and is not that of `cede`
abbrev pub MakesSilently : List Node → Machine → Machine → Type 0
MakesSilently nodes s s' = MakesRule nodes s made.Silent s'

-- that, or nothing was made and nothing has changed
abbrev pub MakesIfSilent : List Node → Machine → Bool → Machine → Type 0
MakesIfSilent nodes s true s' = MakesSilently nodes s s'
MakesIfSilent nodes s false s' = s' ≡ s

-- what the row of a node did: it entered a context, and the fiber stands at the part in it, which comes before; or it made the rule of a leaf that shows
-- nothing; or nothing, at another leaf
abbrev pub DoesRow : List Node → Machine → NodeId → Node → NodeRow → Machine → Type 0
DoesRow nodes s id n (row.Entered first) s' = (IsLeafNode (Some n) → ⊥) × IsSame nodes s s' × (s'.focus ≡ Eval first) × (first.0 < id.0)
DoesRow nodes s id n row.Made s' = (is_silent_node n ≡ true) × MakesSilently nodes s s'
DoesRow nodes s id n row.Other s' = (is_silent_node n ≡ false) × IsLeafNode (Some n) × (s' ≡ s)

-- what the row of a result did: it made a rule that shows nothing; or nothing, since the value is that of a turn of a loop, before this one; or nothing, since
-- the rule shows something or ends the fiber or a clean-up
abbrev pub DoesResult : List Node → Machine → ResultRow → Machine → Type 0
DoesResult nodes s result.Made s' = (is_silent_inside s.frames ≡ true) × MakesSilently nodes s s'
DoesResult nodes s (result.Turned id turn) s' = (s' ≡ s) × (n : ℕ) × ReturnsInto nodes s (frame.Loop id turn) (Val n)
DoesResult nodes s result.Other s' = (is_silent_inside s.frames ≡ false) × (s' ≡ s)

-- the value of a turn of a loop was dropped, before this turn, and then the next rule of the loop was made
abbrev pub MakesTwo : List Node → Machine → NodeId → ℕ → Machine → Type 0
MakesTwo nodes s id turn s' = MakesSilently nodes s (after_turn s id turn) × MakesSilently nodes (after_turn s id turn) s'

-- a rule was made that shows this of a bracket
abbrev pub MakesShown : List Node → Machine → Event → Machine → Type 0
MakesShown nodes s e s' = MakesRule nodes s (made.Shows e) s' × IsOfBracket e

-- that, or nothing was made and nothing has changed
abbrev pub MakesIfShown : List Node → Machine → Option Event → Machine → Type 0
MakesIfShown nodes s (Some e) s' = MakesShown nodes s e s'
MakesIfShown nodes s None s' = s' ≡ s
