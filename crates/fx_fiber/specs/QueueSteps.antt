-- What a fiber does in a step at an `offer` or a `take`, which is told with no other call of the port.
use Rattle.std.specs.Prelude.{◌≡◌, ℕ, Bool, false, ◌&&◌, Some, List, ◌++◌, slice_get}
use Rattle.fx_term.specs.declared.event.Event.TheVariants as event
use Rattle.fx_term.specs.declared.node.NodeId.{NodeId}
use Rattle.fx_term.specs.declared.node.Node.{Node}
use Rattle.fx_term.specs.declared.node.Node.TheVariants as node
use Rattle.fx_model.specs.Stamps.{one_more}
use Rattle.fx_fiber.specs.StampedRun.{stamped_event, clock_after}
use Rattle.fx_fiber.specs.Made.{label_of}
use Rattle.fx_fiber.specs.Telling.{answer_to}
use Rattle.fx_fiber.specs.declared.fiber.body.Body.{Body}
use Rattle.fx_fiber.specs.declared.machine.made.Made.{Made}
use Rattle.fx_fiber.specs.declared.machine.made.Made.TheVariants as made
use Rattle.fx_term.specs.declared.done.Done.{Done}
use Rattle.fx_fiber.specs.declared.machine.focus.Focus.{Focus}
use Rattle.fx_fiber.specs.declared.machine.focus.Focus.TheVariants.{Eval, Return}
use Rattle.fx_fiber.specs.declared.machine.Machine.{Machine}
use Rattle.fx_fiber.specs.declared.stepped.Stepped.{Stepped}
use Rattle.fx_fiber.specs.declared.stepped.Stepped.TheVariants as stepped
use Rattle.fx_fiber.specs.declared.fiber.queue_step.AtQueue.{AtQueue}
use Rattle.fx_fiber.specs.declared.fiber.queue_step.AtQueue.TheVariants as atqueue
use Rattle.fx_model.specs.declared.source.Source.{Source}
use Rattle.fx_mask.specs.Closing.{is_none_closed}
use Rattle.fx_fiber.specs.Fiber.{FiberView}
use Rattle.fx_fiber.specs.Places.{is_open_machine}
use Rattle.fx_fiber.specs.Theory.{Theory}

-- it is an `offer` or a `take`
abbrev pub IsAtQueue : Node → Type 0
IsAtQueue (node.Offer q v) = Unit {0}
IsAtQueue (node.Take q) = Unit {0}
IsAtQueue n = ⊥

-- what is told by its event alone: no start, whose rule is yet to be made, and no end
abbrev pub IsToldAlone : Made → Type 0
IsToldAlone (made.Starts h a b) = ⊥
IsToldAlone (made.Shows (event.Ended o)) = ⊥
IsToldAlone m = Unit {0}

-- what was made so, with the clock raised so: it is told by its answer, by its event in the trace, and by the clock
pub record TellsAlone {P S : Type 0} (Does : Made → ℕ → Type 0) (answer : Stepped P S) (old new : Body) : Type 0 where
  pub made : Made
  pub raised : ℕ
  pub does : Does made raised
  pub alone : IsToldAlone made
  pub answers : answer ≡ answer_to made
  pub trace : new.trace.items ≡ old.trace.items ++ stamped_event (one_more raised) (label_of made)
  pub clock : new.clock ≡ clock_after (label_of made) raised

-- what shows an element that was put or got
abbrev pub IsPutOrGot : Made → Type 0
IsPutOrGot (made.Shows (event.Put q n)) = Unit {0}
IsPutOrGot (made.Shows (event.Got q n)) = Unit {0}
IsPutOrGot m = ⊥

-- the fiber stands with a result at the place where it stood before
pub record Returned (s s' : Machine) : Type 0 where
  pub given : Done
  pub focus : s'.focus ≡ Return given
  pub masks : s'.masks ≡ s.masks
  pub known : s'.known ≡ s.known

-- what a step at a queue tells that comes to this, where the fiber waits for that, or memory is refused so
abbrev pub TellsQueue : {P S : Type 0} → Theory P S → Source → (Made → ℕ → Type 0) → Type 0 → AtQueue → Body → Body → Type 0
TellsQueue {P} {S} theory wait Does Fails atqueue.Went old new =
    TellsAlone {P = P} {S = S} (λ (m : Made) (k : ℕ). Does m k × IsPutOrGot m) stepped.Went old new × Returned old.machine new.machine
TellsQueue {P} {S} theory wait Does Fails atqueue.Waits old new = TellsAlone {P = P} {S = S} Does (stepped.Waits wait) old new
TellsQueue theory wait Does Fails atqueue.Memory old new = Fails

-- the fiber that has this focus stands at an `offer` or a `take`, and cancellation is not due: whether it is, is given
pub record StandsAtQueue (nodes : List Node) (focus : Focus) (due : Bool) : Type 0 where
  pub id : NodeId
  pub node : Node
  pub stands : focus ≡ Eval id
  pub is_there : slice_get nodes id.0 ≡ Some node
  pub queue : IsAtQueue node
  pub free : due ≡ false

-- or with a result
pub record StandsWithResult (focus : Focus) (due : Bool) : Type 0 where
  pub given : Done
  pub stands : focus ≡ Return given
  pub free : due ≡ false

-- cancellation is due: the fiber is known to be canceled, and nothing closes the place
abbrev pub is_due : {P : Type 0} → FiberView P → Bool
is_due f = is_none_closed f.closed && f.counts.known

abbrev pub is_due_in : Machine → Bool
is_due_in s = is_open_machine s && s.known

-- that, where the element was put or got
abbrev pub OnWent : AtQueue → Type 0 → Type 0
OnWent atqueue.Went A = A
OnWent _ A = Unit {0}
