-- A step at an `offer` or a `take`, and what is told by its event alone.
use Rattle.std.proofs.Common.{◌≡◌, ℕ, false, Some, refl}
use Rattle.fx_term.specs.declared.event.Event.TheVariants as event
use Rattle.fx_term.specs.declared.node.Node.{Node}
use Rattle.fx_term.specs.declared.node.Node.TheVariants as node
use Rattle.fx_fiber.specs.Leaves.{IsLeafNode, is_canceled_node}
use Rattle.fx_fiber.specs.QueueSteps.{IsAtQueue, IsToldAlone, TellsAlone}
use Rattle.fx_fiber.specs.Telling.{IsMade, TellsMade}
use Rattle.fx_fiber.specs.Theory.{Theory}
use Rattle.fx_fiber.specs.declared.fiber.body.Body.{Body}
use Rattle.fx_fiber.specs.declared.stepped.Stepped.{Stepped}
use Rattle.fx_fiber.specs.declared.machine.made.Made.{Made}
use Rattle.fx_fiber.specs.declared.machine.made.Made.TheVariants as made

pub queue_is_leaf : (n : Node) → IsAtQueue n → IsLeafNode (Some n)
queue_is_leaf (node.Offer q v) at = tt
queue_is_leaf (node.Take q) at = tt
queue_is_leaf _ at = absurd at

pub queue_is_other : (n : Node) → IsAtQueue n → false ≡ is_canceled_node n
queue_is_other node.Canceled at = absurd at
queue_is_other _ at = refl

-- what is told alone is no start, and nothing else is told of it
pub alone_is_made : (m : Made) → IsToldAlone m → IsMade m
alone_is_made (made.Starts h a b) is = absurd is
alone_is_made _ is = tt

pub alone_tells : {P S : Type 0} (theory : Theory P S) (own : ℕ) (m : Made) (p : P) (s : S) → IsToldAlone m → TellsMade theory own m p s p s
alone_tells theory own (made.Shows (event.Ended o)) p s is = absurd is
alone_tells theory own _ p s is = (refl, refl)

-- what does more is told by the same
pub tells_on : {P S : Type 0} {Does Does' : Made → ℕ → Type 0} (answer : Stepped P S) (old old' new : Body) → old'.trace.items ≡ old.trace.items
    → TellsAlone Does answer old new → ((m : Made) (k : ℕ) → Does m k → Does' m k) → TellsAlone Does' answer old' new
tells_on answer old old' new same t more = record {
  made = t.made;
  raised = t.raised;
  does = more t.made t.raised t.does;
  alone = t.alone;
  answers = t.answers;
  trace = rw same t.trace;
  clock = t.clock;
}
