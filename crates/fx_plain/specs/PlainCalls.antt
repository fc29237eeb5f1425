-- The ports of the fibers of one thread, and what their calls answer and change.
use Rattle.std.specs.Prelude.{◌≡◌, ℕ, Bool, true, false, Option, Some, None, List, [], slice_index, sum}
use Rattle.fx_term.specs.declared.begin.Begin.{Begin}
use Rattle.fx_term.specs.declared.item.Item.{Item}
use Rattle.fx_term.specs.declared.node.Node.{Node}
use Rattle.fx_term.specs.declared.offered.Offered.{Offered}
use Rattle.fx_term.specs.declared.offered.Offered.TheVariants.{Done, Full}
use Rattle.fx_term.specs.declared.outcome.Outcome.{Outcome}
use Rattle.fx_fiber.specs.Calls.{PortCalls, first_range, range_after}
use Rattle.fx_fiber.specs.PortFacts.{Facts}
use Rattle.fx_fiber.specs.Theory.{Theory}
use Rattle.fx_model.specs.Origin.{main_begin_of}
use Rattle.fx_model.specs.Row.{Range}
use Rattle.fx_model.specs.declared.source.Source.{Source}
use Rattle.fx_plain.specs.PlainQueue.{queue_at, have_room, IsFront}
use Rattle.fx_plain.specs.NumberSet.{IsLeastOf}
use Rattle.fx_plain.specs.PutCounts.{one_more_put}
use Rattle.fx_plain.specs.World.{WorldView, is_ready_in, is_requested_in, asked_in, outcome_in, ended_in, after_request}
use Rattle.fx_plain.specs.World.{after_request_from_outside, after_start, after_end, after_put, after_take}

-- a port: its fiber's number, what that began with, the numbers that it has left, how many elements it has put into each queue, and whether its end was
-- told
pub record PortView : Type 0 where
  pub number : ℕ
  pub beginning : Begin
  pub range : Range
  pub put_counts : List ℕ
  pub has_finished : Bool

abbrev pub facts_of : PortView → Facts
facts_of = λ p. record {
  number = p.number;
  beginning = p.beginning;
  range = p.range;
  has_finished = p.has_finished;
  puts = sum p.put_counts;
}

-- the port of a fiber that begins so
abbrev pub new_port : ℕ → Begin → PortView
new_port f begin = record { number = f; beginning = begin; range = first_range begin; put_counts = []; has_finished = false }

-- the element that it puts next into queue q, by an event with this stamp
abbrev pub next_of : PortView → ℕ → ℕ → ℕ → Item
next_of p q n stamp = record { fiber = p.number; nth = slice_index p.put_counts q; value = n; stamp = stamp }

-- the calls of these ports, over this world: a request that is seen has the greatest stamp of those so far, an end that is learnt its own, and an element that
-- is taken that of its put
abbrev pub LooksIn : PortView → WorldView → Option ℕ → PortView → WorldView → Type 0
LooksIn p w (Some stamp) p' w' = (is_requested_in w p.number ≡ true) × (p' ≡ p) × (w' ≡ w) × (asked_in w p.number ≡ stamp)
LooksIn p w None p' w' = (is_requested_in w p.number ≡ false) × (p' ≡ p) × (w' ≡ w)

abbrev pub RequestsIn : PortView → WorldView → ℕ → ℕ → PortView → WorldView → Type 0
RequestsIn p w g stamp p' w' = (p' ≡ p) × (w' ≡ after_request g stamp w)

abbrev pub PeeksIn : PortView → WorldView → ℕ → Option (Outcome × ℕ) → PortView → WorldView → Type 0
PeeksIn p w g (Some end) p' w' = (outcome_in w g ≡ Some end.0) × (p' ≡ p) × (w' ≡ w) × (ended_in w g ≡ end.1)
PeeksIn p w g None p' w' = (outcome_in w g ≡ None) × (p' ≡ p) × (w' ≡ w)

abbrev pub OffersIn : PortView → WorldView → ℕ → ℕ → ℕ → Offered → PortView → WorldView → Type 0
OffersIn p w q n stamp Done p' w' =
    (have_room w.queues q ≡ true) × (p' ≡ record p { put_counts = one_more_put q p.put_counts }) × (w' ≡ after_put q (next_of p q n stamp) w)
OffersIn p w q n stamp Full p' w' = (have_room w.queues q ≡ false) × (p' ≡ p) × (w' ≡ w)

abbrev pub TakesIn : PortView → WorldView → ℕ → Option (ℕ × ℕ) → PortView → WorldView → Type 0
TakesIn p w q (Some element) p' w' = IsFront element.0 element.1 (queue_at w.queues q).items × (p' ≡ p) × (w' ≡ after_take q w)
TakesIn p w q None p' w' = ((queue_at w.queues q).items ≡ []) × (p' ≡ p) × (w' ≡ w)

abbrev pub StartsIn : PortView → WorldView → ℕ → Begin → PortView → PortView → WorldView → Type 0
StartsIn p w g begin child p' w' = (child ≡ new_port g begin) × (p' ≡ record p { range = range_after begin p.range }) × (w' ≡ after_start g w)

abbrev pub FinishesIn : PortView → WorldView → Outcome → ℕ → PortView → WorldView → Type 0
FinishesIn p w o stamp p' w' = (p' ≡ record p { has_finished = true }) × (w' ≡ after_end p.number o stamp w)

abbrev pub OutsidesIn : PortView → WorldView → ℕ → PortView → WorldView → Type 0
OutsidesIn p w g p' w' = (p' ≡ p) × (w' ≡ after_request_from_outside g w)

-- nobody is registered, and nobody woken: who has the fibers tries those that are ready
abbrev pub WaitsIn : PortView → WorldView → Source → PortView → WorldView → Type 0
WaitsIn p w source p' w' = (p' ≡ p) × (w' ≡ w)

-- a fiber goes on where it is the least one that is ready
abbrev pub GoesOnIn : PortView → WorldView → Type 0
GoesOnIn p w = IsLeastOf (is_ready_in w) (Some p.number)

abbrev pub WakesIn : WorldView → Option ℕ → WorldView → Type 0
WakesIn w woken w' = (woken ≡ None) × (w' ≡ w)

abbrev pub plain_calls : PortCalls PortView WorldView
plain_calls = record {
  looks = LooksIn;
  requests = RequestsIn;
  peeks = PeeksIn;
  offers = OffersIn;
  takes = TakesIn;
  starts = StartsIn;
  finishes = FinishesIn;
  outsides = OutsidesIn;
  waits = WaitsIn;
  goes_on = GoesOnIn;
  wakes = WakesIn;
}

-- these ports, of fibers that run that code: the calls say all, and each number may be requested from outside
abbrev pub plain_theory : List Node → Theory PortView WorldView
plain_theory nodes = record {
  code = nodes;
  total = (main_begin_of nodes).end;
  may = λ id. true;
  calls = plain_calls;
  facts = facts_of;
  agrees = λ port deeds. Unit {0};
}
