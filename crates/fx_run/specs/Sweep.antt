-- What a sweep looks at: what fibers have come to between two rounds.
use Rattle.std.specs.Prelude.{◌≡◌, ◌==◌, ◌||◌, cond, ℕ, Bool, false, not, Option, List, [], length, map, All}
use Rattle.std.specs.List.{filter, flat_map, list_any, range_with_len}
use Rattle.std.specs.List.Sorted.{IsStrictlyIncreasing}
use Rattle.fx_term.specs.declared.node.Node.{Node}
use Rattle.fx_term.specs.declared.event.Event.{Event}
use Rattle.fx_term.specs.declared.outcome.Outcome.{Outcome}
use Rattle.fx_term.specs.Script.{ScriptView, total}
use Rattle.fx_model.specs.declared.closed.Closed.{Closed}
use Rattle.fx_model.specs.Closed.{outside_of}
use Rattle.fx_model.specs.Outside.{Outside, outside_of_lists, can_step}
use Rattle.fx_model.specs.Report.{outcome_shown, is_request_for}
use Rattle.fx_fiber.specs.Fiber.{FiberView, progress}
use Rattle.fx_fiber.specs.Theory.{Theory}
use Rattle.fx_port.specs.Marks.{is_marked}
use Rattle.fx_port.specs.PortView.{PortView}
use Rattle.fx_run.specs.Flows.{rests_of}

-- how many elements each queue can have and has, and by number how each fiber ended, if it has, and who is requested
pub record ClosedLists : Type 0 where
  pub caps : List ℕ
  pub rests : List ℕ
  pub outcomes : List (Option Outcome)
  pub requested : List Bool

abbrev pub lists_of : Closed → ClosedLists
lists_of c = record { caps = c.caps.items; rests = c.rests.items; outcomes = c.outcomes.items; requested = c.requested.items }

-- the events of all traces, and those of the fiber with this number
abbrev pub events_of : List (FiberView PortView) → List Event
events_of fs = flat_map (λ (x : FiberView PortView). x.trace) fs

abbrev pub events_by : ℕ → List (FiberView PortView) → List Event
events_by f fs = flat_map (λ (x : FiberView PortView). cond (x.port.words.own.id == f) x.trace []) fs

-- some trace requests the fiber, or some port noted that it was requested from outside
abbrev pub is_requested_by : List (FiberView PortView) → ℕ → Bool
is_requested_by fs f = list_any (λ (x : FiberView PortView). list_any (is_request_for f) x.trace || is_marked x.port.noted f) fs

-- what the fibers of a script's run have come to: what all traces together leave in each queue, and of each number how the trace of that fiber ends, and
-- whether it is requested
abbrev pub closed_of : ScriptView → List (FiberView PortView) → ClosedLists
closed_of s fs = record {
  caps = s.capacities;
  rests = rests_of (length s.capacities) (events_of fs);
  outcomes = map (λ f. outcome_shown (events_by f fs)) (range_with_len 0 (total s));
  requested = map (is_requested_by fs) (range_with_len 0 (total s));
}

abbrev pub outside_at : ClosedLists → Outside
outside_at c = outside_of_lists c.caps c.rests c.outcomes c.requested

-- the fiber can step by these lists
abbrev pub can_go : List Node → ClosedLists → FiberView PortView → Bool
can_go nodes c f = can_step (outside_at c) f.port.words.own.id f.counts (progress nodes f)

abbrev pub is_unable : List Node → ClosedLists → FiberView PortView → Bool
is_unable nodes c f = not (can_go nodes c f)

-- the same of a fiber over a port of any kind
abbrev pub can_go_by : {P S : Type 0} → Theory P S → Closed → FiberView P → Bool
can_go_by theory c f = can_step (outside_of c) (theory.facts f.port).number f.counts (progress theory.code f)

abbrev pub is_unable_by : {P S : Type 0} → Theory P S → Closed → FiberView P → Bool
is_unable_by theory c f = not (can_go_by theory c f)

-- none of the fibers can step by what they have come to
abbrev pub NoneCanGo : List Node → ScriptView → List (FiberView PortView) → Type 0
NoneCanGo nodes s fs = All (λ (f : FiberView PortView). can_go nodes (closed_of s fs) f ≡ false) fs

-- these can step and those cannot, by what all fibers between two rounds have come to, which rise by number
pub record IsSwept (nodes : List Node) (s : ScriptView) (able unable : List (FiberView PortView)) : Type 0 where
  pub fibers : List (FiberView PortView)
  pub ascending : IsStrictlyIncreasing (map (λ (f : FiberView PortView). f.port.words.own.id) fibers)
  pub able_are : able ≡ filter (can_go nodes (closed_of s fibers)) fibers
  pub unable_are : unable ≡ filter (is_unable nodes (closed_of s fibers)) fibers
