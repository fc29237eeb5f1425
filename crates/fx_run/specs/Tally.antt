-- What fibers have done between two rounds, one after the other.
use Rattle.std.specs.Prelude.{ℕ, List, [], ◌∷◌, length}
use Rattle.fx_term.specs.declared.event.Event.{Event}
use Rattle.fx_term.specs.Script.{ScriptView, total}
use Rattle.fx_fiber.specs.Fiber.{FiberView}
use Rattle.fx_port.specs.PortView.{PortView}
use Rattle.fx_run.specs.Ledger.{LedgerView, empty_ledger, with_event, with_events, with_trace, with_marks}
use Rattle.fx_run.specs.Flows.{FlowsView, no_flows, with_move, with_moves}

-- what traces say by fiber number, and what the queues' counters have
pub record TallyView : Type 0 where
  pub ledger : LedgerView
  pub flows : FlowsView

-- nothing is done yet in a script's run
abbrev pub empty_tally : ScriptView → TallyView
empty_tally s = record { ledger = empty_ledger (total s); flows = no_flows (length s.capacities) }

-- the fiber of this number showed this, and all of these
abbrev pub with_shown : ℕ → Event → TallyView → TallyView
with_shown id e t = record { ledger = with_event id e t.ledger; flows = with_move e t.flows }

abbrev pub with_all_shown : ℕ → List Event → TallyView → TallyView
with_all_shown id es t = record { ledger = with_events id es t.ledger; flows = with_moves es t.flows }

-- the fiber is there, with its trace and what its port noted from outside
abbrev pub with_live : FiberView PortView → TallyView → TallyView
with_live f t = record {
  ledger = with_marks 0 f.port.noted (with_trace f.port.words.own.id f.trace t.ledger);
  flows = with_moves f.trace t.flows;
}

abbrev pub with_lives : List (FiberView PortView) → TallyView → TallyView
with_lives [] t = t
with_lives (f ∷ fs) t = with_lives fs (with_live f t)
