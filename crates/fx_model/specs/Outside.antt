-- What a fiber sees outside itself, and when it can step.
use Rattle.std.specs.Prelude.{ℕ, Bool, false, true, ◌&&◌, ◌||◌, nat_lt, is_some, Option, Some, None, List, slice_index, slice_index_or}
use Rattle.fx_term.specs.declared.node.Arg.{Arg}
use Rattle.fx_term.specs.declared.node.Arg.TheVariants.{Number, Slot}
use Rattle.fx_term.specs.declared.outcome.Outcome.{Outcome}
use Rattle.fx_term.specs.Term.{Term, Never, Offer, Take, Join, Await, First}
use Rattle.fx_model.specs.Path.{is_open, must_cancel, leaf}
use Rattle.fx_model.specs.Row.{Counts}
use Rattle.fx_model.specs.Step.{Progress, Runs, Unwinds, CleansUp, HasEnded}

-- the outcomes of the fibers that have ended, the queues that have room, those that have an element, and the fibers that are requested, all by number
pub record Outside : Type 0 where
  pub outcome : ℕ → Option Outcome
  pub has_room : ℕ → Bool
  pub has_element : ℕ → Bool
  pub is_requested : ℕ → Bool

-- the outcome of a fiber that is so far, if it has ended
abbrev pub outcome_at : Progress → Option Outcome
outcome_at (HasEnded o) = Some o
outcome_at _ = None

-- the fiber that the argument names has ended
abbrev pub is_ended : Outside → Arg → Bool
is_ended o (Number f) = is_some (o.outcome f)
is_ended o (Slot x) = false

-- the leaf does not wait
abbrev pub leaf_can_step : Outside → Term → Bool
leaf_can_step o Never = false
leaf_can_step o (Offer q v) = o.has_room q
leaf_can_step o (Take q) = o.has_element q
leaf_can_step o (Join f x a e b d) = is_ended o f
leaf_can_step o (Await f) = is_some (o.outcome f)
leaf_can_step o (First f g) = is_ended o f || is_ended o g
leaf_can_step o _ = true

-- fiber f can step: it has not ended, and cancellation is due, or a request can be seen, or its leaf does not wait
abbrev pub can_step : Outside → ℕ → Counts → Progress → Bool
can_step o f c (Runs t) = must_cancel c.known t || (is_open t && o.is_requested f) || leaf_can_step o (leaf t)
can_step o f c (Unwinds rest) = true
can_step o f c (CleansUp k t rest) = leaf_can_step o (leaf t)
can_step o f c (HasEnded x) = false

-- the outside by lists: the queues' capacities and lengths, and the outcomes and requests by fiber number
abbrev pub outside_of_lists : List ℕ → List ℕ → List (Option Outcome) → List Bool → Outside
outside_of_lists capacities rests outcomes requested = record {
  outcome = λ f. slice_index_or outcomes f None;
  has_room = λ q. nat_lt (slice_index rests q) (slice_index capacities q);
  has_element = λ q. nat_lt 0 (slice_index rests q);
  is_requested = λ f. slice_index_or requested f false;
}
