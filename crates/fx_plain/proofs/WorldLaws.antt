-- The world after a step stands for the whole machine after it.
use Rattle.std.proofs.Common.{◌≡◌, ℕ, zero, suc, ◌<◌, Bool, true, false, Option, Some, None, List, length, refl, sym, ◌∙◌, ap, arith, inl, inr}
use Rattle.std.proofs.Common.{get_or-set_same, get_or-set_other, length-set}
use Rattle.std.specs.Prelude.{option_map, slice_index_or, slice_set}
use Rattle.std.proofs.lemmas.Bool.{cases_eq}
use Rattle.std.proofs.lemmas.List.{length-replicate}
use Rattle.fx_term.specs.declared.outcome.Outcome.{Outcome}
use Rattle.fx_term.specs.declared.event.Event.TheVariants as event
use Rattle.fx_term.specs.Element.{elements_of}
use Rattle.fx_term.specs.Need.{need}
use Rattle.fx_term.specs.Script.{ScriptView, total}
use Rattle.fx_model.specs.Origin.{Origin, main_origin}
use Rattle.fx_model.specs.Row.{Counts, Label, Silent, Shows, Learns, Starts}
use Rattle.fx_model.specs.Step.{Progress, Step}
use Rattle.fx_model.specs.Outside.{outcome_at}
use Rattle.fx_model.proofs.RangeLaws.{step_need}
use Rattle.fx_model.proofs.StepLabels.{StartsNext, step_tells}
use Rattle.fx_model.proofs.OutcomeLaws.{end_of, step_end_of, no_step_after_end}
use Rattle.fx_term.specs.Maps.{with_at}
use Rattle.fx_plain.specs.WholeMachine.{StartedFiber, WholeMachine, begun, opening, outcome_of_fiber, outcome_of, fibers_after}
use Rattle.fx_plain.specs.WholeMachine.{requested_after, IsAnswered, stepped}
use Rattle.fx_plain.specs.WholeMachine.{moved, requested_from_outside}
use Rattle.fx_plain.specs.World.{WorldView, is_requested_in, outcome_in, after_request_from_outside, world_after}
use Rattle.fx_plain.specs.World.{HeldFiber, held_of, with_child, held_after}
use Rattle.fx_plain.specs.World.{StandsFor, opening_world, opening_held}
use Rattle.fx_term.proofs.MapLaws.{at_that, at_other}
use Rattle.fx_plain.proofs.Maps.{replicated}
use Rattle.fx_plain.proofs.RangesKept.{fresh}
use Rattle.fx_plain.proofs.LawfulRuns.{IsKept}
use Rattle.fx_plain.proofs.WorldQueues.{capacities_after, items_after, opening_capacities, opening_items}

module _ (s : ScriptView) (w : WorldView) (held : List (Option HeldFiber)) (m : WholeMachine) (stands : StandsFor s w held m) (kept : IsKept s m)
    (f : ℕ) (x : StartedFiber) (d : Counts) (q : Progress) (at : m.fibers f ≡ Some x) (stamp : ℕ) where
  lt : f < total s
  lt = kept.ranges.started_below f x at

  child_below : (g : ℕ) (b : Origin) → Step x.counts x.progress (Starts g b) d q → g < total s
  child_below g b st =
      let t : StartsNext x.counts d g b = (step_tells st).takes in
      let need = step_need st in
      let room = kept.ranges.room f x at in
      let all = kept.ranges.below_total f x at in
      let p = t.number in let p1 = t.next in let p2 = t.end in let p3 = t.after in
      omega arith

  length_with_child : (l : Label) → length (with_child f l held) ≡ length held
  length_with_child (Starts g b) = length-set held g (Some (held_of (begun (Some f) b)))
  length_with_child Silent = refl
  length_with_child (Shows e) = refl
  length_with_child (Learns g o e) = refl

  others_after : (l : Label) → Step x.counts x.progress l d q → (h : ℕ)
      → slice_index_or (with_child f l held) h None ≡ option_map held_of (fibers_after f l m.fibers h)
  others_after (Starts g b) st h = elim (cases_eq h g) [
    | inl same ↦
        ap (λ (k : ℕ). slice_index_or (slice_set held g (Some (held_of (begun (Some f) b)))) k None) same
        ∙ get_or-set_same held g (Some (held_of (begun (Some f) b))) None (let p = child_below g b st in let n = stands.held_long in omega arith)
        ∙ sym (ap (option_map held_of) (at_that g (Some (begun (Some f) b)) m.fibers h same))
    | inr apart ↦
        get_or-set_other held g h (Some (held_of (begun (Some f) b))) None apart ∙ stands.fibers h
        ∙ sym (ap (option_map held_of) (at_other g (Some (begun (Some f) b)) m.fibers h apart))
  ]
  others_after Silent st h = stands.fibers h
  others_after (Shows e) st h = stands.fibers h
  others_after (Learns g o e) st h = stands.fibers h

  fibers_after_step : (l : Label) → Step x.counts x.progress l d q → (h : ℕ)
      → slice_index_or (held_after f x l d q held) h None ≡ option_map held_of ((moved m f x l d q).fibers h)
  fibers_after_step l st h = elim (cases_eq h f) [
    | inl same ↦
        ap (λ (k : ℕ). slice_index_or (held_after f x l d q held) k None) same
        ∙ get_or-set_same (with_child f l held) f (Some (held_of (stepped x l d q))) None
        (let n = stands.held_long in let e = length_with_child l in let p = lt in omega arith)
        ∙ sym (ap (option_map held_of) (at_that f (Some (stepped x l d q)) (fibers_after f l m.fibers) h same))
    | inr apart ↦
        get_or-set_other (with_child f l held) f h (Some (held_of (stepped x l d q))) None apart ∙ others_after l st h
        ∙ sym (ap (option_map held_of) (at_other f (Some (stepped x l d q)) (fibers_after f l m.fibers) h apart))
  ]

  requested_after_step : (l : Label) (h : ℕ) → h < total s → is_requested_in (world_after f x.labels stamp l w) h ≡ requested_after l m.requested h
  requested_after_step (Shows (event.Request g)) h below = elim (cases_eq h g) [
    | inl same ↦
        ap (λ (k : ℕ). slice_index_or (slice_set w.requested g true) k false) same
        ∙ get_or-set_same w.requested g true false (let n = stands.requested_long in omega arith) ∙ sym (at_that g true m.requested h same)
    | inr apart ↦ get_or-set_other w.requested g h true false apart ∙ stands.requested h below ∙ sym (at_other g true m.requested h apart)
  ]
  requested_after_step (Shows (event.Ended o)) h below = stands.requested h below
  requested_after_step (Starts g b) h below = stands.requested h below
  requested_after_step _ h below = stands.requested h below

  -- the outcomes of the other fibers are as they were
  outcome_of_other : (l : Label) → Step x.counts x.progress l d q → (h : ℕ) → (h ≡ f → ⊥) → outcome_of (moved m f x l d q) h ≡ outcome_of m h
  outcome_of_other (Starts g b) st h ne =
      ap outcome_of_fiber (at_other f (Some (stepped x (Starts g b) d q)) (fibers_after f (Starts g b) m.fibers) h ne) ∙ elim (cases_eq h g) [
        | inl same ↦
            ap outcome_of_fiber (at_that g (Some (begun (Some f) b)) m.fibers h same)
            ∙ sym (ap outcome_of_fiber (ap m.fibers same ∙ fresh s m f x d q at kept.ranges (Starts g b) st))
        | inr apart ↦ ap outcome_of_fiber (at_other g (Some (begun (Some f) b)) m.fibers h apart)
      ]
  outcome_of_other Silent st h ne = ap outcome_of_fiber (at_other f (Some (stepped x Silent d q)) m.fibers h ne)
  outcome_of_other (Shows e) st h ne = ap outcome_of_fiber (at_other f (Some (stepped x (Shows e) d q)) m.fibers h ne)
  outcome_of_other (Learns g o e) st h ne = ap outcome_of_fiber (at_other f (Some (stepped x (Learns g o e) d q)) m.fibers h ne)

  -- a fiber that steps had no outcome
  none_before : (l : Label) → Step x.counts x.progress l d q → outcome_of m f ≡ None
  none_before l st = ap outcome_of_fiber at ∙ by_outcome (outcome_at x.progress) refl
    where
      by_outcome : (o : Option Outcome) → outcome_at x.progress ≡ o → outcome_at x.progress ≡ None
      by_outcome None e = e
      by_outcome (Some o) e = absurd (no_step_after_end o st e)

  own_outcome : (l : Label) → Step x.counts x.progress l d q → outcome_in (world_after f x.labels stamp l w) f ≡ end_of l
  own_outcome (Shows (event.Ended o)) st = get_or-set_same w.outcomes f (Some o) None (let n = stands.outcomes_long in let p = lt in omega arith)
  own_outcome (Shows (event.Request g)) st = stands.outcomes f ∙ none_before (Shows (event.Request g)) st
  own_outcome (Starts g b) st = stands.outcomes f ∙ none_before (Starts g b) st
  own_outcome l st = stands.outcomes f ∙ none_before l st

  other_outcome : (l : Label) (h : ℕ) → (h ≡ f → ⊥) → outcome_in (world_after f x.labels stamp l w) h ≡ outcome_in w h
  other_outcome (Shows (event.Ended o)) h ne = get_or-set_other w.outcomes f h (Some o) None ne
  other_outcome (Shows (event.Request g)) h ne = refl
  other_outcome (Starts g b) h ne = refl
  other_outcome _ h ne = refl

  outcomes_after_step : (l : Label) → Step x.counts x.progress l d q → (h : ℕ)
      → outcome_in (world_after f x.labels stamp l w) h ≡ outcome_of (moved m f x l d q) h
  outcomes_after_step l st h = elim (cases_eq h f) [
    | inl same ↦
        ap (outcome_in (world_after f x.labels stamp l w)) same ∙ own_outcome l st ∙ sym (step_end_of st)
        ∙ sym (ap outcome_of_fiber (at_that f (Some (stepped x l d q)) (fibers_after f l m.fibers) h same))
    | inr apart ↦ other_outcome l h apart ∙ stands.outcomes h ∙ sym (outcome_of_other l st h apart)
  ]

  -- what a step leaves as it was, and as long
  record Keeps (w' : WorldView) : Type 0 where
    pub from_outside : w'.from_outside ≡ w.from_outside
    pub requested_long : length w'.requested ≡ length w.requested
    pub outcomes_long : length w'.outcomes ≡ length w.outcomes

  keeps : (l : Label) → Keeps (world_after f x.labels stamp l w)
  keeps (Shows (event.Request g)) = record { from_outside = refl; requested_long = length-set w.requested g true; outcomes_long = refl }
  keeps (Shows (event.Ended o)) = record { from_outside = refl; requested_long = refl; outcomes_long = length-set w.outcomes f (Some o) }
  keeps (Starts g b) = record { from_outside = refl; requested_long = refl; outcomes_long = refl }
  keeps _ = record { from_outside = refl; requested_long = refl; outcomes_long = refl }

  -- the world after a step stands for the whole machine after it
  pub stands_after : (l : Label) → Step x.counts x.progress l d q → IsAnswered s m f l
      → StandsFor s (world_after f x.labels stamp l w) (held_after f x l d q held) (moved m f x l d q)
  stands_after l st answered =
      let k = keeps l in
      record {
        held_long = length-set (with_child f l held) f (Some (held_of (stepped x l d q))) ∙ length_with_child l ∙ stands.held_long;
        requested_long = k.requested_long ∙ stands.requested_long;
        outside_long = ap length k.from_outside ∙ stands.outside_long;
        outcomes_long = k.outcomes_long ∙ stands.outcomes_long;
        fibers = fibers_after_step l st;
        requested = requested_after_step l;
        from_outside = λ h below. ap (λ (bs : List Bool). slice_index_or bs h false) k.from_outside ∙ stands.from_outside h below;
        outcomes = outcomes_after_step l st;
        capacities = capacities_after s m w.queues stands.capacities stands.queues w refl f x.labels stamp l;
        queues = items_after s m w.queues stands.capacities stands.queues w refl f x.labels stamp l answered;
      }

-- the world after a request from outside stands for the whole machine after it
pub stands_after_request : (s : ScriptView) (w : WorldView) (held : List (Option HeldFiber)) (m : WholeMachine) (f : ℕ) → f < total s
    → StandsFor s w held m → StandsFor s (after_request_from_outside f w) held (requested_from_outside f m)
stands_after_request s w held m f lt stands = record {
  held_long = stands.held_long;
  requested_long = length-set w.requested f true ∙ stands.requested_long;
  outside_long = length-set w.from_outside f true ∙ stands.outside_long;
  outcomes_long = stands.outcomes_long;
  fibers = stands.fibers;
  requested = λ h below. set_as w.requested m.requested stands.requested_long h (stands.requested h below);
  from_outside = λ h below. set_as w.from_outside m.from_outside stands.outside_long h (stands.from_outside h below);
  outcomes = stands.outcomes;
  capacities = stands.capacities;
  queues = stands.queues;
}
  where
    set_as : (bs : List Bool) (map : ℕ → Bool) → length bs ≡ total s → (h : ℕ) → slice_index_or bs h false ≡ map h
        → slice_index_or (slice_set bs f true) h false ≡ with_at f true map h
    set_as bs map long h e = elim (cases_eq h f) [
      | inl same ↦
          ap (λ (k : ℕ). slice_index_or (slice_set bs f true) k false) same ∙ get_or-set_same bs f true false (omega arith)
          ∙ sym (at_that f true map h same)
      | inr apart ↦ get_or-set_other bs f h true false apart ∙ e ∙ sym (at_other f true map h apart)
    ]

-- the world before any step stands for the whole machine before any step
pub opening_stands : (s : ScriptView) → StandsFor s (opening_world s) (opening_held s) (opening s)
opening_stands s = record {
  held_long = (let e = length-replicate {A = Option HeldFiber} (need s.term) None in omega arith);
  requested_long = length-replicate (total s) false;
  outside_long = length-replicate (total s) false;
  outcomes_long = length-replicate (total s) None;
  fibers = fiber_at;
  requested = λ f lt. replicated (total s) f false;
  from_outside = λ f lt. replicated (total s) f false;
  outcomes = λ f. replicated (total s) f None ∙ no_outcome f;
  capacities = opening_capacities s.capacities;
  queues = λ q. ap elements_of (opening_items s.capacities q);
}
  where
    fiber_at : (f : ℕ) → slice_index_or (opening_held s) f None ≡ option_map held_of ((opening s).fibers f)
    fiber_at zero = refl
    fiber_at (suc f) = replicated (need s.term) f None
        ∙ sym (ap (option_map held_of) (at_other 0 (Some (begun None (main_origin s.term))) (λ g. None) (suc f) (λ e. omega arith)))

    no_outcome : (f : ℕ) → None ≡ outcome_of (opening s) f
    no_outcome zero = refl
    no_outcome (suc f) = sym (ap outcome_of_fiber (at_other 0 (Some (begun None (main_origin s.term))) (λ g. None) (suc f) (λ e. omega arith)))
