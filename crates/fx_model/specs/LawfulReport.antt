-- Which reports a run of a script's fibers can have.
use Rattle.std.specs.Prelude.{◌≡◌, ◌≢◌, ℕ, ◌<◌, ◌==◌, Bool, true, false, if◌then◌else◌, Option, Some, None, List, [], ◌∷◌, ◌++◌, length, map}
use Rattle.std.specs.Prelude.{All, Contains}
use Rattle.std.specs.List.{filter}
use Rattle.std.specs.List.Sorted.{IsStrictlyIncreasing}
use Rattle.fx_term.specs.declared.outcome.Outcome.{Outcome}
use Rattle.fx_term.specs.declared.event.Event.{Event}
use Rattle.fx_term.specs.declared.event.Event.TheVariants as event
use Rattle.fx_term.specs.declared.queue_event.QueueEvent.{QueueEvent}
use Rattle.fx_term.specs.Script.{ScriptView, total}
use Rattle.fx_term.specs.Queue.{Leaves, cut, queue_events}
use Rattle.fx_model.specs.Row.{Counts, Label, Shows, Learns, Starts}
use Rattle.fx_model.specs.Origin.{Origin}
use Rattle.fx_model.specs.Step.{Progress, has_ended}
use Rattle.fx_model.specs.Run.{IsRun, events}
use Rattle.fx_model.specs.Origin.{main_origin}
use Rattle.fx_model.specs.Outside.{can_step}
use Rattle.fx_model.specs.Report.{FiberReportView, ReportView, fiber_in, parent_in, trace_in, left_in, capacity_of, is_requested_in, final_outside}

abbrev pub is_start_of : ℕ → Event → Bool
is_start_of f (event.Start g) = g == f
is_start_of f _ = false

-- how often a trace starts the fiber
abbrev pub starts_of : ℕ → List Event → ℕ
starts_of f es = length (filter (is_start_of f) es)

abbrev pub is_parent : Option ℕ → ℕ → Bool
is_parent None g = false
is_parent (Some p) g = p == g

-- the fibers are 0 and those that a Start names, each once, and in the trace of its parent
pub record HasStarters (r : ReportView) : Type 0 where
  pub ascending : IsStrictlyIncreasing (map (λ (x : FiberReportView). x.id) r.fibers)
  pub main : (x : FiberReportView) × (fiber_in r 0 ≡ Some x) × (x.parent ≡ None)
  pub others : (f : ℕ) (x : FiberReportView) → fiber_in r f ≡ Some x → f ≢ 0
      → (p : ℕ) × (y : FiberReportView) × (x.parent ≡ Some p) × (fiber_in r p ≡ Some y)
  pub once : (g : ℕ) (y : FiberReportView) → fiber_in r g ≡ Some y
      → (f : ℕ) → starts_of f y.trace ≡ (if is_parent (parent_in r f) g then 1 else 0)

-- fiber f of the report has this run of its own: its events are the trace, it ends where the report says so, and at the end the fiber cannot step; one that has
-- ended never can
pub record HasRun (s : ScriptView) (r : ReportView) (f : ℕ) (x : FiberReportView) (b : Origin) (ls : List Label) (c : Counts) (p : Progress) : Type 0 where
  pub run : IsRun b ls c p
  pub trace : events ls ≡ x.trace
  pub state : has_ended p ≡ x.has_ended
  pub unable : can_step (final_outside s r) f c p ≡ false

-- each fiber has a run of its own, from what that fiber began with
pub record HasRuns (s : ScriptView) (r : ReportView) : Type 0 where
  pub origin : ℕ → Origin
  pub labels : ℕ → List Label
  pub counts : ℕ → Counts
  pub progress : ℕ → Progress
  pub run : (f : ℕ) (x : FiberReportView) → fiber_in r f ≡ Some x → HasRun s r f x (origin f) (labels f) (counts f) (progress f)

-- the fiber that a start starts begins as that says
abbrev pub BeginsAs : (ℕ → Origin) → Label → Type 0
BeginsAs origin (Starts g b) = origin g ≡ b
BeginsAs origin _ = Unit {0}

-- the main fiber began with the script's term, and each other one with what its parent's run gives it
pub record HasOrigins (s : ScriptView) (r : ReportView) (runs : HasRuns s r) : Type 0 where
  pub main : runs.origin 0 ≡ main_origin s.term
  pub child : (f : ℕ) (x : FiberReportView) → fiber_in r f ≡ Some x → All (BeginsAs runs.origin) (runs.labels f)

-- a legal history of the queue, whose cut to each fiber is what its trace does there, with no event of a fiber outside the report, and whose rest is what is
-- left; so nothing is put into a queue that holds no elements, as one that is not declared, nor taken out of it
pub record HasHistory (r : ReportView) (q capacity : ℕ) : Type 0 where
  pub history : List QueueEvent
  pub leaves : Leaves capacity history (left_in r q)
  pub cuts : (f : ℕ) → cut f history ≡ queue_events q f (trace_in r f)

-- the trace ends with that end
pub record EndsWith (trace : List Event) (o : Outcome) : Type 0 where
  pub before : List Event
  pub is : trace ≡ before ++ event.Ended o ∷ []

-- a fiber whose outcome a step needs is in the report, and its trace ends with that outcome
abbrev pub IsLearnt : ReportView → Label → Type 0
IsLearnt r (Learns f o e) = EndsWith (trace_in r f) o
IsLearnt r _ = Unit {0}

-- a fiber that saw a request was requested
abbrev pub IsSeenRightly : ReportView → ℕ → Label → Type 0
IsSeenRightly r f (Shows event.Seen) = is_requested_in r f ≡ true
IsSeenRightly r f _ = Unit {0}

-- a lawful report, where these numbers may be requested from outside
pub record IsLawfulReport (s : ScriptView) (may_be_requested : ℕ → Bool) (r : ReportView) : Type 0 where
  pub starters : HasStarters r
  pub runs : HasRuns s r
  pub origins : HasOrigins s r runs
  pub left_by_queue : length r.left ≡ length s.capacities
  pub histories : (q : ℕ) → HasHistory r q (capacity_of s q)
  pub learnt : (f : ℕ) (x : FiberReportView) → fiber_in r f ≡ Some x → All (IsLearnt r) (runs.labels f)
  pub seen : (f : ℕ) (x : FiberReportView) → fiber_in r f ≡ Some x → All (IsSeenRightly r f) (runs.labels f)
  pub outside_ascending : IsStrictlyIncreasing r.outside
  pub outside_named : (f : ℕ) → Contains r.outside f → (f < total s) × (may_be_requested f ≡ true)
