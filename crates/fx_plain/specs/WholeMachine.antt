-- The whole machine: all fibers of a script, the requests, and the queues.
use Rattle.std.specs.Prelude.{◌≡◌, ℕ, ◌+◌, ◌<◌, ◌≤◌, nat_lt, Bool, true, false, Option, Some, None, List, [], ◌∷◌, ◌++◌, length, drop}
use Rattle.std.specs.Prelude.{slice_index}
use Rattle.fx_term.specs.declared.outcome.Outcome.{Outcome}
use Rattle.fx_term.specs.declared.event.Event.TheVariants as event
use Rattle.fx_term.specs.Element.{Element}
use Rattle.fx_term.specs.Maps.{with_at}
use Rattle.fx_term.specs.Script.{ScriptView, total}
use Rattle.fx_term.specs.Queue.{values_put}
use Rattle.fx_model.specs.Row.{Counts, Label, Shows, Learns, Starts}
use Rattle.fx_model.specs.Origin.{Origin}
use Rattle.fx_model.specs.Step.{Progress, Runs, looks_first, Step}
use Rattle.fx_model.specs.Run.{first_counts, events}
use Rattle.fx_model.specs.Origin.{main_origin}
use Rattle.fx_model.specs.Outside.{Outside, outcome_at, can_step}
use Rattle.fx_model.specs.NeedLeft.{TakesItsRange}
use Rattle.fx_plain.specs.MachineStamps.{MachineStamps, no_stamps, stamps_after}

-- a fiber that has started: who started it, what it began with, and the labels of its steps; what it keeps beside its term, and how far it is
pub record StartedFiber : Type 0 where
  pub parent : Option ℕ
  pub origin : Origin
  pub labels : List Label
  pub counts : Counts
  pub progress : Progress

-- the fibers by number, none where it has not started; which are requested, and which of these from outside; the queues by number, from front to back; and the
-- stamps
pub record WholeMachine : Type 0 where
  pub fibers : ℕ → Option StartedFiber
  pub requested : ℕ → Bool
  pub from_outside : ℕ → Bool
  pub queues : ℕ → List Element
  pub stamps : MachineStamps

-- a fiber before its first step
abbrev pub begun : Option ℕ → Origin → StartedFiber
begun parent b = record { parent = parent; origin = b; labels = []; counts = first_counts b; progress = Runs b.term }

-- the whole machine before any step: the main fiber has started, nobody is requested, and the queues are empty
abbrev pub opening : ScriptView → WholeMachine
opening s = record {
  fibers = with_at 0 (Some (begun None (main_origin s.term))) (λ f. None);
  requested = λ f. false;
  from_outside = λ f. false;
  queues = λ q. [];
  stamps = no_stamps;
}

abbrev pub outcome_of_fiber : Option StartedFiber → Option Outcome
outcome_of_fiber None = None
outcome_of_fiber (Some x) = outcome_at x.progress

abbrev pub outcome_of : WholeMachine → ℕ → Option Outcome
outcome_of m f = outcome_of_fiber (m.fibers f)

abbrev pub has_room : ScriptView → WholeMachine → ℕ → Bool
has_room s m q = nat_lt (length (m.queues q)) (slice_index s.capacities q)

-- what the fibers see outside themselves
abbrev pub outside_of : ScriptView → WholeMachine → Outside
outside_of s m = record {
  outcome = outcome_of m;
  has_room = has_room s m;
  has_element = λ q. nat_lt 0 (length (m.queues q));
  is_requested = m.requested;
}

abbrev pub can_step_fiber : Outside → ℕ → Option StartedFiber → Bool
can_step_fiber o f None = false
can_step_fiber o f (Some x) = can_step o f x.counts x.progress

-- the fiber has started and can step
abbrev pub can_step_in : ScriptView → WholeMachine → ℕ → Bool
can_step_in s m f = can_step_fiber (outside_of s m) f (m.fibers f)

-- no fiber can step
abbrev pub IsSettled : ScriptView → WholeMachine → Type 0
IsSettled s m = (f : ℕ) → can_step_in s m f ≡ false

abbrev pub front : List Element → Option ℕ
front [] = None
front (x ∷ xs) = Some x.value

-- what the label of a step says of the outside is so: the outcome that it needs, a queue with room or a front, a full one, an empty one, a request
abbrev pub IsAnswered : ScriptView → WholeMachine → ℕ → Label → Type 0
IsAnswered s m f (Learns g o e) = outcome_of m g ≡ Some o
IsAnswered s m f (Shows (event.Put q n)) = has_room s m q ≡ true
IsAnswered s m f (Shows (event.Got q n)) = front (m.queues q) ≡ Some n
IsAnswered s m f (Shows (event.Refused q)) = has_room s m q ≡ false
IsAnswered s m f (Shows (event.Empty q)) = m.queues q ≡ []
IsAnswered s m f (Shows event.Seen) = m.requested f ≡ true
IsAnswered s m f _ = Unit {0}

-- what a step of fiber f with this label leaves: the fiber that it starts, the request that it makes, the element that it puts, as the fiber's next, or takes
abbrev pub fibers_after : ℕ → Label → (ℕ → Option StartedFiber) → ℕ → Option StartedFiber
fibers_after f (Starts g b) fibers = with_at g (Some (begun (Some f) b)) fibers
fibers_after f _ fibers = fibers

abbrev pub requested_after : Label → (ℕ → Bool) → ℕ → Bool
requested_after (Shows (event.Request g)) requested = with_at g true requested
requested_after _ requested = requested

-- the element that fiber f puts next into queue q, after steps with these labels
abbrev pub next_item : ℕ → List Label → ℕ → ℕ → Element
next_item f ls q n = record { fiber = f; nth = length (values_put q (events ls)); value = n }

abbrev pub queues_after : ℕ → List Label → Label → (ℕ → List Element) → ℕ → List Element
queues_after f ls (Shows (event.Put q n)) queues = with_at q (queues q ++ next_item f ls q n ∷ []) queues
queues_after f ls (Shows (event.Got q n)) queues = with_at q (drop 1 (queues q)) queues
queues_after f ls _ queues = queues

-- the fiber after a step
abbrev pub stepped : StartedFiber → Label → Counts → Progress → StartedFiber
stepped x l c p = record x { labels = x.labels ++ l ∷ []; counts = c; progress = p }

-- the whole machine after fiber f, which was x, made a step
abbrev pub moved : WholeMachine → ℕ → StartedFiber → Label → Counts → Progress → WholeMachine
moved m f x l c p = record {
  fibers = with_at f (Some (stepped x l c p)) (fibers_after f l m.fibers);
  requested = requested_after l m.requested;
  from_outside = m.from_outside;
  queues = queues_after f x.labels l m.queues;
  stamps = stamps_after m.stamps f l;
}

-- fiber f makes a step of its own; where a look comes first, a request is seen before any other step
pub record FiberSteps (s : ScriptView) (m : WholeMachine) (f : ℕ) (l : Label) (m' : WholeMachine) : Type 0 where
  pub fiber : StartedFiber
  pub started : m.fibers f ≡ Some fiber
  pub counts : Counts
  pub progress : Progress
  pub step : Step fiber.counts fiber.progress l counts progress
  pub answered : IsAnswered s m f l
  pub seen_first : looks_first fiber.counts.known fiber.progress ≡ true → m.requested f ≡ true → l ≡ Shows event.Seen
  pub after : m' ≡ moved m f fiber l counts progress

-- the whole machine after a request for fiber f from outside
abbrev pub requested_from_outside : ℕ → WholeMachine → WholeMachine
requested_from_outside f m = record m { requested = with_at f true m.requested; from_outside = with_at f true m.from_outside }

-- a step of the whole machine: one of a fiber, with its label, or a request from outside
pub data Move : Type 0 where
  Steps : ℕ → Label → Move
  Requests : ℕ → Move

-- a request may come at any time, for any number of the script
abbrev pub WholeMachineStep : ScriptView → WholeMachine → Move → WholeMachine → Type 0
WholeMachineStep s m (Steps f l) m' = FiberSteps s m f l m'
WholeMachineStep s m (Requests f) m' = (f < total s) × (m' ≡ requested_from_outside f m)

-- the steps lead from the one to the other
abbrev pub WholeMachineLeads : ScriptView → WholeMachine → List Move → WholeMachine → Type 0
WholeMachineLeads s m [] last = last ≡ m
WholeMachineLeads s m (v ∷ vs) last = (next : WholeMachine) × WholeMachineStep s m v next × WholeMachineLeads s next vs last

-- a run of the whole machine
abbrev pub IsWholeMachineRun : ScriptView → List Move → WholeMachine → Type 0
IsWholeMachineRun s vs last = WholeMachineLeads s (opening s) vs last

-- how many of the steps are those of fibers
abbrev pub steps_in : List Move → ℕ
steps_in [] = 0
steps_in (Steps f l ∷ vs) = 1 + steps_in vs
steps_in (Requests f ∷ vs) = steps_in vs

-- a start by a fiber with these counts takes its next number, which is free and one of the script's, and a range within its own, which is the script's too
pub record FindsItsNumber (s : ScriptView) (m : WholeMachine) (c : Counts) (f : ℕ) (b : Origin) : Type 0 where
  pub free : m.fibers f ≡ None
  pub below : f < total s
  pub takes : TakesItsRange c f b
  pub range : c.end ≤ total s
