-- The world that the fibers of one thread share, and the whole machine that it and they stand for.
use Rattle.std.specs.Prelude.{◌≡◌, ℕ, ◌<◌, Bool, true, false, Option, Some, None, option_map, List, ◌∷◌, length, map, max, replicate, slice_set}
use Rattle.std.specs.Prelude.{slice_index_or}
use Rattle.fx_term.specs.declared.outcome.Outcome.{Outcome}
use Rattle.fx_term.specs.declared.event.Event.{Event}
use Rattle.fx_term.specs.declared.event.Event.TheVariants as event
use Rattle.fx_term.specs.declared.item.Item.{Item}
use Rattle.fx_term.specs.Element.{Element, elements_of}
use Rattle.fx_term.specs.Need.{need}
use Rattle.fx_term.specs.Script.{ScriptView, total}
use Rattle.fx_model.specs.Origin.{Origin, main_origin}
use Rattle.fx_model.specs.Row.{Counts, Label, Shows, Starts}
use Rattle.fx_model.specs.Step.{Progress}
use Rattle.fx_model.specs.Run.{events}
use Rattle.fx_plain.specs.declared.class.Class.{Class}
use Rattle.fx_plain.specs.declared.class.Class.TheVariants.{Unstarted, Able}
use Rattle.fx_plain.specs.PlainQueue.{QueueView, empty_queue, queue_at, have_room, have_element, put_stamps, with_item, without_front}
use Rattle.fx_plain.specs.Classes.{is_ready}
use Rattle.fx_plain.specs.ClassSets.{class_at, with_request, with_end}
use Rattle.fx_plain.specs.MachineStamps.{MachineStamps}
use Rattle.fx_plain.specs.WholeMachine.{StartedFiber, WholeMachine, begun, stepped, next_item, outcome_of}

-- by fiber number: who is requested, who of these from outside, the greatest stamp of the requests that fibers made, or 0, how each ended, the stamp of
-- its end, or 0, and its class; and the queues by number
pub record WorldView : Type 0 where
  pub requested : List Bool
  pub from_outside : List Bool
  pub asked : List ℕ
  pub outcomes : List (Option Outcome)
  pub ended : List ℕ
  pub classes : List Class
  pub queues : List QueueView

abbrev pub is_requested_in : WorldView → ℕ → Bool
is_requested_in w f = slice_index_or w.requested f false

abbrev pub asked_in : WorldView → ℕ → ℕ
asked_in w f = slice_index_or w.asked f 0

abbrev pub outcome_in : WorldView → ℕ → Option Outcome
outcome_in w f = slice_index_or w.outcomes f None

abbrev pub ended_in : WorldView → ℕ → ℕ
ended_in w f = slice_index_or w.ended f 0

-- by its class the fiber is able, or waits at a queue that has what it waits for
abbrev pub is_ready_in : WorldView → ℕ → Bool
is_ready_in w f = is_ready (have_room w.queues) (have_element w.queues) (class_at w.classes f)

-- the world in which the fiber is requested
abbrev pub with_mark : ℕ → WorldView → WorldView
with_mark g w = record w { requested = slice_set w.requested g true; classes = with_request g w.classes }

-- the world after a request with this stamp, after one from outside, after a start and after an end with this stamp
abbrev pub after_request : ℕ → ℕ → WorldView → WorldView
after_request g stamp w = record w {
  requested = slice_set w.requested g true;
  asked = slice_set w.asked g (max stamp (asked_in w g));
  classes = with_request g w.classes;
}

abbrev pub after_request_from_outside : ℕ → WorldView → WorldView
after_request_from_outside g w = record w {
  requested = slice_set w.requested g true;
  from_outside = slice_set w.from_outside g true;
  classes = with_request g w.classes;
}

abbrev pub after_start : ℕ → WorldView → WorldView
after_start g w = record w { classes = slice_set w.classes g Able }

abbrev pub after_end : ℕ → Outcome → ℕ → WorldView → WorldView
after_end f o stamp w = record w { outcomes = slice_set w.outcomes f (Some o); ended = slice_set w.ended f stamp; classes = with_end f w.classes }

-- the world after this element was put into queue q, and after the front was taken out of it
abbrev pub after_put : ℕ → Item → WorldView → WorldView
after_put q x w = record w { queues = slice_set w.queues q (with_item x (queue_at w.queues q)) }

abbrev pub after_take : ℕ → WorldView → WorldView
after_take q w = record w { queues = slice_set w.queues q (without_front (queue_at w.queues q)) }

-- an element, with the stamp of its put
abbrev pub stamped_item : Element → ℕ → Item
stamped_item x stamp = record { fiber = x.fiber; nth = x.nth; value = x.value; stamp = stamp }

-- the world after a step with this label of fiber f, whose event has that stamp, and which comes after steps with those labels
abbrev pub world_after : ℕ → List Label → ℕ → Label → WorldView → WorldView
world_after f ls stamp (Starts g b) w = after_start g w
world_after f ls stamp (Shows (event.Request g)) w = after_request g stamp w
world_after f ls stamp (Shows (event.Ended o)) w = after_end f o stamp w
world_after f ls stamp (Shows (event.Put q n)) w = after_put q (stamped_item (next_item f ls q n) stamp) w
world_after f ls stamp (Shows (event.Got q n)) w = after_take q w
world_after f ls stamp _ w = w

-- a fiber as code holds it: who started it, what it began with, its trace, its counts and how far it is
pub record HeldFiber : Type 0 where
  pub parent : Option ℕ
  pub origin : Origin
  pub trace : List Event
  pub counts : Counts
  pub progress : Progress

abbrev pub held_of : StartedFiber → HeldFiber
held_of x = record { parent = x.parent; origin = x.origin; trace = events x.labels; counts = x.counts; progress = x.progress }

-- the fibers with the one that a step of fiber f starts
abbrev pub with_child : ℕ → Label → List (Option HeldFiber) → List (Option HeldFiber)
with_child f (Starts g b) held = slice_set held g (Some (held_of (begun (Some f) b)))
with_child f _ held = held

-- the fibers after a step of fiber f, which was x
abbrev pub held_after : ℕ → StartedFiber → Label → Counts → Progress → List (Option HeldFiber) → List (Option HeldFiber)
held_after f x l c p held = slice_set (with_child f l held) f (Some (held_of (stepped x l c p)))

-- a world and its fibers stand for a whole machine
pub record StandsFor (s : ScriptView) (w : WorldView) (held : List (Option HeldFiber)) (m : WholeMachine) : Type 0 where
  pub held_long : length held ≡ total s
  pub requested_long : length w.requested ≡ total s
  pub outside_long : length w.from_outside ≡ total s
  pub outcomes_long : length w.outcomes ≡ total s
  pub fibers : (f : ℕ) → slice_index_or held f None ≡ option_map held_of (m.fibers f)
  pub requested : (f : ℕ) → f < total s → is_requested_in w f ≡ m.requested f
  pub from_outside : (f : ℕ) → f < total s → slice_index_or w.from_outside f false ≡ m.from_outside f
  pub outcomes : (f : ℕ) → outcome_in w f ≡ outcome_of m f
  pub capacities : map (λ (q : QueueView). q.capacity) w.queues ≡ s.capacities
  pub queues : (q : ℕ) → elements_of (queue_at w.queues q).items ≡ m.queues q

-- a world has these stamps, of as many fibers as the script has
pub record HasStamps (s : ScriptView) (w : WorldView) (stamps : MachineStamps) : Type 0 where
  pub asked_long : length w.asked ≡ total s
  pub ended_long : length w.ended ≡ total s
  pub asked : (f : ℕ) → f < total s → asked_in w f ≡ stamps.asked f
  pub ended : (f : ℕ) → ended_in w f ≡ stamps.ended f
  pub queues : (q : ℕ) → put_stamps (queue_at w.queues q).items ≡ stamps.queues q

-- the world before any step, and its one fiber
abbrev pub opening_world : ScriptView → WorldView
opening_world s = record {
  requested = replicate (total s) false;
  from_outside = replicate (total s) false;
  asked = replicate (total s) 0;
  outcomes = replicate (total s) None;
  ended = replicate (total s) 0;
  classes = Able ∷ replicate (need s.term) Unstarted;
  queues = map empty_queue s.capacities;
}

abbrev pub opening_held : ScriptView → List (Option HeldFiber)
opening_held s = Some (held_of (begun None (main_origin s.term))) ∷ replicate (need s.term) None
