-- Which fibers may step, kept without asking each: a fiber that waits is known by what it waits for.
use Rattle.std.specs.Prelude.{◌≡◌, ℕ, ◌==◌, ◌||◌, Bool, true, false, if◌then◌else◌, Option, Some, None, is_some}
use Rattle.fx_term.specs.declared.outcome.Outcome as outcome
use Rattle.fx_term.specs.declared.event.Event.TheVariants as event
use Rattle.fx_model.specs.Row.{Label, Shows, Starts}
use Rattle.fx_model.specs.Step.{has_ended}
use Rattle.fx_model.specs.declared.source.Source.{Source}
use Rattle.fx_model.specs.declared.source.Source.TheVariants.{Outcome, Either, Room, Element}
use Rattle.fx_model.specs.WaitsFor.{has_come, IsWaiting}
use Rattle.fx_model.specs.Outside.{Outside}
use Rattle.fx_plain.specs.declared.class.Class.{Class}
use Rattle.fx_plain.specs.declared.class.Class.TheVariants.{Unstarted, Able, Waits, Over}
use Rattle.fx_term.specs.Maps.{with_at}
use Rattle.fx_plain.specs.WholeMachine.{StartedFiber, WholeMachine}

-- the fiber, if it has started, is of that class
abbrev pub IsOfClass : Bool → Option StartedFiber → Class → Type 0
IsOfClass is_requested None Unstarted = Unit {0}
IsOfClass is_requested (Some x) Able = has_ended x.progress ≡ false
IsOfClass is_requested (Some x) (Waits w) = IsWaiting is_requested x.counts x.progress w
IsOfClass is_requested (Some x) Over = has_ended x.progress ≡ true
IsOfClass is_requested _ _ = ⊥

-- each fiber is of its class
abbrev pub AreOfClasses : WholeMachine → (ℕ → Class) → Type 0
AreOfClasses m class = (f : ℕ) → IsOfClass (m.requested f) (m.fibers f) (class f)

-- the classes before any step
abbrev pub opening_classes : ℕ → Class
opening_classes = with_at 0 Able (λ f. Unstarted)

-- the class of a fiber that is requested: one that waits may step then, to see it
abbrev pub class_requested : Class → Class
class_requested (Waits w) = Able
class_requested k = k

-- what it waits for, if it does
abbrev pub awaited : Class → Option Source
awaited (Waits w) = Some w
awaited _ = None

-- it waits for the end of fiber g
abbrev pub waits_for_end : ℕ → Class → Bool
waits_for_end g (Waits (Outcome h)) = h == g
waits_for_end g (Waits (Either h k)) = h == g || k == g
waits_for_end g _ = false

-- the class of another fiber at the end of fiber g
abbrev pub class_at_end : ℕ → Class → Class
class_at_end g k = if waits_for_end g k then Able else k

-- the classes after a request for fiber g, and at its end
abbrev pub requested_classes : ℕ → (ℕ → Class) → ℕ → Class
requested_classes g class = with_at g (class_requested (class g)) class

abbrev pub ended_classes : ℕ → (ℕ → Class) → ℕ → Class
ended_classes g class = with_at g Over (λ f. class_at_end g (class f))

-- the classes after a step with this label of fiber f, which was able
abbrev pub classes_after : ℕ → Label → (ℕ → Class) → ℕ → Class
classes_after f (Starts g b) class = with_at g Able class
classes_after f (Shows (event.Request g)) class = requested_classes g class
classes_after f (Shows (event.Ended o)) class = ended_classes f class
classes_after f _ class = class

-- by its class a fiber may step
abbrev pub may_step : Outside → Class → Bool
may_step o Able = true
may_step o (Waits w) = has_come o w
may_step o _ = false

-- it waits for an outcome, of these, that has come
abbrev pub outcome_has_come : (ℕ → Option outcome.Outcome) → Class → Bool
outcome_has_come outcomes (Waits (Outcome g)) = is_some (outcomes g)
outcome_has_come outcomes (Waits (Either g h)) = is_some (outcomes g) || is_some (outcomes h)
outcome_has_come outcomes _ = false

-- nobody waits for an outcome that has come
abbrev pub AwaitWhatIsToCome : (ℕ → Option outcome.Outcome) → (ℕ → Class) → Type 0
AwaitWhatIsToCome outcomes class = (f : ℕ) → outcome_has_come outcomes (class f) ≡ false

-- it is able, or waits at a queue that has the room or the element for which it waits
abbrev pub is_ready : (has_room has_element : ℕ → Bool) → Class → Bool
is_ready has_room has_element Able = true
is_ready has_room has_element (Waits (Room q)) = has_room q
is_ready has_room has_element (Waits (Element q)) = has_element q
is_ready has_room has_element _ = false
