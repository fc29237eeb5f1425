-- What a fiber did to the outside and learnt of it, as its port knows it.
use Rattle.std.specs.Prelude.{◌≡◌, ℕ, ◌==◌, if◌then◌else◌, Option, Some, None, List, [], ◌∷◌, ◌++◌}
use Rattle.std.specs.List.{filter_map}
use Rattle.fx_term.specs.declared.node.Node.{Node}
use Rattle.fx_term.specs.declared.begin.Begin.{Begin}
use Rattle.fx_term.specs.declared.outcome.Outcome.{Outcome}
use Rattle.fx_term.specs.declared.offered.Offered.{Offered}
use Rattle.fx_term.specs.declared.offered.Offered.TheVariants.{Done, Full}
use Rattle.fx_term.specs.declared.event.Event.{Event}
use Rattle.fx_term.specs.declared.event.Event.TheVariants as event
use Rattle.fx_term.specs.declared.queue_event.QueueEvent.{QueueEvent}
use Rattle.fx_term.specs.declared.queue_event.QueueEvent.TheVariants as queue_event
use Rattle.fx_model.specs.Row.{Label, Silent, Shows, Learns, Starts}
use Rattle.fx_model.specs.Origin.{origin_of}

-- a fiber was started and began so; a cancellation was requested; the own request was seen; an element was put into a queue or taken out of it; a queue was
-- found full or empty; a fiber was found to have ended so; the fiber ended so
pub data Deed : Type 0 where
  Started : ℕ → Begin → Deed
  Requested : ℕ → Deed
  Saw : Deed
  Put : ℕ → ℕ → Deed
  Got : ℕ → ℕ → Deed
  FoundFull : ℕ → Deed
  FoundEmpty : ℕ → Deed
  FoundEnded : ℕ → Outcome → Deed
  Ended : Outcome → Deed

-- the deed of an offer of this value to a queue, with this answer
abbrev pub deed_of_offer : ℕ → ℕ → Offered → Deed
deed_of_offer q n Done = Put q n
deed_of_offer q n Full = FoundFull q

-- the deeds of a step that shows this event
abbrev pub deeds_of_event : Event → List Deed
deeds_of_event (event.Request f) = Requested f ∷ []
deeds_of_event (event.Put q n) = Put q n ∷ []
deeds_of_event (event.Got q n) = Got q n ∷ []
deeds_of_event (event.Refused q) = FoundFull q ∷ []
deeds_of_event (event.Empty q) = FoundEmpty q ∷ []
deeds_of_event event.Seen = Saw ∷ []
deeds_of_event (event.Ended o) = Ended o ∷ []
deeds_of_event _ = []

-- the deeds of a step with this label
abbrev pub AreDeedsOf : List Node → Label → List Deed → Type 0
AreDeedsOf nodes Silent deeds = deeds ≡ []
AreDeedsOf nodes (Shows e) deeds = deeds ≡ deeds_of_event e
AreDeedsOf nodes (Learns f o e) deeds = deeds ≡ FoundEnded f o ∷ []
AreDeedsOf nodes (Starts f b) deeds = (begin : Begin) × (origin_of nodes begin ≡ b) × (deeds ≡ Started f begin ∷ [])

-- the deeds of steps with these labels
abbrev pub AreDeeds : List Node → List Label → List Deed → Type 0
AreDeeds nodes [] deeds = deeds ≡ []
AreDeeds nodes (l ∷ ls) deeds = (first : List Deed) × (rest : List Deed) × AreDeedsOf nodes l first × AreDeeds nodes ls rest × (deeds ≡ first ++ rest)

-- the event of queue q that a deed of fiber f is: a queue that was found full or empty is none
abbrev pub queue_deed : ℕ → ℕ → Deed → Option QueueEvent
queue_deed q f (Put r n) = if r == q then Some (queue_event.Put f n) else None
queue_deed q f (Got r n) = if r == q then Some (queue_event.Got f n) else None
queue_deed q f _ = None

-- those of the deeds, in order
abbrev pub queue_deeds : ℕ → ℕ → List Deed → List QueueEvent
queue_deeds q f deeds = filter_map (queue_deed q f) deeds
