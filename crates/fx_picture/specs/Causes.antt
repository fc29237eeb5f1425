-- Which events of a report stand on which, as far as the events say it, or it is told.
use Rattle.std.specs.Prelude.{ℕ, ◌==◌, Bool, true, false, ◌&&◌, ◌||◌, Option, Some, None, List, codes, if◌then◌else◌}
use Rattle.std.specs.List.{list_any}
use Rattle.fx_term.specs.declared.event.Event.{Event}
use Rattle.fx_term.specs.declared.event.Event.TheVariants as event
use Rattle.fx_order.specs.declared.occurrence.Occurrence.{Occurrence}
use Rattle.fx_picture.specs.declared.cause.Cause.{Cause}
use Rattle.fx_picture.specs.declared.cause.Cause.TheVariants.{Start, End, Request, Element}
use Rattle.fx_picture.specs.declared.stood.EventAt.{EventAt}
use Rattle.fx_picture.specs.declared.stood.Stood.{Stood}
use Rattle.fx_picture.specs.Stood.{stood_at, told_cause}

-- the event tells that fiber f has ended
abbrev pub is_told_by : ℕ → Event → Bool
is_told_by f (event.Joined g o) = g == f
is_told_by f (event.Awaited g) = g == f
is_told_by f _ = false

abbrev pub is_seen : Event → Bool
is_seen event.Seen = true
is_seen _ = false

abbrev pub is_first : Event → Bool
is_first (event.First n) = true
is_first _ = false

-- it takes this value out of queue q
abbrev pub is_got_of : ℕ → ℕ → Event → Bool
is_got_of q v (event.Got r w) = (r == q) && (w == v)
is_got_of q v _ = false

-- the event is the one that is told
abbrev pub is_at : Occurrence → Option EventAt → Bool
is_at x None = false
is_at x (Some at) = (at.fiber == x.fiber) && (at.place == x.place)

-- some event is told to have this one as its cause
abbrev pub has_caused : List Stood → Occurrence → Bool
has_caused stood x = list_any (λ (s : Stood). is_at x s.cause) stood

-- what this event of x is to y, where this is told to have caused y: the start of y's fiber, of which y is the first event; an end, which y tells, or which it
-- is told to have found; a request for y's fiber, which sees one; or the put of what it takes, as it is told
abbrev pub cause_by : Option EventAt → Event → Occurrence → Occurrence → Option Cause
cause_by told (event.Start f) x y = if (y.place == 0) && (y.fiber == f) then Some Start else None
cause_by told (event.Ended o) x y = if is_told_by x.fiber y.event || (is_first y.event && is_at x told) then Some End else None
cause_by told (event.Request f) x y = if is_seen y.event && (y.fiber == f) then Some Request else None
cause_by told (event.Put q v) x y = if is_got_of q v y.event && is_at x told then Some Element else None
cause_by told _ x y = None

abbrev pub cause_of : Option EventAt → Occurrence → Occurrence → Option Cause
cause_of told x y = cause_by told x.event x y

-- where this is told of a run
abbrev pub cause_in : List Stood → Occurrence → Occurrence → Option Cause
cause_in stood x y = cause_of (told_cause (stood_at stood y.fiber y.place)) x y

abbrev pub cause_class : Cause → List ℕ
cause_class Start = codes "arrow start"
cause_class End = codes "arrow end"
cause_class Request = codes "arrow cancel dashed"
cause_class Element = codes "arrow put"
