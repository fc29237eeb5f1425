-- How what is drawn looks, by names that the style of a picture means.
use Rattle.std.specs.Prelude.{ℕ, Bool, true, false, List, codes}
use Rattle.fx_term.specs.declared.outcome.Outcome.TheVariants.{Canceled}
use Rattle.fx_term.specs.declared.event.Event.{Event}
use Rattle.fx_term.specs.declared.event.Event.TheVariants as event

abbrev pub event_class : Event → List ℕ
event_class (event.Start f) = codes "start"
event_class (event.Awaited f) = codes "learn"
event_class (event.Joined f o) = codes "learn"
event_class (event.First n) = codes "learn"
event_class (event.Put q v) = codes "put"
event_class (event.Got q v) = codes "got"
event_class (event.Refused q) = codes "none"
event_class (event.Empty q) = codes "none"
event_class (event.Acquired k) = codes "held"
event_class (event.Begin k) = codes "free"
event_class (event.End k) = codes "free"
event_class (event.Request f) = codes "cancel"
event_class event.SelfRequest = codes "cancel"
event_class event.Cancelled = codes "cancel"
event_class event.Seen = codes "seen"
event_class (event.Ended Canceled) = codes "gone"
event_class (event.Ended o) = codes "end"

-- of a fiber that has ended, or not
abbrev pub end_class : Bool → List ℕ
end_class true = codes "ended"
end_class false = codes "waits"
