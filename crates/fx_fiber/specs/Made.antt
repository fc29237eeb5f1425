-- What is made in a step: its label, its deeds, and by which part of a machine it can be made.
use Rattle.std.specs.Prelude.{List, [], ◌∷◌}
use Rattle.fx_term.specs.declared.event.Event.{Event}
use Rattle.fx_term.specs.declared.event.Event.TheVariants as event
use Rattle.fx_model.specs.Row.{Label, Silent, Shows, Learns}
use Rattle.fx_fiber.specs.Deed.{Deed, FoundEnded, deeds_of_event}
use Rattle.fx_fiber.specs.declared.machine.made.Made.{Made}
use Rattle.fx_fiber.specs.declared.machine.made.Made.TheVariants as made

-- the label of what was made
abbrev pub label_of : Made → Label
label_of (made.Shows e) = Shows e
label_of (made.Learns f o e) = Learns f o e
label_of _ = Silent

-- the deeds of a step that made this, before its end is told
abbrev pub deeds_made : Made → List Deed
deeds_made (made.Shows (event.Ended o)) = []
deeds_made (made.Shows e) = deeds_of_event e
deeds_made (made.Learns f o e) = FoundEnded f o ∷ []
deeds_made _ = []

-- what a bracket shows: its resource is acquired, and its release begins and ends
abbrev pub IsOfBracket : Event → Type 0
IsOfBracket (event.Acquired k) = Unit {0}
IsOfBracket (event.Begin k) = Unit {0}
IsOfBracket (event.End k) = Unit {0}
IsOfBracket e = ⊥

-- what is made with no question to the port: an end is told after it
abbrev pub IsLocal : Made → Type 0
IsLocal made.Silent = Unit {0}
IsLocal made.Yielded = Unit {0}
IsLocal (made.Waits w) = ⊥
IsLocal (made.Learns f o e) = ⊥
IsLocal (made.Starts h a b) = ⊥
IsLocal (made.Shows event.SelfRequest) = Unit {0}
IsLocal (made.Shows (event.Acquired k)) = Unit {0}
IsLocal (made.Shows (event.Begin k)) = Unit {0}
IsLocal (made.Shows (event.End k)) = Unit {0}
IsLocal (made.Shows (event.Ended o)) = Unit {0}
IsLocal (made.Shows e) = ⊥

-- what is made by the rule of a place: that, what the port was asked for, or nothing where the fiber waits
abbrev pub IsRuleMade : Made → Type 0
IsRuleMade (made.Waits w) = Unit {0}
IsRuleMade (made.Learns f o e) = Unit {0}
IsRuleMade (made.Starts h a b) = Unit {0}
IsRuleMade (made.Shows (event.Request f)) = Unit {0}
IsRuleMade (made.Shows (event.Put q n)) = Unit {0}
IsRuleMade (made.Shows (event.Got q n)) = Unit {0}
IsRuleMade (made.Shows (event.Refused q)) = Unit {0}
IsRuleMade (made.Shows (event.Empty q)) = Unit {0}
IsRuleMade m = IsLocal m

-- what is made in a step of a fiber: that, cancellation, or a request that is seen
abbrev pub IsOwnMade : Made → Type 0
IsOwnMade (made.Shows event.Cancelled) = Unit {0}
IsOwnMade (made.Shows event.Seen) = Unit {0}
IsOwnMade m = IsRuleMade m
