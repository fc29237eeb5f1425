-- A trace with stamps, as its events and as its stamps.
use Rattle.std.specs.Prelude.{ℕ, List, map}
use Rattle.fx_term.specs.declared.event.Event.{Event}
use Rattle.fx_term.specs.declared.stamped.Stamped.{Stamped}

abbrev pub events_in : List Stamped → List Event
events_in xs = map (λ (x : Stamped). x.event) xs

abbrev pub stamps_in : List Stamped → List ℕ
stamps_in xs = map (λ (x : Stamped). x.stamp) xs
