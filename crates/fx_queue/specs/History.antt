-- Histories of one queue as a pass sees them.
use Rattle.std.specs.Prelude.{◌≡◌, ℕ, List, ◌++◌}
use Rattle.fx_term.specs.Element.{Element}
use Rattle.fx_term.specs.declared.queue_event.QueueEvent.{QueueEvent}

-- the nth element of fiber f
abbrev pub item : ℕ → ℕ → ℕ → Element
item f n v = record { fiber = f; nth = n; value = v }

-- the history goes on from what was seen
abbrev pub Begins : List QueueEvent → List QueueEvent → Type 0
Begins log seen = (rest : List QueueEvent) × (log ≡ seen ++ rest)
