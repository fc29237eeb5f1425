-- What one fiber did to a queue and saw of it.
use Rattle.std.specs.Prelude.{ℕ, List, [], ◌∷◌, ◌++◌}
use Rattle.fx_term.specs.declared.queue_event.QueueEvent.{QueueEvent}
use Rattle.fx_queue.specs.declared.entry.Entry.{Entry}

-- of a fiber that has done nothing, with this range, which has seen this history
abbrev pub new_entry : ℕ → ℕ → ℕ → List QueueEvent → Entry
new_entry id next end seen = record { id = id; next = next; end = end; parts = []; handed = []; acts = []; stamps = []; began = seen; seen = seen }

-- after that history it did this; the second one is the same with its stamp
abbrev pub acting : List QueueEvent → QueueEvent → QueueEvent → Entry → Entry
acting log a b e = record e { acts = e.acts ++ a ∷ []; stamps = e.stamps ++ b ∷ []; seen = log ++ a ∷ [] }
