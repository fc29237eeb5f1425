-- What the text of a script means to the runs of its fibers.
use Rattle.std.specs.Prelude.{ℕ, List, map}
use Rattle.fx_term.specs.Script.{ScriptView}
use Rattle.fx_text.specs.Meaning.{Meaning}

-- its term, and the capacities of its queues
abbrev pub script_of : Meaning → ScriptView
script_of m = record { term = m.term; capacities = map (λ (q : List ℕ × ℕ). q.1) m.queues }
