-- Which put of a value into a queue is the only one in a report.
use Rattle.std.specs.Prelude.{ℕ, suc, nat_lt, ◌==◌, Bool, ◌&&◌, Option, Some, None, List, [], ◌∷◌, ◌++◌, length, if◌then◌else◌}
use Rattle.std.specs.List.{filter, flat_map}
use Rattle.fx_term.specs.declared.event.Event.{Event}
use Rattle.fx_term.specs.declared.event.Event.TheVariants as event
use Rattle.fx_model.specs.Report.{FiberReportView}
use Rattle.fx_picture.specs.declared.layout.TheConstants.{MOST_EVENTS}
use Rattle.fx_picture.specs.declared.stood.EventAt.{EventAt}
use Rattle.fx_run_events.specs.declared.sole_puts.PutAt.{PutAt}

-- event i of fiber f, if it puts something
abbrev pub put_by : ℕ → ℕ → Event → List PutAt
put_by f i (event.Put q v) = record { queue = q; value = v; at = record { fiber = f; place = i } } ∷ []
put_by f i _ = []

-- the puts among these events of fiber f, of which the first is its event i
abbrev pub puts_from : ℕ → ℕ → List Event → List PutAt
puts_from f i [] = []
puts_from f i (e ∷ es) = put_by f i e ++ puts_from f (suc i) es

-- all puts of a report with these fibers, fiber by fiber
abbrev pub puts_in : List FiberReportView → List PutAt
puts_in fibers = flat_map (λ (x : FiberReportView). puts_from x.id 0 x.trace) fibers

-- those that are looked through: none where there are more than a picture can have events
abbrev pub known_puts : List FiberReportView → List PutAt
known_puts fibers = if nat_lt MOST_EVENTS (length (puts_in fibers)) then [] else puts_in fibers

-- it puts this value into that queue
abbrev pub puts_so : ℕ → ℕ → PutAt → Bool
puts_so q v p = (p.queue == q) && (p.value == v)

-- the only one of a list
abbrev pub only_one : List PutAt → Option EventAt
only_one [] = None
only_one (p ∷ []) = Some p.at
only_one (p ∷ other ∷ ps) = None

-- the only put of this value into that queue, where there is exactly one
abbrev pub sole_put : ℕ → ℕ → List PutAt → Option EventAt
sole_put q v puts = only_one (filter (puts_so q v) puts)
