-- The printed report and the printed traces, as bytes. Every line ends with LF, and numbers are decimal.
use Rattle.std.specs.Prelude.{◌≡◌, ℕ, ◌-◌, Bool, true, false, Option, Some, None, List, [], ◌∷◌, ◌++◌, codes, decimal, drop, length, map}
use Rattle.std.specs.Prelude.{string_bytes, slice_index_or, All}
use Rattle.std.specs.List.{flat_map, list_any}
use Rattle.fx_term.specs.declared.outcome.Outcome.{Outcome}
use Rattle.fx_term.specs.declared.outcome.Outcome.TheVariants.{Succeeded, Errored, Canceled}
use Rattle.fx_term.specs.declared.event.Event.{Event}
use Rattle.fx_term.specs.declared.event.Event.TheVariants as event
use Rattle.fx_term.specs.Element.{Element}
use Rattle.fx_text.specs.declared.queue_decl.QueueDecl.{QueueDecl}
use Rattle.fx_text.specs.Meaning.{Meaning}
use Rattle.fx_model.specs.Report.{FiberReportView, ReportView}
use Rattle.fx_term.specs.QueuesNamed.{NamesQueueBelow}

abbrev pub line_end : List ℕ
line_end = 10 ∷ []

-- a space and a number
abbrev pub number : ℕ → List ℕ
number n = codes " " ++ decimal n

abbrev pub outcome_text : Outcome → List ℕ
outcome_text (Succeeded n) = codes "succeeded" ++ number n
outcome_text (Errored n) = codes "errored" ++ number n
outcome_text Canceled = codes "canceled"

-- the names of these queues; and those of the queues of a script, in its order
abbrev pub names_of : List QueueDecl → List (List ℕ)
names_of queues = map (λ (q : QueueDecl). string_bytes q.name) queues

abbrev pub queue_names : Meaning → List (List ℕ)
queue_names m = map (λ (q : List ℕ × ℕ). q.0) m.queues

-- a space and the name of a queue, of these names
abbrev pub queue_name : List (List ℕ) → ℕ → List ℕ
queue_name names q = codes " " ++ slice_index_or names q []

abbrev pub event_text : List (List ℕ) → Event → List ℕ
event_text names (event.Start f) = codes "start" ++ number f
event_text names (event.Request f) = codes "request" ++ number f
event_text names (event.Awaited f) = codes "awaited" ++ number f
event_text names (event.Joined f o) = codes "joined" ++ number f ++ codes " " ++ outcome_text o
event_text names (event.First n) = codes "first" ++ number n
event_text names (event.Put q v) = codes "put" ++ queue_name names q ++ number v
event_text names (event.Got q v) = codes "got" ++ queue_name names q ++ number v
event_text names (event.Refused q) = codes "refused" ++ queue_name names q
event_text names (event.Empty q) = codes "empty" ++ queue_name names q
event_text names (event.Acquired k) = codes "acquired" ++ number k
event_text names (event.Begin k) = codes "begin" ++ number k
event_text names (event.End k) = codes "end" ++ number k
event_text names event.Seen = codes "seen"
event_text names event.SelfRequest = codes "selfrequest"
event_text names event.Cancelled = codes "cancelled"
event_text names (event.Ended o) = codes "ended " ++ outcome_text o

-- the line of an event of fiber f, with its stamp
abbrev pub event_line : List (List ℕ) → ℕ → ℕ → Event → List ℕ
event_line names f stamp e = decimal f ++ number stamp ++ codes " " ++ event_text names e ++ line_end

-- a line an event, each with its stamp
abbrev pub event_lines : List (List ℕ) → ℕ → List ℕ → List Event → List ℕ
event_lines names f (t ∷ ts) (e ∷ es) = event_line names f t e ++ event_lines names f ts es
event_lines names f _ _ = []

-- how a fiber halted: with its outcome, or waiting for good
abbrev pub halt_text : Option Outcome → List ℕ
halt_text (Some o) = outcome_text o
halt_text None = codes "blocked"

-- the line of fiber f, which halted so
abbrev pub halt_line : ℕ → Option Outcome → List ℕ
halt_line f o = codes "fiber" ++ number f ++ codes " " ++ halt_text o ++ line_end

-- the text of what ends a trace: that of its outcome, where it is one
abbrev pub end_text : List Event → List ℕ
end_text (event.Ended o ∷ []) = outcome_text o
end_text _ = []

-- how a fiber is at the end: by its state, and where it has ended by the last event of its trace
abbrev pub state_text : Bool → List Event → List ℕ
state_text false trace = codes "blocked"
state_text true trace = end_text (drop (length trace - 1) trace)

abbrev pub fiber_line : FiberReportView → List ℕ
fiber_line x = codes "fiber" ++ number x.id ++ codes " " ++ state_text x.has_ended x.trace ++ line_end

-- the line of a queue of this name, with the values from front to back
abbrev pub queue_line : List ℕ → List Element → List ℕ
queue_line name items = codes "queue " ++ name ++ codes " left" ++ flat_map (λ (x : Element). number x.value) items ++ line_end

-- a line a queue, in the order of the script
abbrev pub queue_lines : List (List ℕ) → List (List Element) → List ℕ
queue_lines (name ∷ names) (items ∷ left) = queue_line name items ++ queue_lines names left
queue_lines _ _ = []

-- the text of a report, where the script's queues have these names
abbrev pub report_text : List (List ℕ) → ReportView → List ℕ
report_text names r = flat_map fiber_line r.fibers ++ queue_lines names r.left

-- the lines of one fiber's trace
abbrev pub trace_lines : List (List ℕ) → FiberReportView → List ℕ
trace_lines names x = event_lines names x.id x.stamps x.trace

-- the text of the traces of a report
abbrev pub trace_text : List (List ℕ) → ReportView → List ℕ
trace_text names r = flat_map (trace_lines names) r.fibers

-- the last event of a trace is the end of its fiber
abbrev pub is_end : Event → Bool
is_end (event.Ended o) = true
is_end _ = false

abbrev pub ends : List Event → Bool
ends trace = list_any is_end (drop (length trace - 1) trace)

-- the fiber's trace names no queue but the first so many, and ends with an end exactly where the fiber has ended
pub record IsWritableFiber (queues : ℕ) (x : FiberReportView) : Type 0 where
  pub named : All (NamesQueueBelow queues) x.trace
  pub state : ends x.trace ≡ x.has_ended

-- the two texts say all of a report whose queues have these names: there is a list of what is left for each queue, and each fiber is so
pub record IsWritable (names : List (List ℕ)) (r : ReportView) : Type 0 where
  pub left_by_queue : length r.left ≡ length names
  pub fibers : All (IsWritableFiber (length names)) r.fibers
