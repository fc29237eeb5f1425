-- A report of a script's fibers, and what it says by their numbers.
use Rattle.std.specs.Prelude.{◌≡◌, ℕ, ◌==◌, nat_lt, Bool, true, false, ◌||◌, Option, Some, None, List, [], ◌∷◌, length, slice_index, slice_index_or}
use Rattle.std.specs.List.{find, list_any}
use Rattle.fx_term.specs.declared.outcome.Outcome.{Outcome}
use Rattle.fx_term.specs.declared.event.Event.{Event}
use Rattle.fx_term.specs.declared.event.Event.TheVariants as event
use Rattle.fx_term.specs.Element.{Element}
use Rattle.fx_term.specs.Script.{ScriptView}
use Rattle.fx_model.specs.Outside.{Outside}

-- a fiber of a report: its number, the fiber that started it, whether it has ended, and its trace
pub record FiberReportView : Type 0 where
  pub id : ℕ
  pub parent : Option ℕ
  pub has_ended : Bool
  pub trace : List Event
  pub stamps : List ℕ

-- a report: its fibers; what is left in each queue, from front to back; the numbers that were requested from outside; and how many waiting fibers only a sweep
-- put back
pub record ReportView : Type 0 where
  pub fibers : List FiberReportView
  pub left : List (List Element)
  pub outside : List ℕ
  pub late : ℕ

abbrev pub fiber_in : ReportView → ℕ → Option FiberReportView
fiber_in r f = find (λ (x : FiberReportView). x.id == f) r.fibers

-- every fiber of the report has ended
abbrev pub AllEnded : ReportView → Type 0
AllEnded r = (f : ℕ) (x : FiberReportView) → fiber_in r f ≡ Some x → x.has_ended ≡ true

abbrev pub parent_of_report : Option FiberReportView → Option ℕ
parent_of_report None = None
parent_of_report (Some x) = x.parent

abbrev pub trace_of_report : Option FiberReportView → List Event
trace_of_report None = []
trace_of_report (Some x) = x.trace

-- who started the fiber, and its trace; nobody and nothing where it is not in the report
abbrev pub parent_in : ReportView → ℕ → Option ℕ
parent_in r f = parent_of_report (fiber_in r f)

abbrev pub trace_in : ReportView → ℕ → List Event
trace_in r f = trace_of_report (fiber_in r f)

-- what is left in the queue of that number
abbrev pub left_in : ReportView → ℕ → List Element
left_in r q = slice_index_or r.left q []

-- how many elements the queue of that number can hold; none where the script declares no such queue
abbrev pub capacity_of : ScriptView → ℕ → ℕ
capacity_of s q = slice_index s.capacities q

-- the outcome that a trace tells
abbrev pub outcome_shown : List Event → Option Outcome
outcome_shown [] = None
outcome_shown (event.Ended o ∷ es) = Some o
outcome_shown (e ∷ es) = outcome_shown es

abbrev pub is_request_for : ℕ → Event → Bool
is_request_for f (event.Request g) = g == f
is_request_for f _ = false

-- some trace requests the fiber, or it was requested from outside
abbrev pub is_requested_in : ReportView → ℕ → Bool
is_requested_in r f = list_any (λ (x : FiberReportView). list_any (is_request_for f) x.trace) r.fibers || list_any (λ g. g == f) r.outside

-- what the fibers see outside themselves at the end, by the ends and requests that the report tells and by what is left
abbrev pub final_outside : ScriptView → ReportView → Outside
final_outside s r = record {
  outcome = λ f. outcome_shown (trace_in r f);
  has_room = λ q. nat_lt (length (left_in r q)) (capacity_of s q);
  has_element = λ q. nat_lt 0 (length (left_in r q));
  is_requested = is_requested_in r;
}
