-- What a run left, told by lists as its report tells it.
use Rattle.std.specs.Prelude.{◌≡◌, ℕ, ◌<◌, ◌-◌, ◌^◌, nat_lt, if◌then◌else◌, Bool, false, Option, None, List, map, length, slice_index, slice_index_or}
use Rattle.fx_term.specs.declared.item.Item.{Item}
use Rattle.fx_term.specs.Script.{ScriptView, total}
use Rattle.fx_model.specs.declared.closed.Closed.{Closed}
use Rattle.fx_model.specs.Closed.{outside_of}
use Rattle.fx_model.specs.Step.{has_ended}
use Rattle.fx_model.specs.Outside.{can_step}
use Rattle.fx_model.specs.Report.{FiberReportView, ReportView, trace_in, left_in, capacity_of, outcome_shown, is_requested_in}
use Rattle.fx_fiber.specs.Bare.{BareView, reached}

-- the number, or the greatest of 32 bits
abbrev pub within_32_bits : ℕ → ℕ
within_32_bits n = if nat_lt n (2 ^ 32 - 1) then n else 2 ^ 32 - 1

abbrev pub lengths_of : List (List Item) → List ℕ
lengths_of left = map (λ (xs : List Item). within_32_bits (length xs)) left

-- the lists tell which queues have room and which have an element, how each fiber has ended, and who is requested, as the report does
pub record IsClosedAs (s : ScriptView) (r : ReportView) (c : Closed) : Type 0 where
  pub room : (q : ℕ) → nat_lt (slice_index c.rests.items q) (slice_index c.caps.items q) ≡ nat_lt (length (left_in r q)) (capacity_of s q)
  pub element : (q : ℕ) → nat_lt 0 (slice_index c.rests.items q) ≡ nat_lt 0 (length (left_in r q))
  pub outcomes : (f : ℕ) → slice_index_or c.outcomes.items f None ≡ outcome_shown (trace_in r f)
  pub requested : (f : ℕ) → f < total s → slice_index_or c.requested.items f false ≡ is_requested_in r f

-- the fiber can step by these lists
abbrev pub can_step_by : Closed → BareView → Bool
can_step_by c x = can_step (outside_of c) x.id x.counts (reached x)

-- what is reported of a fiber by a list of parents
abbrev pub report_by : List (Option ℕ) → BareView → FiberReportView
report_by parents x = record { id = x.id; parent = slice_index_or parents x.id None; has_ended = has_ended (reached x); trace = x.trace; stamps = x.stamps }
