-- What the stamps are in the report of a run of the whole machine.
use Rattle.std.specs.Prelude.{◌≡◌, ℕ, ◌<◌, ◌≤◌, Bool, Some, List, length, slice_get, ◌⊎◌, Contains}
use Rattle.fx_term.specs.declared.event.Event.{Event}
use Rattle.fx_term.specs.declared.event.Event.TheVariants as event
use Rattle.fx_term.specs.Script.{ScriptView}
use Rattle.fx_model.specs.Report.{ReportView, trace_in}
use Rattle.fx_model.specs.Causes.{LeavesQueue}
use Rattle.fx_model.specs.Happenings.{IsLawfulInOneList}
use Rattle.fx_model.specs.ReportStamps.{stamps_in, stamp_in}
use Rattle.fx_model.specs.Stamps.{IsStamped}

-- a request for fiber f that comes before this moment has the stamp n
pub record IsRequestedWith (trace : ℕ → List Event) (stamp moment : ℕ → ℕ → ℕ) (f now n : ℕ) : Type 0 where
  pub by : ℕ
  pub place : ℕ
  pub request : slice_get (trace by) place ≡ Some (event.Request f)
  pub before : moment by place < now
  pub is : n ≡ stamp by place

-- n is the greatest stamp of the requests for fiber f that come before this moment, or 0 where there is none
pub record IsGreatestRequest (trace : ℕ → List Event) (stamp moment : ℕ → ℕ → ℕ) (f now n : ℕ) : Type 0 where
  pub greatest : (g j : ℕ) → slice_get (trace g) j ≡ Some (event.Request f) → moment g j < now → stamp g j ≤ n
  pub is : IsRequestedWith trace stamp moment f now n
      ⊎ ((n ≡ 0) × ((g j : ℕ) → slice_get (trace g) j ≡ Some (event.Request f) → moment g j < now → ⊥))

-- A report whose events stand in one list, by runs and histories that make it lawful, and by which its stamps, one for each event, are those of the
-- definition; where a request is seen, that of the cause is the greatest of the requests before in the list
pub record IsStampedInOneList (s : ScriptView) (may : ℕ → Bool) (r : ReportView) : Type 0 where
  pub in_list : IsLawfulInOneList s may r
  pub one_each : (f : ℕ) → length (stamps_in r f) ≡ length (trace_in r f)
  pub began : ℕ → ℕ
  pub cause : ℕ → ℕ → ℕ
  pub are : IsStamped (trace_in r) in_list.in_order.lawful.runs.labels (LeavesQueue s may r in_list.in_order.lawful) (Contains r.outside) began (stamp_in r)
      cause
  pub seen : (f i : ℕ) → slice_get (trace_in r f) i ≡ Some event.Seen
      → IsGreatestRequest (trace_in r) (stamp_in r) in_list.in_order.causes.moment f (in_list.in_order.causes.moment f i) (cause f i)
