-- The stamps of events: a number for each event of each fiber, above that of the event before it in its fiber and those of its causes.
use Rattle.std.specs.Prelude.{◌≡◌, ◌≢◌, ℕ, zero, suc, ◌+◌, ◌<◌, Bool, Some, List, slice_get, max, min, ◌⊎◌, Contains}
use Rattle.fx_term.specs.declared.event.Event.{Event}
use Rattle.fx_term.specs.declared.event.Event.TheVariants as event
use Rattle.fx_term.specs.Script.{ScriptView}
use Rattle.fx_term.specs.Queue.{QueueState}
use Rattle.fx_model.specs.Row.{Label}
use Rattle.fx_model.specs.Report.{FiberReportView, ReportView, fiber_in, trace_in}
use Rattle.fx_model.specs.LawfulReport.{IsLawfulReport}
use Rattle.fx_model.specs.Causes.{TakesWhatWasPut, LearnsOfEnd, IsLearning, IsEvent, LeavesQueue, IsOneOrder}

-- the greatest stamp, at which stamps stay
abbrev pub top : ℕ
top = 18446744073709551615

-- one more, up to the top
abbrev pub one_more : ℕ → ℕ
one_more n = min (n + 1) top

-- the stamp that comes before event i in its fiber: that of the event before it, and for the first one that of the start of the fiber
abbrev pub stamp_before : ℕ → (ℕ → ℕ) → ℕ → ℕ
stamp_before began stamp zero = began
stamp_before began stamp (suc i) = stamp i

-- an event that, but for being the first of its fiber, has no cause
abbrev pub HasNoCause : Event → Type 0
HasNoCause (event.Got q n) = ⊥
HasNoCause (event.Joined g o) = ⊥
HasNoCause (event.Awaited g) = ⊥
HasNoCause (event.First n) = ⊥
HasNoCause event.Seen = ⊥
HasNoCause _ = Unit {0}

-- a request for fiber f has this stamp
pub record IsRequestStamp (trace : ℕ → List Event) (stamp : ℕ → ℕ → ℕ) (f n : ℕ) : Type 0 where
  pub by : ℕ
  pub place : ℕ
  pub request : slice_get (trace by) place ≡ Some (event.Request f)
  pub is : n ≡ stamp by place

-- Event i of fiber f has this number as the stamp of its cause: a get that of the put of what it took, what learns of an end that of the end, a request that
-- is seen that of some request, or 0 where that came from outside; all others have 0
pub record IsCauseStamp (trace : ℕ → List Event) (labels : ℕ → List Label) (IsLeft : ℕ → QueueState → Type 0) (IsFromOutside : ℕ → Type 0)
    (stamp : ℕ → ℕ → ℕ) (f i : ℕ) (e : Event) (n : ℕ) : Type 0 where
  pub took : (g j : ℕ) → TakesWhatWasPut trace IsLeft f i g j → n ≡ stamp g j
  pub learnt : (g j : ℕ) → LearnsOfEnd trace labels f i g j → n ≡ stamp g j
  pub saw : e ≡ event.Seen → IsRequestStamp trace stamp f n ⊎ (IsFromOutside f × (n ≡ 0))
  pub none : HasNoCause e → n ≡ 0

-- Each event's stamp is one more than the greater of the stamp before it in its fiber and the stamp of its cause
pub record IsStamped (trace : ℕ → List Event) (labels : ℕ → List Label) (IsLeft : ℕ → QueueState → Type 0) (IsFromOutside : ℕ → Type 0)
    (began : ℕ → ℕ) (stamp cause : ℕ → ℕ → ℕ) : Type 0 where
  pub main : began 0 ≡ 0
  pub child : (f g j : ℕ) → slice_get (trace g) j ≡ Some (event.Start f) → began f ≡ stamp g j
  pub causes : (f i : ℕ) (e : Event) → slice_get (trace f) i ≡ Some e → IsCauseStamp trace labels IsLeft IsFromOutside stamp f i e (cause f i)
  pub each : (f i : ℕ) → IsEvent trace f i → stamp f i ≡ one_more (max (stamp_before (began f) (stamp f) i) (cause f i))

-- no event has the greatest stamp
abbrev pub IsBelowTop : (ℕ → List Event) → (ℕ → ℕ → ℕ) → Type 0
IsBelowTop trace stamp = (f i : ℕ) → IsEvent trace f i → stamp f i ≢ top

-- event i of fiber f comes before event j of fiber g: its stamp is less, or the stamps are one and its fiber's number is less
abbrev pub IsBefore : (ℕ → ℕ → ℕ) → ℕ → ℕ → ℕ → ℕ → Type 0
IsBefore stamp f i g j = (stamp f i < stamp g j) ⊎ ((stamp f i ≡ stamp g j) × (f < g))

module _ (s : ScriptView) (may : ℕ → Bool) (r : ReportView) (lawful : IsLawfulReport s may r) where
  -- stamps of a lawful report's events
  pub record StampsOf : Type 0 where
    pub began : ℕ → ℕ
    pub stamp : ℕ → ℕ → ℕ
    pub cause : ℕ → ℕ → ℕ
    pub are : IsStamped (trace_in r) lawful.runs.labels (LeavesQueue s may r lawful) (Contains r.outside) began stamp cause

  -- one order of all events, which is that of the stamps and then of the fibers
  pub record IsOrderedByStamps (stamp : ℕ → ℕ → ℕ) : Type 0 where
    pub moment : ℕ → ℕ → ℕ
    pub by_stamp : (f i g j : ℕ) → IsEvent (trace_in r) f i → IsEvent (trace_in r) g j → IsBefore stamp f i g j → moment f i < moment g j
    pub in_order : IsOneOrder (trace_in r) lawful.runs.labels (LeavesQueue s may r lawful) (Contains r.outside) moment

  -- the stamp that counted is that of a cause in the report
  pub record HasItsCauses (stamps : StampsOf) : Type 0 where
    pub puts : (f i q n : ℕ) → slice_get (trace_in r f) i ≡ Some (event.Got q n)
        → (g : ℕ) × (j : ℕ) × TakesWhatWasPut (trace_in r) (LeavesQueue s may r lawful) f i g j × (stamps.cause f i ≡ stamps.stamp g j)
    pub ends : (f i : ℕ) (e : Event) → slice_get (trace_in r f) i ≡ Some e → IsLearning e
        → (g : ℕ) × (j : ℕ) × LearnsOfEnd (trace_in r) lawful.runs.labels f i g j × (stamps.cause f i ≡ stamps.stamp g j)
    pub starts : (f : ℕ) (x : FiberReportView) → fiber_in r f ≡ Some x → f ≢ 0
        → (g : ℕ) × (j : ℕ) × (slice_get (trace_in r g) j ≡ Some (event.Start f)) × (stamps.began f ≡ stamps.stamp g j)

-- A report that is lawful by runs and histories for which these stamps of its events are those of the definition, and which they put in one order in which
-- causes come first, where none has come to the top
pub record IsLawfulWithStamps (s : ScriptView) (may : ℕ → Bool) (r : ReportView) (stamp : ℕ → ℕ → ℕ) : Type 0 where
  pub lawful : IsLawfulReport s may r
  pub began : ℕ → ℕ
  pub cause : ℕ → ℕ → ℕ
  pub are : IsStamped (trace_in r) lawful.runs.labels (LeavesQueue s may r lawful) (Contains r.outside) began stamp cause
  pub ordered : IsBelowTop (trace_in r) stamp → IsOrderedByStamps s may r lawful stamp
