-- What an event stands on, and one order of all events of a report.
use Rattle.std.specs.Prelude.{◌≡◌, ◌≢◌, ℕ, ◌<◌, ◌==◌, Bool, if◌then◌else◌, Option, Some, None, List, length, slice_get, take, Contains}
use Rattle.std.specs.List.{filter, filter_map}
use Rattle.fx_term.specs.declared.outcome.Outcome.{Outcome}
use Rattle.fx_term.specs.declared.event.Event.{Event}
use Rattle.fx_term.specs.declared.event.Event.TheVariants as event
use Rattle.fx_term.specs.Script.{ScriptView}
use Rattle.fx_term.specs.Queue.{QueueState, Taking, values_put}
use Rattle.fx_model.specs.Row.{Label, Learns}
use Rattle.fx_model.specs.Run.{shown}
use Rattle.fx_model.specs.Report.{FiberReportView, ReportView, fiber_in, trace_in}
use Rattle.fx_model.specs.LawfulReport.{IsLawfulReport}

abbrev pub value_got : ℕ → Event → Option ℕ
value_got q (event.Got r n) = if r == q then Some n else None
value_got q _ = None

-- the values that a trace takes out of queue q, in order
abbrev pub values_got : ℕ → List Event → List ℕ
values_got q es = filter_map (value_got q) es

-- what fiber f took, in order
abbrev pub takings_of : ℕ → QueueState → List Taking
takings_of f s = filter (λ (t : Taking). t.taker == f) s.taken

-- what fiber f took with its nth get
abbrev pub taking_of : QueueState → ℕ → ℕ → Option Taking
taking_of s f nth = slice_get (takings_of f s) nth

-- In what follows fibers have a trace each, by number, and the labels of a run, and queues are left so, by number, by the histories of their events.
-- Event i of fiber f takes an element out of a queue, and event j of fiber g put that element there, with the value that was taken
pub record TakesWhatWasPut (trace : ℕ → List Event) (IsLeft : ℕ → QueueState → Type 0) (f i g j : ℕ) : Type 0 where
  pub queue : ℕ
  pub value : ℕ
  pub got : slice_get (trace f) i ≡ Some (event.Got queue value)
  pub state : QueueState
  pub left : IsLeft queue state
  pub taking : Taking
  pub taken : taking_of state f (length (values_got queue (take i (trace f)))) ≡ Some taking
  pub fiber : taking.item.fiber ≡ g
  pub of_value : taking.item.value ≡ value
  pub put : slice_get (trace g) j ≡ Some (event.Put queue value)
  pub nth : length (values_put queue (take j (trace g))) ≡ taking.item.nth

-- event i of fiber f says what the fiber learnt: that fiber g ended with that outcome, which event j of g tells
pub record LearnsOfEnd (trace : ℕ → List Event) (labels : ℕ → List Label) (f i g j : ℕ) : Type 0 where
  pub outcome : Outcome
  pub learning : Event
  pub learns : slice_get (shown (labels f)) i ≡ Some (Learns g outcome learning)
  pub tells : slice_get (trace f) i ≡ Some learning
  pub ended : slice_get (trace g) j ≡ Some (event.Ended outcome)

-- Event i of fiber f stands on event j of fiber g: a get on the put of what it took, what learns of an end on that end, and a fiber's first event on the
-- start of the fiber
pub data Needs (trace : ℕ → List Event) (labels : ℕ → List Label) (IsLeft : ℕ → QueueState → Type 0) (f i g j : ℕ) : Type 0 where
  taken_element : TakesWhatWasPut trace IsLeft f i g j → Needs trace labels IsLeft f i g j
  end_of_other : LearnsOfEnd trace labels f i g j → Needs trace labels IsLeft f i g j
  start : i ≡ 0 → slice_get (trace g) j ≡ Some (event.Start f) → Needs trace labels IsLeft f i g j

-- an event that learns of an end: a join, an await, and the first of two
abbrev pub IsLearning : Event → Type 0
IsLearning (event.Joined g o) = Unit {0}
IsLearning (event.Awaited g) = Unit {0}
IsLearning (event.First n) = Unit {0}
IsLearning _ = ⊥

-- fiber f has an event i
abbrev pub IsEvent : (ℕ → List Event) → ℕ → ℕ → Type 0
IsEvent trace f i = i < length (trace f)

-- some request for fiber f comes before this moment
pub record IsRequestedBefore (trace : ℕ → List Event) (moment : ℕ → ℕ → ℕ) (f n : ℕ) : Type 0 where
  pub by : ℕ
  pub place : ℕ
  pub request : slice_get (trace by) place ≡ Some (event.Request f)
  pub before : moment by place < n

-- One order of all events: each has a moment of its own, each fiber's are in its own order, what an event stands on comes before it, and so does some
-- request for a fiber that sees one, unless that was requested from outside
pub record IsOneOrder (trace : ℕ → List Event) (labels : ℕ → List Label) (IsLeft : ℕ → QueueState → Type 0) (IsFromOutside : ℕ → Type 0)
    (moment : ℕ → ℕ → ℕ) : Type 0 where
  pub distinct : (f i g j : ℕ) → IsEvent trace f i → IsEvent trace g j → moment f i ≡ moment g j → (f ≡ g) × (i ≡ j)
  pub keeps : (f i j : ℕ) → IsEvent trace f i → IsEvent trace f j → i < j → moment f i < moment f j
  pub needed : (f i g j : ℕ) → IsEvent trace f i → IsEvent trace g j → Needs trace labels IsLeft f i g j → moment g j < moment f i
  pub requested : (f i : ℕ) → slice_get (trace f) i ≡ Some event.Seen → (IsFromOutside f → ⊥) → IsRequestedBefore trace moment f (moment f i)

module _ (s : ScriptView) (may : ℕ → Bool) (r : ReportView) (lawful : IsLawfulReport s may r) where
  -- the history of queue q leaves it so
  abbrev pub LeavesQueue : ℕ → QueueState → Type 0
  LeavesQueue q state = state ≡ (lawful.histories q).leaves.last

  -- what an event stands on is in the report: the put of what is taken out of a queue, the end that is learnt, and the start of a fiber, in its parent's trace
  pub record FindsItsCauses : Type 0 where
    pub puts : (f i q n : ℕ) → slice_get (trace_in r f) i ≡ Some (event.Got q n)
        → (g : ℕ) × (j : ℕ) × TakesWhatWasPut (trace_in r) LeavesQueue f i g j
    pub ends : (f i : ℕ) (e : Event) → slice_get (trace_in r f) i ≡ Some e → IsLearning e
        → (g : ℕ) × (j : ℕ) × LearnsOfEnd (trace_in r) lawful.runs.labels f i g j
    pub starts : (f : ℕ) (x : FiberReportView) → fiber_in r f ≡ Some x → f ≢ 0
        → (g : ℕ) × (j : ℕ) × (x.parent ≡ Some g) × (slice_get (trace_in r g) j ≡ Some (event.Start f))

  -- One order of all events of the report
  pub record CausesComeFirst : Type 0 where
    pub moment : ℕ → ℕ → ℕ
    pub in_order : IsOneOrder (trace_in r) lawful.runs.labels LeavesQueue (Contains r.outside) moment

-- A report that is lawful by runs and histories whose events stand in one order. Other histories of the same queues can pair takes and puts in another way,
-- so not each of them has such an order
pub record IsLawfulInOneOrder (s : ScriptView) (may : ℕ → Bool) (r : ReportView) : Type 0 where
  pub lawful : IsLawfulReport s may r
  pub causes : CausesComeFirst s may r lawful
