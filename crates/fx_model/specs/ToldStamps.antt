-- What fibers, words and queues tell of stamps.
use Rattle.std.specs.Prelude.{◌≡◌, ℕ, Bool, Option, Some, List, slice_get, max, ◌⊎◌, Contains, length, ◌<◌}
use Rattle.fx_term.specs.Lists.{Among}
use Rattle.fx_term.specs.declared.outcome.Outcome.{Outcome}
use Rattle.fx_term.specs.declared.event.Event.{Event}
use Rattle.fx_term.specs.declared.event.Event.TheVariants as event
use Rattle.fx_term.specs.Script.{ScriptView}
use Rattle.fx_model.specs.Row.{Label, Learns}
use Rattle.fx_model.specs.Report.{ReportView, trace_in}
use Rattle.fx_model.specs.LawfulReport.{IsLawfulReport}
use Rattle.fx_model.specs.Run.{shown}
use Rattle.fx_model.specs.Stamps.{HasNoCause, one_more, stamp_before}
use Rattle.fx_model.specs.StampedQueue.{AreStampedHistories}

-- Of a fiber alone, from what it began with: after each step its stamp is one more than the greater of the one before and that of the cause, which is 0 where
-- the event has none
pub record OwnStamps (trace : List Event) (began : ℕ) (stamp cause : ℕ → ℕ) : Type 0 where
  pub each : (i : ℕ) → i < length trace → stamp i ≡ one_more (max (stamp_before began stamp i) (cause i))
  pub none : (i : ℕ) (e : Event) → slice_get trace i ≡ Some e → HasNoCause e → cause i ≡ 0

-- The entry of a fiber in the words' view: the stamp that it began with; the fibers that it split off, each with the stamp of its start; those that it
-- asked for, each with the stamp of the request; the requests' stamps that it loaded; the stamp that it stored to end with; and the fibers of whose ends it
-- learnt, each with the stamp of its end
pub record StampsEntry : Type 0 where
  pub began : ℕ
  pub parts : List (ℕ × ℕ)
  pub asked : List (ℕ × ℕ)
  pub loaded : List ℕ
  pub stored : Option ℕ
  pub learnt : List (ℕ × ℕ)

-- a trace requests the fiber with this stamp
abbrev pub Requests : List Event → (ℕ → ℕ) → ℕ → ℕ → Type 0
Requests trace stamp g t = (j : ℕ) × (slice_get trace j ≡ Some (event.Request g)) × (t ≡ stamp j)

-- the entry agrees with what the fiber did, and with what its port noted as requested from outside
pub record EntryAgrees (trace : List Event) (labels : List Label) (stamp cause : ℕ → ℕ) (IsNoted : ℕ → Type 0) (e : StampsEntry) : Type 0 where
  pub started : (g j : ℕ) → slice_get trace j ≡ Some (event.Start g) → Among (g, stamp j) e.parts
  pub asked : (g t : ℕ) → Among (g, t) e.asked → Requests trace stamp g t ⊎ (IsNoted g × (t ≡ 0))
  pub saw : (i : ℕ) → slice_get trace i ≡ Some event.Seen → Among (cause i) e.loaded
  pub found : (i g : ℕ) (o : Outcome) (v : Event) → slice_get (shown labels) i ≡ Some (Learns g o v) → Among (g, cause i) e.learnt
  pub ended : (j : ℕ) (o : Outcome) → slice_get trace j ≡ Some (event.Ended o) → e.stored ≡ Some (stamp j)

-- what the close of the words tells of the entries
pub record ClosedStamps (entry : ℕ → StampsEntry) : Type 0 where
  pub main : (entry 0).began ≡ 0
  pub split : (f g t : ℕ) → Among (g, t) (entry f).parts → (entry g).began ≡ t
  pub seen : (f t : ℕ) → Among t (entry f).loaded → (d : ℕ) × Among (f, t) (entry d).asked
  pub learnt : (f g t : ℕ) → Among (g, t) (entry f).learnt → (entry g).stored ≡ Some t

module _ (s : ScriptView) (may : ℕ → Bool) (r : ReportView) (lawful : IsLawfulReport s may r) where
  -- all that is told of the stamps of a report's events: by each fiber, by the words, and by the queues
  pub record AreTold (entry : ℕ → StampsEntry) (stamp cause : ℕ → ℕ → ℕ) : Type 0 where
    pub own : (f : ℕ) → OwnStamps (trace_in r f) (entry f).began (stamp f) (cause f)
    pub agree : (f : ℕ) → EntryAgrees (trace_in r f) (lawful.runs.labels f) (stamp f) (cause f) (Contains r.outside) (entry f)
    pub closed : ClosedStamps entry
    pub queues : AreStampedHistories s may r lawful stamp cause
