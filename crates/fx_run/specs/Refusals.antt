-- What stands behind each refusal that the traces of a report tell.
use Rattle.std.specs.Prelude.{◌≡◌, ℕ, ◌≤◌, Bool, Some, List, [], ◌∷◌, ◌++◌, length}
use Rattle.fx_term.specs.declared.event.Event.{Event}
use Rattle.fx_term.specs.declared.event.Event.TheVariants as event
use Rattle.fx_term.specs.Element.{Element}
use Rattle.fx_term.specs.declared.queue_event.QueueEvent.{QueueEvent}
use Rattle.fx_term.specs.Queue.{cut, queue_events, Leaves}
use Rattle.fx_term.specs.Script.{ScriptView, total}
use Rattle.fx_model.specs.Report.{FiberReportView, ReportView, fiber_in, capacity_of}
use Rattle.fx_model.specs.LawfulReport.{IsLawfulReport}
use Rattle.fx_queue.specs.History.{Begins}
use Rattle.fx_port.specs.PassesAgree.{Refusal, Full, Empty}
use Rattle.fx_run.specs.Ancestors.{ComesFrom}

-- the event that tells of a refusal at queue q, and how many elements the queue held
abbrev pub refused : Refusal → ℕ → Event
refused Full q = event.Refused q
refused Empty q = event.Empty q

abbrev pub held : Refusal → ℕ → ℕ
held Full capacity = capacity
held Empty capacity = 0

-- the report has no other fiber
abbrev pub IsOnlyFiber : ReportView → ℕ → Type 0
IsOnlyFiber r f = (g : ℕ) (x : FiberReportView) → fiber_in r g ≡ Some x → g ≡ f

-- At one moment after these events of fiber f, and before its next one at queue q, the queue was full, or empty: a legal history that has just these events of
-- the fiber, and none of a number that is no fiber's, leaves it so. It begins as the history does that the report has of the queue, and goes with that at
-- least as far as the last of these events, and of each fiber that f comes from as far as the last event before it started f, or who started f. Where the
-- report has no other fiber it is these events alone
pub record HeldAfter (s : ScriptView) (r : ReportView) (k : Refusal) (q f : ℕ) (history : List QueueEvent) (before : List Event) : Type 0 where
  pub log : List QueueEvent
  pub items : List Element
  pub shared : List QueueEvent
  pub legal : Leaves (capacity_of s q) log items
  pub found : length items ≡ held k (capacity_of s q)
  pub reported : Begins history shared
  pub begins : Begins log shared
  pub known : cut f shared ≡ queue_events q f before
  pub cuts : cut f log ≡ queue_events q f before
  pub ancestors : (g : ℕ) (earlier : List Event) → ComesFrom r f g earlier → Begins (cut g shared) (queue_events q g earlier)
  pub within : (g : ℕ) → total s ≤ g → cut g log ≡ []
  pub alone : IsOnlyFiber r f → log ≡ queue_events q f before

-- where a fiber found a queue full it was full, and where one found it empty it was empty, by the histories of a lawful report; a queue that there is not is
-- both
abbrev pub AreRefusalsTrue : (s : ScriptView) (may_be_requested : ℕ → Bool) (r : ReportView) → IsLawfulReport s may_be_requested r → Type 0
AreRefusalsTrue s may r lawful = (f : ℕ) (x : FiberReportView) → fiber_in r f ≡ Some x → (k : Refusal) (q : ℕ) (before after : List Event)
    → x.trace ≡ before ++ refused k q ∷ after
    → HeldAfter s r k q f (lawful.histories q).history before

-- A report that is lawful by histories by which its refusals are true. Another history of the same queue can have the events of other fibers in another order,
-- and then need not go with what the fiber that was refused had seen
pub record IsLawfulWithRefusals (s : ScriptView) (may_be_requested : ℕ → Bool) (r : ReportView) : Type 0 where
  pub lawful : IsLawfulReport s may_be_requested r
  pub refusals : AreRefusalsTrue s may_be_requested r lawful
