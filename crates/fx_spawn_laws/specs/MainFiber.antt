-- What a report says of the main fiber, and a main fiber that hands back what it learns of the one that it starts.
use Rattle.std.specs.Prelude.{◌≡◌, ℕ, true, false, Some, None, List, All}
use Rattle.fx_term.specs.declared.node.Arg.TheVariants.{Number, Slot}
use Rattle.fx_term.specs.declared.outcome.Outcome.{Outcome}
use Rattle.fx_term.specs.declared.outcome.Outcome.TheVariants.{Succeeded}
use Rattle.fx_term.specs.declared.outcome.Outcome.TheVariants as outcome
use Rattle.fx_term.specs.Term.{Term, Pure, Raise, Never, Let, Mask, Start, Join, Cancel}
use Rattle.fx_model.specs.Row.{Counts, Label}
use Rattle.fx_model.specs.Origin.{Origin, child_origin}
use Rattle.fx_model.specs.Step.{Progress, has_ended}
use Rattle.fx_model.specs.Run.{IsRun, IsUnrequested, events}
use Rattle.fx_model.specs.Report.{FiberReportView, ReportView, fiber_in}
use Rattle.fx_model.specs.LawfulReport.{EndsWith}

-- the main fiber has ended, with that outcome
pub record MainEnds (r : ReportView) (o : Outcome) : Type 0 where
  pub fiber : FiberReportView
  pub is_main : fiber_in r 0 ≡ Some fiber
  pub has_ended : fiber.has_ended ≡ true
  pub ends : EndsWith fiber.trace o

-- this fiber is in the report and has ended, with that outcome
pub record FiberEnds (r : ReportView) (f : ℕ) (o : Outcome) : Type 0 where
  pub fiber : FiberReportView
  pub is_fiber : fiber_in r f ≡ Some fiber
  pub has_ended : fiber.has_ended ≡ true
  pub ends : EndsWith fiber.trace o

-- the main fiber has not ended: it waits, since no fiber of a lawful report that has not ended can step
pub record MainIsBlocked (r : ReportView) : Type 0 where
  pub fiber : FiberReportView
  pub is_main : fiber_in r 0 ≡ Some fiber
  pub is_blocked : fiber.has_ended ≡ false

-- (join h (x (pure x)) (e (raise e)) (pure m)), where h is the first name: what is learnt is handed back, and the end of a canceled fiber as the number m
abbrev pub hands_back : ℕ → Term
hands_back m = Join (Slot 0) 1 (Pure (Slot 1)) 1 (Raise (Slot 1)) (Pure (Number m))

-- (start h t (join h (x (pure x)) (e (raise e)) (pure m)))
abbrev pub start_and_join : Term → ℕ → Term
start_and_join t m = Start 0 t (hands_back m)

-- (start h t (seq (cancel h) (join h (x (pure x)) (e (raise e)) (pure m)))), and the same with `never`
abbrev pub start_cancel_and_join_of : Term → ℕ → Term
start_cancel_and_join_of t m = Start 0 t (Let None (Cancel (Slot 0)) (hands_back m))

abbrev pub start_cancel_and_join : ℕ → Term
start_cancel_and_join m = start_cancel_and_join_of Never m

-- (mask p (start h t (cancel h)))
abbrev pub masked_start_of : Term → Term
masked_start_of t = Mask 0 (Start 1 t (Cancel (Slot 1)))

abbrev pub masked_start : Term
masked_start = masked_start_of Never

-- (start h t (mask p (cancel h)))
abbrev pub masked_cancel_of : Term → Term
masked_cancel_of t = Start 0 t (Mask 1 (Cancel (Slot 0)))

abbrev pub masked_cancel : Term
masked_cancel = masked_cancel_of Never

-- what is handed back of a fiber with this outcome
abbrev pub handed : ℕ → Outcome → Outcome
handed m outcome.Canceled = Succeeded m
handed m o = o

-- Fiber 1 ran t, as one that nobody requests does, and the main fiber comes to what fiber 1 came to: it has ended with that outcome, handed back, or waits
-- where fiber 1 has not ended
pub record HandsBackItsChild (r : ReportView) (t : Term) (m : ℕ) : Type 0 where
  pub child : FiberReportView
  pub is_child : fiber_in r 1 ≡ Some child
  pub labels : List Label
  pub counts : Counts
  pub progress : Progress
  pub run : IsRun (child_origin 1 t) labels counts progress
  pub trace : events labels ≡ child.trace
  pub state : has_ended progress ≡ child.has_ended
  pub unrequested : All IsUnrequested labels
  pub ends : (o : Outcome) → EndsWith child.trace o → MainEnds r (handed m o)
  pub waits : child.has_ended ≡ false → MainIsBlocked r

-- Fiber 1 began so, requested or not, and the main fiber comes to this by its outcome, and waits where it has not ended
pub record MainAwaits (r : ReportView) (b : Origin) (Comes : Outcome → Type 0) : Type 0 where
  pub child : FiberReportView
  pub is_child : fiber_in r 1 ≡ Some child
  pub labels : List Label
  pub counts : Counts
  pub progress : Progress
  pub run : IsRun b labels counts progress
  pub trace : events labels ≡ child.trace
  pub state : has_ended progress ≡ child.has_ended
  pub ends : (o : Outcome) → EndsWith child.trace o → Comes o
  pub waits : child.has_ended ≡ false → MainIsBlocked r
