-- The report of a run that has ended, and what makes it lawful.
use Rattle.std.proofs.Common.{◌≡◌, ℕ, Bool, Some}
use Rattle.fx_term.specs.Script.{ScriptView}
use Rattle.fx_model.specs.Report.{ReportView}
use Rattle.fx_model.specs.LawfulReport.{IsLawfulReport}
use Rattle.fx_run.specs.RanFiber.{RanFiber, ran_at}
use Rattle.fx_fiber.specs.Bare.{reached}
use Rattle.fx_run.specs.EndOfRun.{EndsWithReport}
use Rattle.fx_run.proofs.GivenFibers.{report}
use Rattle.fx_run.proofs.Lawful.{report_is_lawful, progress_told}

module _ (s : ScriptView) (may : ℕ → Bool) (answer : ReportView) (h : EndsWithReport s may answer) where
  abbrev pub end_report : ReportView
  end_report = report h.fibers h.left h.outside h.late

  abbrev pub end_is_lawful : IsLawfulReport s may end_report
  end_is_lawful =
      report_is_lawful s h.nodes h.fibers h.left h.outside h.late h.ran h.ascending h.answered.none_lost h.words h.answered.none_unsettled
      h.term h.noted may h.named h.left_by_queue h.queues h.undeclared

  -- its runs have come to where the fibers stand
  pub end_progress : (f : ℕ) (p : RanFiber) → ran_at h.fibers f ≡ Some p → end_is_lawful.runs.progress f ≡ reached p.bare
  end_progress =
      progress_told s h.nodes h.fibers h.left h.outside h.late h.ran h.ascending h.answered.none_lost h.words h.answered.none_unsettled
      h.term h.noted may h.named h.left_by_queue h.queues h.undeclared
