-- A lawful report is writable.
use Rattle.std.proofs.Common.{◌≡◌, ℕ, Bool, Some, List, All, length, sym, ◌∙◌, ap, subst}
use Rattle.std.proofs.lemmas.List.{length-map}
use Rattle.fx_term.specs.QueuesNamed.{NamesQueuesBelow, NamesQueueBelow}
use Rattle.fx_term.specs.Script.{ScriptView}
use Rattle.fx_model.specs.Origin.{Origin}
use Rattle.fx_model.specs.Report.{FiberReportView, ReportView, fiber_in}
use Rattle.fx_model.specs.LawfulReport.{IsLawfulReport}
use Rattle.fx_model.proofs.HeadlineLaws.{each_begins_so}
use Rattle.fx_model.proofs.QueueNames.{run_starts_named, run_names}
use Rattle.fx_text.specs.Meaning.{Meaning}
use Rattle.fx_report.specs.Script.{script_of}
use Rattle.fx_report.specs.Text.{queue_names, ends, IsWritableFiber, IsWritable}
use Rattle.fx_report.proofs.Endings.{run_ends}
use Rattle.fx_report.proofs.Keys.{all_found}

module _ (s : ScriptView) (may : ℕ → Bool) (r : ReportView) (n : ℕ) (named : NamesQueuesBelow n s.term) (lawful : IsLawfulReport s may r) where
  begins_named : (f : ℕ) (x : FiberReportView) → fiber_in r f ≡ Some x → NamesQueuesBelow n (lawful.runs.origin f).term
  begins_named = each_begins_so s r lawful.starters lawful.runs lawful.origins (λ (b : Origin). NamesQueuesBelow n b.term) (run_starts_named n) named

  -- a fiber of the report: its run began at a term that names such queues
  writable_fiber : (f : ℕ) (x : FiberReportView) → fiber_in r f ≡ Some x → IsWritableFiber n x
  writable_fiber f x at =
      let runs = lawful.runs in
      let own = runs.run f x at in
      record {
        named = subst (All (NamesQueueBelow n)) own.trace
            (run_names n (runs.origin f) (runs.labels f) (runs.counts f) (runs.progress f) (begins_named f x at) own.run);
        state = sym (ap ends own.trace) ∙ run_ends (runs.origin f) (runs.labels f) (runs.counts f) (runs.progress f) own.run ∙ own.state;
      }

  writable_fibers : All (IsWritableFiber n) r.fibers
  writable_fibers = all_found (λ (x : FiberReportView). x.id) (IsWritableFiber n) r.fibers lawful.starters.ascending writable_fiber

pub lawful_is_writable : (m : Meaning) (may : ℕ → Bool) (r : ReportView) → NamesQueuesBelow (length m.queues) m.term → IsLawfulReport (script_of m) may r
    → IsWritable (queue_names m) r
lawful_is_writable m may r named lawful =
    let many : length (queue_names m) ≡ length m.queues = length-map m.queues (λ (q : List ℕ × ℕ). q.0) in
    record {
      left_by_queue = lawful.left_by_queue ∙ length-map m.queues (λ (q : List ℕ × ℕ). q.1) ∙ sym many;
      fibers = subst (λ (n : ℕ). All (IsWritableFiber n) r.fibers) (sym many) (writable_fibers (script_of m) may r (length m.queues) named lawful);
    }
