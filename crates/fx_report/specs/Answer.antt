-- What the text of a script is answered with.
use Rattle.std.specs.Prelude.{◌≡◌, ℕ, Err, List}
use Rattle.fx_model.specs.Report.{ReportView}
use Rattle.fx_text.specs.declared.fault.TextFault.{TextFault}
use Rattle.fx_text.specs.Meaning.{Meaning}
use Rattle.fx_text.specs.Reading.{reading}
use Rattle.fx_text.specs.Grammar.{IsScript}
use Rattle.fx_report.specs.declared.status.TheConstants.{REFUSED}
use Rattle.fx_report.specs.Text.{queue_names, report_text}
use Rattle.fx_report.specs.Status.{status_of}
use Rattle.fx_report.specs.Refusal.{refusal_text}

-- the status and the printed text, where scripts have such reports: a report of the script, or one line where the text is no script, with its first fault
pub data IsAnswer (IsReport : Meaning → ReportView → Type 0) (text : List ℕ) : ℕ → List ℕ → Type 0 where
  reported : {m : Meaning} {r : ReportView} → IsScript text m → IsReport m r → IsAnswer IsReport text (status_of r) (report_text (queue_names m) r)
  refused : {f : TextFault} → ((m : Meaning) → IsScript text m → ⊥) → reading text ≡ Err f → IsAnswer IsReport text REFUSED (refusal_text f)
