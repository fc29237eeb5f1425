-- What an answer says to a search.
use Rattle.std.proofs.Common.{◌≡◌, ℕ, Option, List, refl, subst}
use Rattle.fx_text.specs.Meaning.{Meaning}
use Rattle.fx_text.specs.Grammar.{IsScript}
use Rattle.fx_text.specs.declared.pick.Pick.{Pick}
use Rattle.fx_model.specs.Report.{ReportView}
use Rattle.fx_report.specs.Script.{script_of}
use Rattle.fx_report.specs.Status.{status_of}
use Rattle.fx_report.specs.Text.{queue_names}
use Rattle.fx_report.specs.declared.status.TheConstants.{ENDED, REFUSED}
use Rattle.fx_explore.specs.Setting.{setting}
use Rattle.fx_findings.specs.Explored.{IsReportWithin}
use Rattle.fx_findings.specs.PrintedReports.{SaysComplete, IsPrinted}
use Rattle.fx_findings.proofs.PrintedReports.{each_is_printed, passed_says, passed_ended}
use Rattle.fx_command.specs.declared.call.Search.{Search}
use Rattle.fx_command.specs.declared.call.Command.TheVariants.{Explore}
use Rattle.fx_command.specs.Performed.{IsPerformed, explored}
use Rattle.fx_command.specs.CommandAnswer.{IsCommandAnswer, performed, no_script, no_schedule}
use Rattle.fx_command.proofs.FoundAnswers.{one_meaning}

-- the text has the report of each run of the script in which nobody but the target is requested from outside
abbrev pub PrintsEach : Meaning → Option ℕ → List ℕ → Type 0
PrintsEach m target text = (r : ReportView) → IsReportWithin (setting (script_of m) target) r → IsPrinted (script_of m) (queue_names m) r text

-- in none of these a fiber is blocked, and the text says that there are no others
pub record Passes (m : Meaning) (target : Option ℕ) (text : List ℕ) : Type 0 where
  pub complete : SaysComplete text
  pub ended : (r : ReportView) → IsReportWithin (setting (script_of m) target) r → status_of r ≡ ENDED

module _ (search : Search) where
  performed_prints : (source : List ℕ) (m : Meaning) (ps : List Pick) (expected words : List ℕ) (status : ℕ) (text : List ℕ)
      → IsPerformed source m ps expected (Explore search) words status text → SaysComplete text → PrintsEach m search.target text
  performed_prints source m ps expected _ _ _ (explored {e = e} is) says =
      each_is_printed (setting (script_of m) search.target) search.most e (queue_names m) is says

  performed_passes : (source : List ℕ) (m : Meaning) (ps : List Pick) (expected words : List ℕ) (status : ℕ) (text : List ℕ)
      → IsPerformed source m ps expected (Explore search) words status text → status ≡ ENDED → Passes m search.target text
  performed_passes source m ps expected _ _ _ (explored {e = e} is) ended = record {
    complete = passed_says (setting (script_of m) search.target) search.most e (queue_names m) is ended;
    ended = passed_ended (setting (script_of m) search.target) search.most e is ended;
  }

  pub answer_prints : (script schedule expected words text : List ℕ) (m : Meaning) (status : ℕ) → IsScript script m
      → IsCommandAnswer (Explore search) script schedule expected words status text → (status ≡ REFUSED → ⊥) → SaysComplete text
      → PrintsEach m search.target text
  answer_prints script schedule expected words text m status is (performed {m = n} {ps = ps} has picks done) unrefused says =
      subst (λ (k : Meaning). PrintsEach k search.target text) (one_meaning script n m has is)
      (performed_prints script n ps expected words status text done says)
  answer_prints script schedule expected words text m _ is (no_script none) unrefused says = absurd (none.none m is)
  answer_prints script schedule expected words text m _ is (no_schedule has none) unrefused says = absurd (unrefused refl)

  pub answer_passes : (script schedule expected words text : List ℕ) (m : Meaning) (status : ℕ) → IsScript script m
      → IsCommandAnswer (Explore search) script schedule expected words status text → status ≡ ENDED → Passes m search.target text
  answer_passes script schedule expected words text m status is (performed {m = n} {ps = ps} has picks done) ended =
      subst (λ (k : Meaning). Passes k search.target text) (one_meaning script n m has is)
      (performed_passes script n ps expected words status text done ended)
  answer_passes script schedule expected words text m _ is (no_script none) ended = absurd (none.none m is)
  answer_passes script schedule expected words text m _ is (no_schedule has none) ended = absurd cc
