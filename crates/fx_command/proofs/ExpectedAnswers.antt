-- What an answer says to a search that was compared with what is expected.
use Rattle.std.proofs.Common.{◌≡◌, ℕ, Option, List, subst}
use Rattle.fx_term.specs.Lists.{Among}
use Rattle.fx_text.specs.Meaning.{Meaning}
use Rattle.fx_text.specs.Grammar.{IsScript}
use Rattle.fx_text.specs.declared.pick.Pick.{Pick}
use Rattle.fx_model.specs.Report.{ReportView}
use Rattle.fx_report.specs.declared.status.TheConstants.{ENDED}
use Rattle.fx_report.specs.Script.{script_of}
use Rattle.fx_report.specs.Text.{queue_names, report_text}
use Rattle.fx_findings.specs.Explored.{IsReportWithin}
use Rattle.fx_findings.specs.Expected.{reports_of}
use Rattle.fx_findings.proofs.Judged.{each_is_expected}
use Rattle.fx_explore.specs.Setting.{setting}
use Rattle.fx_command.specs.declared.call.Search.{Search}
use Rattle.fx_command.specs.declared.call.Command.TheVariants.{Expect}
use Rattle.fx_command.specs.Performed.{IsPerformed, compared}
use Rattle.fx_command.specs.CommandAnswer.{IsCommandAnswer, performed, no_script, no_schedule}
use Rattle.fx_command.proofs.FoundAnswers.{one_meaning}

-- the text says each report of a run of the script in which nobody but the target is requested from outside
abbrev pub SaysEach : Meaning → Option ℕ → List ℕ → Type 0
SaysEach m target expected = (r : ReportView) → IsReportWithin (setting (script_of m) target) r → Among (report_text (queue_names m) r) (reports_of expected)

performed_so : (source : List ℕ) (m : Meaning) (ps : List Pick) (expected : List ℕ) (search : Search) (words : List ℕ) (status : ℕ) (text : List ℕ)
    → IsPerformed source m ps expected (Expect search) words status text → status ≡ ENDED → SaysEach m search.target expected
performed_so source m ps expected search _ _ _ (compared {e = e} explored) is =
    each_is_expected (setting (script_of m) search.target) search.most e (queue_names m) expected explored is

pub answered_so : (m : Meaning) (search : Search) (script schedule expected words : List ℕ) (status : ℕ) (text : List ℕ) → IsScript script m
    → IsCommandAnswer (Expect search) script schedule expected words status text → status ≡ ENDED → SaysEach m search.target expected
answered_so m search script schedule expected words status text is (performed {m = n} {ps = ps} has picks done) ended =
    subst (λ (k : Meaning). SaysEach k search.target expected) (one_meaning script n m has is)
    (performed_so script n ps expected search words status text done ended)
answered_so m search script schedule expected words _ text is (no_script none) ended = absurd (none.none m is)
answered_so m search script schedule expected words _ text is (no_schedule has none) ended = absurd cc
