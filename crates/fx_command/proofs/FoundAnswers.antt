-- What a replay answers by the schedule of a finding.
use Rattle.std.proofs.Common.{◌≡◌, ◌≤◌, ℕ, Option, Some, List, All, length, refl, sym, ◌∙◌, subst}
use Rattle.std.proofs.lemmas.Result.{MatchResult-at_ok}
use Rattle.fx_text.specs.declared.pick.Pick.{Pick}
use Rattle.fx_text.specs.Limits.{most_picks}
use Rattle.fx_text.specs.Meaning.{Meaning}
use Rattle.fx_text.specs.Grammar.{IsScript}
use Rattle.fx_text.specs.Schedule.{IsSchedule}
use Rattle.fx_text.proofs.ScriptLaws.{reading_law}
use Rattle.fx_text.proofs.ScheduleLaws.{schedule_law}
use Rattle.fx_model.specs.Report.{ReportView}
use Rattle.fx_report.specs.Script.{script_of}
use Rattle.fx_report.specs.Status.{status_of}
use Rattle.fx_report.specs.Text.{queue_names, report_text}
use Rattle.fx_plain.specs.Chosen.{IsReplay}
use Rattle.fx_explore.specs.Setting.{setting}
use Rattle.fx_findings.specs.declared.explored.Finding.{Finding}
use Rattle.fx_findings.specs.Explored.{view_told, schedule_of, IsFinding}
use Rattle.fx_findings.specs.Printed.{TellsSo, HasSmallNumber}
use Rattle.fx_findings.specs.Text.{picks_text}
use Rattle.fx_findings.proofs.FoundReplays.{tells_replay}
use Rattle.fx_findings.proofs.PrintedSchedules.{is_read}
use Rattle.fx_command.specs.declared.call.Command.TheVariants.{Replay}
use Rattle.fx_command.specs.Performed.{IsPerformed, replayed}
use Rattle.fx_command.specs.CommandAnswer.{IsCommandAnswer, performed, no_script, no_schedule}

-- a text has one meaning, and one list of picks
pub one_meaning : (text : List ℕ) (m m' : Meaning) → IsScript text m → IsScript text m' → m ≡ m'
one_meaning text m m' is is' =
    MatchResult-at_ok (λ n. m ≡ n) (λ _. ⊥) m' (sym ((reading_law text m).0 is) ∙ (reading_law text m').0 is') refl

one_schedule : (text : List ℕ) (ps ps' : List Pick) → IsSchedule text ps → IsSchedule text ps' → ps ≡ ps'
one_schedule text ps ps' is is' =
    MatchResult-at_ok (λ qs. ps ≡ qs) (λ _. ⊥) ps' (sym ((schedule_law text ps).0 is) ∙ (schedule_law text ps').0 is') refl

module _ (m : Meaning) (target : Option ℕ) (x : Finding) (ps : List Pick) (h : IsFinding (setting (script_of m) target) x) (e : schedule_of x ≡ Some ps) where
  abbrev Tells : List ℕ → ℕ → Type 0
  Tells = TellsSo (queue_names m) (view_told x.told)

  told_again : (r : ReportView) → IsReplay (script_of m) ps r → Tells (report_text (queue_names m) r) (status_of r)
  told_again = rw e at (tells_replay (setting (script_of m) target) x (queue_names m) h)

  performed_again : (source expected words : List ℕ) (status : ℕ) (text : List ℕ) → IsPerformed source m ps expected Replay words status text
      → Tells text status
  performed_again _ _ _ _ _ (replayed {r = r} root run tells placed) =
      told_again r (record { moves = run.replay.moves; last = run.replay.last; chosen = run.replay.chosen; report = run.replay.report })

  pub answered_again : (script expected words : List ℕ) (status : ℕ) (text : List ℕ) → IsScript script m → All HasSmallNumber ps → length ps ≤ most_picks
      → IsCommandAnswer Replay script (picks_text ps) expected words status text → Tells text status
  answered_again script expected words status text is small few (performed {m = n} {ps = qs} has picks done) =
      let same_m = one_meaning script n m has is in
      let same_ps = one_schedule (picks_text ps) qs ps picks (is_read ps small few) in
      performed_again script expected words status text
      (subst (λ (k : Meaning). IsPerformed script k ps expected Replay words status text) same_m
      (subst (λ (rs : List Pick). IsPerformed script n rs expected Replay words status text) same_ps done))
  answered_again script expected words _ text is small few (no_script none) = absurd (none.none m is)
  answered_again script expected words _ text is small few (no_schedule has none) = absurd (none.none ps (is_read ps small few))
