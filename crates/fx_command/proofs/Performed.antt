-- What a replay or a run prints, and its status.
use Rattle.std.proofs.Common.{◌≡◌, ◌≤◌, ℕ, Option, Err, List, []}
use Rattle.fx_term.specs.declared.node.Node.{Node}
use Rattle.fx_term.specs.Meaning.{root_term}
use Rattle.fx_term.specs.Script.{total}
use Rattle.fx_text.specs.declared.pick.Pick.{Pick}
use Rattle.fx_text.specs.Meaning.{Meaning}
use Rattle.fx_model.specs.Report.{ReportView}
use Rattle.fx_plain.specs.declared.passed.PassedOver.{PassedOver}
use Rattle.fx_plain.specs.PassedPicks.{TellsPassed}
use Rattle.fx_plain.specs.declared.told.Told.{Told}
use Rattle.fx_plain.specs.ToldRun.{TellsRun}
use Rattle.fx_plain.specs.Standing.{IsReplayWithBlocked}
use Rattle.fx_run.specs.Workers.{most_workers}
use Rattle.fx_run.specs.LawfulRun.{IsLawfulHalt}
use Rattle.fx_report.specs.Script.{script_of}
use Rattle.fx_report.specs.Text.{queue_names, report_text, trace_text}
use Rattle.fx_report.specs.Status.{status_of}
use Rattle.fx_report.specs.Waits.{blocked_text}
use Rattle.fx_report.specs.declared.blocked.Blocked.{Blocked}
use Rattle.fx_findings.specs.declared.explored.Explored.{Explored}
use Rattle.fx_findings.specs.Answer.{IsExplored}
use Rattle.fx_findings.specs.Status.{explored_status}
use Rattle.fx_findings.specs.Text.{explored_text}
use Rattle.fx_findings.specs.Compared.{compared_text, compared_status}
use Rattle.fx_explore.specs.Setting.{setting}
use Rattle.fx_command.specs.declared.call.Search.{Search}
use Rattle.fx_command.specs.declared.call.Command.{Command}
use Rattle.fx_command.specs.declared.call.Command.TheVariants.{Replay, Trace, Steps, Run, Record, Explore, Expect}
use Rattle.fx_command.specs.declared.command_fault.CommandFault.TheVariants.{Write}
use Rattle.fx_command.specs.Stream.{StreamView, TakesPart}
use Rattle.fx_command.specs.Passed.{replay_words}
use Rattle.fx_places.specs.declared.place.FormPlace.{FormPlace}
use Rattle.fx_places.specs.Places.{positions_of}
use Rattle.fx_command.specs.Placed.{ArePlacesOrNone}
use Rattle.fx_command.specs.ToldText.{steps_text}
use Rattle.fx_command.specs.Performed.{nobody, IsPerformed, replayed, traced, stepped, ran, recorded, explored, compared, Performs}

module _ (source : List ℕ) (m : Meaning) (picks : List Pick) (expected : List ℕ) (r : ReportView) (blocked : List Blocked) (passed : Option PassedOver)
    (nodes : List Node) (places : List FormPlace) (words : List ℕ) (status : ℕ) (root : root_term nodes ≡ m.term)
    (runs : IsReplayWithBlocked nodes (script_of m) picks r blocked) (tells : TellsPassed (script_of m) picks passed)
    (placed : ArePlacesOrNone source nodes places) (said : words ≡ replay_words (queue_names m) passed (positions_of places) blocked)
    (is : status ≡ status_of r) where
  pub replayed_with_status : IsPerformed source m picks expected Replay words status (report_text (queue_names m) r)
  replayed_with_status = rw (is, said) (replayed root runs tells placed)

  pub traced_with_status : IsPerformed source m picks expected Trace words status (trace_text (queue_names m) r)
  traced_with_status = rw (is, said) (traced root runs tells placed)

  pub stepped_with_status : (told : List Told) → TellsRun nodes (script_of m) picks told
      → IsPerformed source m picks expected Steps words status (steps_text (queue_names m) places (total (script_of m)) told)
  stepped_with_status told run = rw (is, said) (stepped {told = told} root runs tells placed run)

module _ (source : List ℕ) (m : Meaning) (picks : List Pick) (expected : List ℕ) (workers : ℕ) (r : ReportView) (blocked : List Blocked) (nodes : List Node)
    (places : List FormPlace) (words : List ℕ) (status : ℕ) (can : (1 ≤ workers) × (workers ≤ most_workers)) (root : root_term nodes ≡ m.term)
    (lawful : IsLawfulHalt nodes (script_of m) nobody r blocked) (placed : ArePlacesOrNone source nodes places)
    (said : words ≡ blocked_text (queue_names m) (positions_of places) blocked) (is : status ≡ status_of r) where
  pub ran_with_status : IsPerformed source m picks expected (Run workers) words status (report_text (queue_names m) r)
  ran_with_status = rw (is, said) (ran can.0 can.1 root lawful placed)

  pub recorded_with_status : IsPerformed source m picks expected (Record workers) words status (trace_text (queue_names m) r)
  recorded_with_status = rw (is, said) (recorded can.0 can.1 root lawful placed)

pub explored_with_status : (source : List ℕ) (m : Meaning) (picks : List Pick) (expected : List ℕ) (search : Search) (e : Explored) (words : List ℕ)
    (status : ℕ)
    → IsExplored (setting (script_of m) search.target) search.most e → words ≡ [] → status ≡ explored_status e
    → IsPerformed source m picks expected (Explore search) words status (explored_text (queue_names m) e)
explored_with_status source m picks expected search e words status is none told = rw (told, none) (explored is)

pub compared_with_status : (source : List ℕ) (m : Meaning) (picks : List Pick) (expected : List ℕ) (search : Search) (e : Explored) (words : List ℕ)
    (status : ℕ)
    → IsExplored (setting (script_of m) search.target) search.most e → words ≡ [] → status ≡ compared_status (queue_names m) expected e
    → IsPerformed source m picks expected (Expect search) words status (compared_text (queue_names m) expected e)
compared_with_status source m picks expected search e words status is none told = rw (told, none) (compared is)

-- what is left where the text was cut short
pub cut_short : (source : List ℕ) (m : Meaning) (picks : List Pick) (expected : List ℕ) (c : Command) (words : List ℕ) (status : ℕ) (text : List ℕ)
    (old new : StreamView)
    → IsPerformed source m picks expected c words status text → TakesPart text old new → Performs c source m picks expected (Err Write) old new
cut_short source m picks expected c words status text old new performed part =
    (words, record { status = status; text = text; answer = performed; taken = part })
