-- What is done with a script and picks, and what is printed and said of it.
use Rattle.std.specs.Prelude.{◌≡◌, ℕ, ◌≤◌, Bool, false, Option, Result, Ok, Err, List, [], ◌++◌, codes, decimal, length, string_bytes}
use Rattle.fx_term.specs.declared.node.Node.{Node}
use Rattle.fx_term.specs.Meaning.{root_term}
use Rattle.fx_term.specs.Script.{total}
use Rattle.fx_text.specs.declared.pick.Pick.{Pick}
use Rattle.fx_text.specs.Meaning.{Meaning}
use Rattle.fx_model.specs.Report.{ReportView}
use Rattle.fx_report.specs.declared.status.TheConstants.{ENDED}
use Rattle.fx_plain.specs.declared.passed.PassedOver.{PassedOver}
use Rattle.fx_plain.specs.PassedPicks.{TellsPassed}
use Rattle.fx_plain.specs.declared.told.Told.{Told}
use Rattle.fx_plain.specs.ToldRun.{TellsRun}
use Rattle.fx_plain.specs.Standing.{IsReplayWithBlocked}
use Rattle.fx_run.specs.Workers.{most_workers}
use Rattle.fx_run.specs.LawfulRun.{IsLawfulHalt}
use Rattle.fx_report.specs.declared.blocked.Blocked.{Blocked}
use Rattle.fx_report.specs.Script.{script_of}
use Rattle.fx_report.specs.Text.{line_end, queue_names, report_text, trace_text}
use Rattle.fx_report.specs.Status.{status_of}
use Rattle.fx_report.specs.Waits.{blocked_text}
use Rattle.fx_follow.specs.declared.stand.Stand.{Stand}
use Rattle.fx_order.specs.declared.occurrence.Occurrence.{Occurrence}
use Rattle.fx_counts.specs.declared.at_queue.AtQueue.{AtQueue}
use Rattle.fx_findings.specs.declared.explored.Explored.{Explored}
use Rattle.fx_findings.specs.Answer.{IsExplored}
use Rattle.fx_findings.specs.Status.{explored_status}
use Rattle.fx_findings.specs.Text.{explored_text}
use Rattle.fx_findings.specs.Compared.{compared_text, compared_status}
use Rattle.fx_explore.specs.Setting.{setting}
use Rattle.fx_command.specs.declared.call.Search.{Search}
use Rattle.fx_command.specs.declared.call.Command.{Command}
use Rattle.fx_command.specs.declared.call.Command.TheVariants.{Check, Replay, Trace, Steps, Picture}
use Rattle.fx_command.specs.declared.call.Command.TheVariants as command
use Rattle.fx_command.specs.declared.command_fault.CommandFault.{CommandFault}
use Rattle.fx_command.specs.declared.command_fault.CommandFault.TheVariants.{Refused, Unreadable, Memory, Write, Run}
use Rattle.fx_command.specs.Passed.{replay_words}
use Rattle.fx_command.specs.StoodEvents.{stood_events}
use Rattle.fx_command.specs.StoodOfRun.{stood_of_run}
use Rattle.fx_command.specs.HandlesTold.{named_told, named_of_run}
use Rattle.fx_run_events.specs.Found.{AreFollowedOrNone, AreCountedOrNone}
use Rattle.fx_command.specs.Pictured.{IsPictured}
use Rattle.fx_places.specs.declared.place.FormPlace.{FormPlace}
use Rattle.fx_places.specs.Places.{positions_of}
use Rattle.fx_command.specs.Placed.{ArePlacesOrNone}
use Rattle.fx_command.specs.ToldText.{steps_text}
use Rattle.fx_command.specs.Workers.{CanBeDone, CanFail}
use Rattle.fx_command.specs.Stream.{StreamView, PrintsAnswer, PrintsPart}
use Rattle.fx_command.specs.declared.perform.Performed.{Performed}

-- the line of a check
abbrev pub counts_text : ℕ → ℕ → List ℕ
counts_text fibers queues = codes "fibers " ++ decimal fibers ++ codes " queues " ++ decimal queues ++ line_end

-- how many fibers a script can have, main included, and how many queues it has
abbrev pub check_text : Meaning → List ℕ
check_text m = counts_text (total (script_of m)) (length m.queues)

-- nobody asks for a cancellation from outside
abbrev pub nobody : ℕ → Bool
nobody f = false

-- the words for people, the status and the printed text, where this text says the script: of a check the counts, and no words; else the report of the run that
-- the picks choose, its traces, or its steps as they are told, or some lawful report by workers of a number that there can be, or the traces of one with the
-- stamps of the definition; and a line for each blocked fiber, with where it stands in that text, after one on the picks that the run passed over, if there are
-- any; or what a search has found that goes on from at most so many states, where nobody but its target is requested from outside, and no words; or what comes
-- of that where it is compared with the reports that are expected
pub data IsPerformed (source : List ℕ) (m : Meaning) (picks : List Pick) (expected : List ℕ) : Command → List ℕ → ℕ → List ℕ → Type 0 where
  checked : IsPerformed source m picks expected Check [] ENDED (check_text m)
  replayed : {r : ReportView} {blocked : List Blocked} {passed : Option PassedOver} {nodes : List Node} {places : List FormPlace} → root_term nodes ≡ m.term
      → IsReplayWithBlocked nodes (script_of m) picks r blocked → TellsPassed (script_of m) picks passed → ArePlacesOrNone source nodes places
      → IsPerformed source m picks expected Replay (replay_words (queue_names m) passed (positions_of places) blocked) (status_of r)
      (report_text (queue_names m) r)
  traced : {r : ReportView} {blocked : List Blocked} {passed : Option PassedOver} {nodes : List Node} {places : List FormPlace} → root_term nodes ≡ m.term
      → IsReplayWithBlocked nodes (script_of m) picks r blocked → TellsPassed (script_of m) picks passed → ArePlacesOrNone source nodes places
      → IsPerformed source m picks expected Trace (replay_words (queue_names m) passed (positions_of places) blocked) (status_of r)
      (trace_text (queue_names m) r)
  stepped : {r : ReportView} {blocked : List Blocked} {passed : Option PassedOver} {nodes : List Node} {places : List FormPlace} {told : List Told}
      → root_term nodes ≡ m.term → IsReplayWithBlocked nodes (script_of m) picks r blocked → TellsPassed (script_of m) picks passed
      → ArePlacesOrNone source nodes places → TellsRun nodes (script_of m) picks told
      → IsPerformed source m picks expected Steps (replay_words (queue_names m) passed (positions_of places) blocked) (status_of r)
      (steps_text (queue_names m) places (total (script_of m)) told)
  ran : {workers : ℕ} {r : ReportView} {blocked : List Blocked} {nodes : List Node} {places : List FormPlace} → 1 ≤ workers → workers ≤ most_workers
      → root_term nodes ≡ m.term → IsLawfulHalt nodes (script_of m) nobody r blocked → ArePlacesOrNone source nodes places
      → IsPerformed source m picks expected (command.Run workers) (blocked_text (queue_names m) (positions_of places) blocked) (status_of r)
      (report_text (queue_names m) r)
  recorded : {workers : ℕ} {r : ReportView} {blocked : List Blocked} {nodes : List Node} {places : List FormPlace} → 1 ≤ workers → workers ≤ most_workers
      → root_term nodes ≡ m.term → IsLawfulHalt nodes (script_of m) nobody r blocked → ArePlacesOrNone source nodes places
      → IsPerformed source m picks expected (command.Record workers) (blocked_text (queue_names m) (positions_of places) blocked) (status_of r)
      (trace_text (queue_names m) r)
  pictured : {r : ReportView} {blocked : List Blocked} {passed : Option PassedOver} {nodes : List Node} {places : List FormPlace} {told : List Told}
      {words text : List ℕ} {status : ℕ} → root_term nodes ≡ m.term → IsReplayWithBlocked nodes (script_of m) picks r blocked
      → TellsPassed (script_of m) picks passed → ArePlacesOrNone source nodes places → TellsRun nodes (script_of m) picks told
      → IsPictured (queue_names m) (stood_events places (total (script_of m)) (length m.queues) told) r (named_told source places told) blocked
      (replay_words (queue_names m) passed (positions_of places) blocked) words status text
      → IsPerformed source m picks expected Picture words status text
  picture_ran : {workers : ℕ} {r : ReportView} {blocked : List Blocked} {nodes : List Node} {places : List FormPlace} {told : List (List Stand)}
      {list : List Occurrence} {counts : List (Option AtQueue)} {words text : List ℕ} {status : ℕ} → 1 ≤ workers → workers ≤ most_workers
      → root_term nodes ≡ m.term → IsLawfulHalt nodes (script_of m) nobody r blocked → ArePlacesOrNone source nodes places
      → AreFollowedOrNone nodes (script_of m) r told → AreCountedOrNone (script_of m).capacities r list counts
      → IsPictured (queue_names m) (stood_of_run places told list counts r.fibers) r (named_of_run source places told list counts r.fibers) blocked
      (blocked_text (queue_names m) (positions_of places) blocked) words status text
      → IsPerformed source m picks expected (command.PictureRun workers) words status text
  explored : {search : Search} {e : Explored} → IsExplored (setting (script_of m) search.target) search.most e
      → IsPerformed source m picks expected (command.Explore search) [] (explored_status e) (explored_text (queue_names m) e)
  compared : {search : Search} {e : Explored} → IsExplored (setting (script_of m) search.target) search.most e
      → IsPerformed source m picks expected (command.Expect search) [] (compared_status (queue_names m) expected e) (compared_text (queue_names m) expected e)

-- what is done takes the stream from `old` to `new`
abbrev pub Performs : Command → List ℕ → Meaning → List Pick → List ℕ → Result Performed CommandFault → StreamView → StreamView → Type 0
Performs c source m picks expected (Ok done) old new = PrintsAnswer (IsPerformed source m picks expected c (string_bytes done.words)) done.status old new
Performs c source m picks expected (Err Write) old new = (words : List ℕ) × PrintsPart (IsPerformed source m picks expected c words) old new
Performs c source m picks expected (Err Memory) old new = CanBeDone c × (new ≡ old)
Performs c source m picks expected (Err (Run fault)) old new = CanFail c fault × (new ≡ old)
Performs c source m picks expected (Err (Refused r)) old new = ⊥
Performs c source m picks expected (Err (Unreadable name)) old new = ⊥
