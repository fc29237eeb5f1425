-- What a replay does to the bytes that its reader has left and its writer holds, each where they are known.
use Rattle.std.specs.Prelude.{ℕ, Option, Result, List}
use Rattle.fx_model.specs.Report.{ReportView}
use Rattle.fx_text.specs.declared.pick.Pick.{Pick}
use Rattle.fx_text.specs.Meaning.{Meaning}
use Rattle.fx_report.specs.declared.answer_fault.AnswerFault.{AnswerFault}
use Rattle.fx_report.specs.Script.{script_of}
use Rattle.fx_report.specs.Answering.{AnswersText}
use Rattle.fx_plain.specs.Chosen.{IsReplay}

-- the report of the run of a script that the picks choose
abbrev pub IsReplayOf : List Pick → Meaning → ReportView → Type 0
IsReplayOf picks m r = IsReplay (script_of m) picks r

-- it answers the text with that report
abbrev pub Replays : List Pick → Option (List ℕ) → Option (List ℕ) → Result ℕ AnswerFault → Option (List ℕ) → Option (List ℕ) → Type 0
Replays picks left rest result old new = AnswersText (IsReplayOf picks) left rest result old new
