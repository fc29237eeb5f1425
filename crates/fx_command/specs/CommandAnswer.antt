-- What a call of the program answers to the texts that its names stand for.
use Rattle.std.specs.Prelude.{◌≡◌, ℕ, Option, Some, None, List, [], string_bytes, IfSome}
use Rattle.fx_text.specs.declared.pick.Pick.{Pick}
use Rattle.fx_text.specs.Meaning.{Meaning}
use Rattle.fx_text.specs.Grammar.{IsScript}
use Rattle.fx_text.specs.Schedule.{IsSchedule}
use Rattle.fx_report.specs.declared.status.TheConstants.{ENDED, OTHER_WORDS, REFUSED, UNREADABLE, FAULT}
use Rattle.fx_command.specs.declared.call.Command.{Command}
use Rattle.fx_command.specs.declared.command_fault.CommandFault.{CommandFault}
use Rattle.fx_command.specs.declared.command_fault.CommandFault.TheVariants.{Refused, Unreadable, Memory, Write, Run}
use Rattle.fx_run.specs.declared.run_fault.RunFault.{RunFault}
use Rattle.fx_command.specs.Refused.{IsNoScript, IsNoSchedule}
use Rattle.fx_command.specs.Workers.{CanFail}
use Rattle.fx_command.specs.Fetched.{FetchesScript}
use Rattle.fx_command.specs.Performed.{IsPerformed}
use Rattle.fx_command.specs.Call.{CallView, call_of}
use Rattle.fx_command.specs.Help.{topic_of, page_on}
use Rattle.fx_command.specs.Stream.{StreamView, TakesWhole, TakesPart, PrintsAnswer, PrintsPart}
use Rattle.fx_command.specs.Said.{Says, usage_line, no_page_line, unreadable_line, memory_line, write_line, run_fault_line}

-- the status and the printed text for a script, a schedule and what is expected, with these words for people: what was asked for, or one line where one of the
-- first two is no such text, with some words. A schedule is read only after a script
pub data IsCommandAnswer (c : Command) (script schedule expected words : List ℕ) : ℕ → List ℕ → Type 0 where
  performed : {m : Meaning} {ps : List Pick} {status : ℕ} {text : List ℕ} → IsScript script m → IsSchedule schedule ps
      → IsPerformed script m ps expected c words status text → IsCommandAnswer c script schedule expected words status text
  no_script : {line : List ℕ} → IsNoScript line script → IsCommandAnswer c script schedule expected words REFUSED line
  no_schedule : {m : Meaning} {line : List ℕ} → IsScript script m → IsNoSchedule line schedule → IsCommandAnswer c script schedule expected words REFUSED line

-- the schedule that is known, or what is expected, of that name; the empty one without a name
abbrev pub known_text : (List ℕ → Option (List ℕ)) → Option (List ℕ) → Option (List ℕ)
known_text holds None = Some []
known_text holds (Some name) = holds name

-- what is answered to the texts of which so much is known
pub record AnswersTo (c : Command) (script_known schedule_known expected_known : Option (List ℕ)) (words : List ℕ) (status : ℕ) (text : List ℕ) : Type 0 where
  pub script : List ℕ
  pub schedule : List ℕ
  pub expected : List ℕ
  pub is_script : IfSome script_known (λ all. script ≡ all)
  pub is_schedule : IfSome schedule_known (λ all. schedule ≡ all)
  pub is_expected : IfSome expected_known (λ all. expected ≡ all)
  pub answer : IsCommandAnswer c script schedule expected words status text

-- what is answered to the texts that a call names
abbrev pub AnswersToCall : (List ℕ → Option (List ℕ)) → CallView → List ℕ → ℕ → List ℕ → Type 0
AnswersToCall holds call words = AnswersTo call.command (holds call.script) (known_text holds call.schedule) (known_text holds call.expected) words

-- the text that the call names as its script says one
abbrev pub HasScript : (List ℕ → Option (List ℕ)) → CallView → Type 0
HasScript holds call = (m : Meaning) × FetchesScript (holds call.script) m

-- the call comes to read the text of this name: it is the script; or it is the schedule, or what is expected, and the script was read before it and says one
pub data ComesToRead (holds : List ℕ → Option (List ℕ)) (call : CallView) (name : List ℕ) : Type 0 where
  reads_script : name ≡ call.script → ComesToRead holds call name
  reads_schedule : HasScript holds call → call.schedule ≡ Some name → ComesToRead holds call name
  reads_expected : HasScript holds call → call.expected ≡ Some name → ComesToRead holds call name

-- the call is of a run with a script that there is, and the fault is one that it can have
abbrev pub FailsToRun : (List ℕ → Option (List ℕ)) → CallView → RunFault → Type 0
FailsToRun holds call fault = HasScript holds call × CanFail call.command fault

-- what a fault leaves: only where the output refused a write was anything written. The line of a refusal is the answer, and comes then
abbrev pub Leaves : (List ℕ → Option (List ℕ)) → CallView → CommandFault → StreamView → StreamView → Type 0
Leaves holds call (Refused r) old new = AnswersToCall holds call (string_bytes r.words) REFUSED (string_bytes r.line) × (new ≡ old)
Leaves holds call (Unreadable name) old new = ComesToRead holds call name.now × (new ≡ old)
Leaves holds call Memory old new = new ≡ old
Leaves holds call (Run fault) old new = FailsToRun holds call fault × (new ≡ old)
Leaves holds call Write old new = (words : List ℕ) × PrintsPart (AnswersToCall holds call words) old new

-- the line of a refusal was written, and its words said; or a prefix of the line was written, and the next write refused
pub data TellsRefusal (line remark : List ℕ) (old new said says : StreamView) : ℕ → Type 0 where
  told : TakesWhole line old new → Says remark said says → TellsRefusal line remark old new said says REFUSED
  not_taken : TakesPart line old new → Says write_line said says → TellsRefusal line remark old new said says FAULT

-- the page of help on this word was written, and nothing was said; or a prefix of it was written, and the next write refused; or there is none
pub data TellsPage (topic : List ℕ) (old new said says : StreamView) : ℕ → Type 0 where
  printed : {page : List ℕ} → page_on topic ≡ Some page → TakesWhole page old new → says ≡ said → TellsPage topic old new said says ENDED
  not_taken : {page : List ℕ} → page_on topic ≡ Some page → TakesPart page old new → Says write_line said says → TellsPage topic old new said says FAULT
  no_page : page_on topic ≡ None → new ≡ old → Says no_page_line said says → TellsPage topic old new said says OTHER_WORDS

-- it was said that the text of this name cannot be read, or that memory ran out
pub data TellsUnreadable (name : List ℕ) (said says : StreamView) : ℕ → Type 0 where
  told : Says (unreadable_line name) said says → TellsUnreadable name said says UNREADABLE
  no_memory : Says memory_line said says → TellsUnreadable name said says FAULT

-- it was said that a run of fibers has this fault, or that memory ran out
pub data TellsRunFault (fault : RunFault) (said says : StreamView) : ℕ → Type 0 where
  told : Says (run_fault_line fault) said says → TellsRunFault fault said says FAULT
  no_memory : Says memory_line said says → TellsRunFault fault said says FAULT

-- A run of the program with these words, of which `old` and `new` are standard output before and after, `said` and `says` standard error. Words that ask for
-- help have their page. Words that make no call, a text that cannot be read and any other fault have a status and a line each, and all else is the answer to
-- the call, with its words for people. A schedule, or what is expected, can be told as a text that cannot be read only where there is a script: one that is
-- refused is answered so, whatever the other text is
pub data Runs (words : List (List ℕ)) (holds : List ℕ → Option (List ℕ)) (old new said says : StreamView) : ℕ → Type 0 where
  helped : {status : ℕ} (topic : List ℕ) → topic_of words ≡ Some topic → TellsPage topic old new said says status → Runs words holds old new said says status
  other_words : topic_of words ≡ None → call_of words ≡ None → new ≡ old → Says usage_line said says → Runs words holds old new said says OTHER_WORDS
  answered : {status : ℕ} {remark : List ℕ} (call : CallView) → call_of words ≡ Some call → PrintsAnswer (AnswersToCall holds call remark) status old new
      → Says remark said says → Runs words holds old new said says status
  unreadable : (call : CallView) (name : List ℕ) → call_of words ≡ Some call → ComesToRead holds call name → new ≡ old → Says (unreadable_line name) said says
      → Runs words holds old new said says UNREADABLE
  no_memory : (call : CallView) → call_of words ≡ Some call → new ≡ old → Says memory_line said says → Runs words holds old new said says FAULT
  not_run : (call : CallView) (fault : RunFault) → call_of words ≡ Some call → FailsToRun holds call fault → new ≡ old
      → Says (run_fault_line fault) said says → Runs words holds old new said says FAULT
  not_taken : {remark : List ℕ} (call : CallView) → call_of words ≡ Some call → PrintsPart (AnswersToCall holds call remark) old new
      → Says write_line said says → Runs words holds old new said says FAULT
