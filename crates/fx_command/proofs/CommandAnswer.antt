-- What a command answers, from what was read and what was written.
use Rattle.std.proofs.Common.{◌≡◌, ℕ, Option, Some, None, Result, Ok, Err, List, [], string_bytes, refl, sym, ◌∙◌, ap, subst, option_map}
use Rattle.std.proofs.Common.{IfSome, IfOk, IfErr}
use Rattle.fx_text.specs.declared.pick.Pick.{Pick}
use Rattle.fx_text.specs.Meaning.{Meaning}
use Rattle.fx_report.specs.declared.status.TheConstants.{REFUSED}
use Rattle.fx_run.specs.declared.run_fault.RunFault.{RunFault}
use Rattle.fx_command.specs.declared.command_fault.Refusal.{Refusal}
use Rattle.fx_command.specs.declared.command_fault.CommandFault.{CommandFault}
use Rattle.fx_command.specs.declared.command_fault.CommandFault.TheVariants.{Refused, Unreadable, Memory, Write, Run}
use Rattle.fx_command.specs.Fetched.{ReadsScript, FetchesScript, FetchesSchedule, FetchesAll, FetchesNoScript, FetchesNoSchedule, FetchesNone}
use Rattle.fx_command.specs.declared.perform.Performed.{Performed}
use Rattle.fx_command.specs.Performed.{IsPerformed, Performs}
use Rattle.fx_command.specs.Heard.{IsAnswered}
use Rattle.fx_command.specs.Stream.{StreamView, PrintsAnswer}
use Rattle.fx_command.specs.declared.call.Call.{Call}
use Rattle.fx_command.specs.Call.{CallView, view_call, call_of}
use Rattle.fx_command.specs.CommandAnswer.{performed, no_script, no_schedule, known_text, AnswersToCall, FailsToRun, Leaves}
use Rattle.fx_command.specs.CommandAnswer.{ComesToRead, reads_script, reads_schedule, reads_expected}
use Rattle.fx_command.specs.CommandAnswer.{TellsRefusal, TellsUnreadable, TellsRunFault, Runs}
use Rattle.fx_command.specs.CommandAnswer.TellsRefusal.{told, not_taken as line_not_taken}
use Rattle.fx_command.specs.CommandAnswer.TellsUnreadable.{told as unread_told, no_memory as unread_no_memory}
use Rattle.fx_command.specs.CommandAnswer.TellsRunFault.{told as fault_told, no_memory as fault_no_memory}
use Rattle.fx_command.specs.CommandAnswer.Runs.{answered, unreadable, no_memory, not_run, not_taken}

-- some text of which so much is known
known_or_empty : (known : Option (List ℕ)) → List ℕ
known_or_empty None = []
known_or_empty (Some all) = all

known_is : (known : Option (List ℕ)) → IfSome known (λ all. known_or_empty known ≡ all)
unfolding known_or_empty
known_is None = tt
known_is (Some all) = refl

pub leaves_no_script : (holds : List ℕ → Option (List ℕ)) (call : CallView) (fault : CommandFault) (old : StreamView)
    → FetchesNoScript call.script (holds call.script) fault → Leaves holds call fault old old
leaves_no_script holds call (Refused r) old without = (
  record {
    script = without.text;
    schedule = known_or_empty (known_text holds call.schedule);
    expected = known_or_empty (known_text holds call.expected);
    is_script = without.is;
    is_schedule = known_is (known_text holds call.schedule);
    is_expected = known_is (known_text holds call.expected);
    answer = no_script without.holds;
  },
  refl,
)
leaves_no_script holds call (Unreadable name) old without = (reads_script without, refl)
leaves_no_script holds call Memory old without = refl
leaves_no_script holds call Write old without = absurd without
leaves_no_script holds call (Run fault) old without = absurd without

pub leaves_no_schedule : (holds : List ℕ → Option (List ℕ)) (call : CallView) (m : Meaning) (fault : CommandFault) (old : StreamView)
    → FetchesScript (holds call.script) m → FetchesNoSchedule call.schedule (known_text holds call.schedule) fault → Leaves holds call fault old old
leaves_no_schedule holds call m (Refused r) old has without = (
  record {
    script = has.text;
    schedule = without.text;
    expected = known_or_empty (known_text holds call.expected);
    is_script = has.is;
    is_schedule = without.is;
    is_expected = known_is (known_text holds call.expected);
    answer = no_schedule has.holds without.holds;
  },
  refl,
)
leaves_no_schedule holds call m (Unreadable name) old has without = (reads_schedule (m, has) without, refl)
leaves_no_schedule holds call m Memory old has without = refl
leaves_no_schedule holds call m Write old has without = absurd without
leaves_no_schedule holds call m (Run fault) old has without = absurd without

pub leaves_no_expected : (holds : List ℕ → Option (List ℕ)) (call : CallView) (m : Meaning) (fault : CommandFault) (old : StreamView)
    → FetchesScript (holds call.script) m → FetchesNone call.expected fault → Leaves holds call fault old old
leaves_no_expected holds call m (Refused r) old has without = absurd without
leaves_no_expected holds call m (Unreadable name) old has without = (reads_expected (m, has) without, refl)
leaves_no_expected holds call m Memory old has without = refl
leaves_no_expected holds call m Write old has without = absurd without
leaves_no_expected holds call m (Run fault) old has without = absurd without

-- a script that was read was fetched
pub fetches : (known : Option (List ℕ)) (source : List ℕ) (m : Meaning) → ReadsScript known source m → FetchesScript known m
fetches known source m has = record { text = source; is = has.is; holds = has.says }

-- what is answered where all that is named was read
all_read : (holds : List ℕ → Option (List ℕ)) (call : CallView) (source : List ℕ) (m : Meaning) (ps : List Pick) (expected words : List ℕ) (status : ℕ)
    (text : List ℕ)
    → ReadsScript (holds call.script) source m → FetchesSchedule (known_text holds call.schedule) ps → FetchesAll (known_text holds call.expected) expected
    → IsPerformed source m ps expected call.command words status text → AnswersToCall holds call words status text
all_read holds call source m ps expected words status text has picks all done = record {
  script = source;
  schedule = picks.text;
  expected = all.text;
  is_script = has.is;
  is_schedule = picks.is;
  is_expected = all.is;
  answer = performed has.says picks.holds (subst (λ (e : List ℕ). IsPerformed source m ps e call.command words status text) (sym all.holds) done);
}

pub leaves_unwritten : (holds : List ℕ → Option (List ℕ)) (call : CallView) (source : List ℕ) (m : Meaning) (ps : List Pick) (expected : List ℕ)
    (r : Result Performed CommandFault) (old new : StreamView) → ReadsScript (holds call.script) source m → FetchesSchedule (known_text holds call.schedule) ps
    → FetchesAll (known_text holds call.expected) expected → Performs call.command source m ps expected r old new
    → IfErr r (λ fault. Leaves holds call fault old new)
leaves_unwritten holds call source m ps expected (Ok done) old new has picks all whole = tt
leaves_unwritten holds call source m ps expected (Err Write) old new has picks all (words, part) = (
  words,
  record {
    status = part.status;
    text = part.text;
    answer = all_read holds call source m ps expected words part.status part.text has picks all part.answer;
    taken = part.taken;
  },
)
leaves_unwritten holds call source m ps expected (Err Memory) old new has picks all (can, kept) = kept
leaves_unwritten holds call source m ps expected (Err (Run fault)) old new has picks all (fails, kept) =
    (((m, fetches (holds call.script) source m has), fails), kept)
leaves_unwritten holds call source m ps expected (Err (Refused r)) old new has picks all none = absurd none
leaves_unwritten holds call source m ps expected (Err (Unreadable name)) old new has picks all none = absurd none

pub writes_answer : (holds : List ℕ → Option (List ℕ)) (call : CallView) (source : List ℕ) (m : Meaning) (ps : List Pick) (expected : List ℕ)
    (r : Result Performed CommandFault) (old new : StreamView) → ReadsScript (holds call.script) source m → FetchesSchedule (known_text holds call.schedule) ps
    → FetchesAll (known_text holds call.expected) expected → Performs call.command source m ps expected r old new
    → IfOk r (λ done. PrintsAnswer (AnswersToCall holds call (string_bytes done.words)) done.status old new)
writes_answer holds call source m ps expected (Ok done) old new has picks all whole = record {
  text = whole.text;
  answer = all_read holds call source m ps expected (string_bytes done.words) done.status whole.text has picks all whole.answer;
  taken = whole.taken;
}
writes_answer holds call source m ps expected (Err fault) old new has picks all none = tt

-- the line of a refusal was told
pub refusal_runs : (words : List (List ℕ)) (holds : List ℕ → Option (List ℕ)) (call : CallView) (r : Refusal) (old mid new said says : StreamView)
    (status : ℕ) → call_of words ≡ Some call → Leaves holds call (Refused r) old mid
    → TellsRefusal (string_bytes r.line) (string_bytes r.words) mid new said says status → Runs words holds old new said says status
refusal_runs words holds call r old mid new said says status is left (told taken remark) =
    subst (λ o. Runs words holds o new said says status) left.1
    (answered call is (record { text = string_bytes r.line; answer = left.0; taken = taken }) remark)
refusal_runs words holds call r old mid new said says status is left (line_not_taken part line) =
    subst (λ o. Runs words holds o new said says status) left.1
    (not_taken call is (record { status = REFUSED; text = string_bytes r.line; answer = left.0; taken = part }) line)

-- which is no status of an answer
pub refused_is : (line remark : List ℕ) (old new said says : StreamView) (status : ℕ) → TellsRefusal line remark old new said says status
    → IsAnswered status → ⊥
refused_is line remark old new said says _ (told taken remarks) ends = ends.0 refl
refused_is line remark old new said says _ (line_not_taken part says_so) ends = ends.2 refl

-- it was said that a text cannot be read
pub unread_runs : (words : List (List ℕ)) (holds : List ℕ → Option (List ℕ)) (call : CallView) (name : List ℕ) (old new said says : StreamView)
    (status : ℕ) → call_of words ≡ Some call → ComesToRead holds call name × (new ≡ old) → TellsUnreadable name said says status
    → Runs words holds old new said says status
unread_runs words holds call name old new said says _ is left (unread_told line) = unreadable call name is left.0 left.1 line
unread_runs words holds call name old new said says _ is left (unread_no_memory line) = no_memory call is left.1 line

-- a fault of a run was told
pub run_fault_runs : (words : List (List ℕ)) (holds : List ℕ → Option (List ℕ)) (call : CallView) (fault : RunFault) (old new said says : StreamView)
    (status : ℕ) → call_of words ≡ Some call → FailsToRun holds call fault × (new ≡ old) → TellsRunFault fault said says status
    → Runs words holds old new said says status
run_fault_runs words holds call fault old new said says _ is left (fault_told line) = not_run call fault is left.0 left.1 line
run_fault_runs words holds call fault old new said says _ is left (fault_no_memory line) = no_memory call is left.1 line

-- the call that the words make
pub call_is : (words : List (List ℕ)) (o : Option Call) (c : Call) → option_map view_call o ≡ call_of words → o ≡ Some c → call_of words ≡ Some (view_call c)
call_is words o c made is = sym made ∙ ap (option_map view_call) is

-- nor is that of a text that cannot be read, or of a fault of a run
pub unread_is : (name : List ℕ) (said says : StreamView) (status : ℕ) → TellsUnreadable name said says status → IsAnswered status → ⊥
unread_is name said says _ (unread_told line) ends = ends.1 refl
unread_is name said says _ (unread_no_memory line) ends = ends.2 refl

pub run_fault_is : (fault : RunFault) (said says : StreamView) (status : ℕ) → TellsRunFault fault said says status → IsAnswered status → ⊥
run_fault_is fault said says _ (fault_told line) ends = ends.2 refl
run_fault_is fault said says _ (fault_no_memory line) ends = ends.2 refl
