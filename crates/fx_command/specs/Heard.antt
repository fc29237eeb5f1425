-- Who hears how far a search has come.
use Rattle.std.specs.Prelude.{◌≡◌, ℕ, Option, Some, None, List}
use Rattle.fx_text.specs.Meaning.{Meaning}
use Rattle.fx_report.specs.Script.{script_of}
use Rattle.fx_report.specs.Text.{queue_names}
use Rattle.fx_report.specs.declared.status.TheConstants.{REFUSED, UNREADABLE, FAULT}
use Rattle.fx_search.specs.declared.progress.SoFar.{SoFar}
use Rattle.fx_explore.specs.Setting.{setting}
use Rattle.fx_findings.specs.Answer.{IsExplored}
use Rattle.fx_findings.specs.Compared.{compared_text}
use Rattle.fx_findings.specs.Heard.{HearsSearches, HearsFirst}
use Rattle.fx_findings.specs.Text.{explored_text}
use Rattle.fx_findings.specs.declared.explored.Explored.{Explored}
use Rattle.fx_command.specs.Call.{CallView}
use Rattle.fx_command.specs.CommandAnswer.{known_text}
use Rattle.fx_command.specs.Fetched.{FetchesScript, FetchesAll}
use Rattle.fx_command.specs.Stream.{StreamView, TakesWhole}
use Rattle.fx_command.specs.declared.call.Search.{Search}
use Rattle.fx_command.specs.declared.call.Telling.{Telling}
use Rattle.fx_command.specs.declared.call.Telling.TheVariants.{Silent, Aloud}
use Rattle.fx_command.specs.declared.call.Command.{Command}
use Rattle.fx_command.specs.declared.call.Command.TheVariants.{Explore, Expect}

module _ {G : Type 0} (hears : G → SoFar → G → Type 0) (old new : G) where
  -- what searches tell, where that is asked for, and else nothing
  abbrev pub HearsTelling : Telling → Type 0
  HearsTelling Silent = new ≡ old
  HearsTelling Aloud = HearsSearches hears old new

  abbrev pub HearsCommand : Command → Type 0
  HearsCommand (Explore search) = HearsTelling search.telling
  HearsCommand (Expect search) = HearsTelling search.telling
  HearsCommand command = new ≡ old

  -- nothing where there is no call
  abbrev pub HearsCall : Option CallView → Type 0
  HearsCall None = new ≡ old
  HearsCall (Some call) = HearsCommand call.command

  -- the text of what was found was taken whole, and where that was asked for, each turn was heard of the search that it tells of
  pub record HearsFound (m : Meaning) (search : Search) (text_of : Explored → List ℕ) (out out' : StreamView) : Type 0 where
    pub found : Explored
    pub is : IsExplored (setting (script_of m) search.target) search.most found
    pub printed : TakesWhole (text_of found) out out'
    pub heard : search.telling ≡ Aloud → HearsFirst hears old new found.ending found.states

  abbrev pub HearsPrinted : Command → Meaning → List ℕ → StreamView → StreamView → Type 0
  HearsPrinted (Explore search) m expected out out' = HearsFound m search (explored_text (queue_names m)) out out'
  HearsPrinted (Expect search) m expected out out' = HearsFound m search (compared_text (queue_names m) expected) out out'
  HearsPrinted command m expected out out' = Unit {0}

  -- so it is of the script that the call names, and of what is expected by it
  pub record HearsAnswer (holds : List ℕ → Option (List ℕ)) (call : CallView) (out out' : StreamView) : Type 0 where
    pub meaning : Meaning
    pub has_script : FetchesScript (holds call.script) meaning
    pub expected : List ℕ
    pub has_expected : FetchesAll (known_text holds call.expected) expected
    pub printed : HearsPrinted call.command meaning expected out out'

-- the status is that of an answer, and of no refusal or fault
abbrev pub IsAnswered : ℕ → Type 0
IsAnswered status = (status ≡ REFUSED → ⊥) × (status ≡ UNREADABLE → ⊥) × (status ≡ FAULT → ⊥)
