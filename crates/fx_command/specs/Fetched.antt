-- What is had of a text by its name.
use Rattle.std.specs.Prelude.{◌≡◌, ◌≢◌, ℕ, Option, Some, List, codes, take, IfSome}
use Rattle.fx_text.specs.declared.pick.Pick.{Pick}
use Rattle.fx_text.specs.Meaning.{Meaning}
use Rattle.fx_text.specs.Grammar.{IsScript}
use Rattle.fx_text.specs.Schedule.{IsSchedule}
use Rattle.fx_command.specs.declared.command_fault.CommandFault.{CommandFault}
use Rattle.fx_command.specs.CommandFault.{IsUnread, IsUnreadOrRefusal}
use Rattle.fx_command.specs.Refused.{IsNoScript, IsNoSchedule}

-- the first bytes of the text of which so much is known, as many as are wanted, or all
pub record IsPrefixOf (most : ℕ) (known : Option (List ℕ)) (read : List ℕ) : Type 0 where
  pub first : IfSome known (λ all. read ≡ take most all)

-- this holds of the text of which so much is known
pub record OfText (known : Option (List ℕ)) (Holds : List ℕ → Type 0) : Type 0 where
  pub text : List ℕ
  pub is : IfSome known (λ all. text ≡ all)
  pub holds : Holds text

-- that text says this script, or these picks
abbrev pub FetchesScript : Option (List ℕ) → Meaning → Type 0
FetchesScript known m = OfText known (λ text. IsScript text m)

abbrev pub FetchesSchedule : Option (List ℕ) → List Pick → Type 0
FetchesSchedule known ps = OfText known (λ text. IsSchedule text ps)

-- that text is this one, and says this script
pub record ReadsScript (known : Option (List ℕ)) (text : List ℕ) (m : Meaning) : Type 0 where
  pub is : IfSome known (λ all. text ≡ all)
  pub says : IsScript text m

-- there is none of that name, and the fault says why
abbrev pub FetchesNoScript : List ℕ → Option (List ℕ) → CommandFault → Type 0
FetchesNoScript name known fault = IsUnreadOrRefusal (λ n. n ≡ name) (λ line. OfText known (IsNoScript line)) fault

abbrev pub FetchesNoSchedule : Option (List ℕ) → Option (List ℕ) → CommandFault → Type 0
FetchesNoSchedule name known fault = IsUnreadOrRefusal (λ n. name ≡ Some n) (λ line. OfText known (IsNoSchedule line)) fault

-- a fetch keeps each text but standard input
abbrev pub KeepsFiles : (List ℕ → Option (List ℕ)) → (List ℕ → Option (List ℕ)) → Type 0
KeepsFiles held holds = (name : List ℕ) → name ≢ codes "-" → holds name ≡ held name

-- that text is all of this
abbrev pub FetchesAll : Option (List ℕ) → List ℕ → Type 0
FetchesAll known all = OfText known (λ text. text ≡ all)

-- no text of that name was read
abbrev pub FetchesNone : Option (List ℕ) → CommandFault → Type 0
FetchesNone name fault = IsUnread (λ n. name ≡ Some n) fault
