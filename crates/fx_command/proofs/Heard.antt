-- Who hears how far a search has come.
use Rattle.std.specs.Prelude.{◌≡◌, ℕ, Option, Some, None, List, refl}
use Rattle.std.proofs.Common.{Result, Ok, Err, IfOk, sym, subst}
use Rattle.fx_text.specs.Meaning.{Meaning}
use Rattle.fx_search.specs.declared.progress.SoFar.{SoFar}
use Rattle.fx_findings.specs.Heard.{silence}
use Rattle.fx_command.specs.Call.{CallView, view_call}
use Rattle.fx_command.specs.CommandAnswer.{known_text}
use Rattle.fx_command.specs.Fetched.{FetchesScript, FetchesAll}
use Rattle.fx_command.specs.Heard.{HearsTelling, HearsCommand, HearsCall, HearsPrinted, HearsAnswer}
use Rattle.fx_command.specs.Stream.{StreamView}
use Rattle.fx_command.specs.declared.command_fault.CommandFault.{CommandFault}
use Rattle.fx_command.specs.declared.perform.Performed.{Performed}
use Rattle.fx_command.specs.declared.call.Call.{Call}
use Rattle.fx_command.specs.declared.call.Telling.{Telling}
use Rattle.fx_command.specs.declared.call.Telling.TheVariants.{Silent, Aloud}
use Rattle.fx_command.specs.declared.call.Command.{Command}
use Rattle.fx_command.specs.declared.call.Command.TheVariants.{Explore, Expect}

module _ {G : Type 0} (hears : G → SoFar → G → Type 0) (g : G) where
  -- nothing may be heard, whatever is asked for
  silent_telling : (t : Telling) → HearsTelling hears g g t
  silent_telling Silent = refl
  silent_telling Aloud = record { between = g; first = silence; second = silence }

  pub silent_command : (c : Command) → HearsCommand hears g g c
  silent_command (Explore search) = silent_telling search.telling
  silent_command (Expect search) = silent_telling search.telling
  silent_command _ = refl

  pub silent_call : (call : Option CallView) → HearsCall hears g g call
  silent_call None = refl
  silent_call (Some call) = silent_command call.command

pub heard_call : {G : Type 0} (hears : G → SoFar → G → Type 0) (old new : G) (call : Call) (made : Option CallView) → made ≡ Some (view_call call)
    → HearsCommand hears old new (view_call call).command → HearsCall hears old new made
heard_call hears old new call made e h = subst (HearsCall hears old new) (sym e) h

-- what holds where a search was made holds where it was asked for
pub where_asked : {T E : Type 0} (P : T → Type 0) (Asked : Type 0) (r : Result T E) → IfOk r P → IfOk r (λ x. Asked → P x)
where_asked P Asked (Ok x) p = λ asked. p
where_asked P Asked (Err e) p = tt

pub where_unasked : {T E : Type 0} (P : T → Type 0) (Asked : Type 0) (r : Result T E) → (Asked → ⊥) → IfOk r (λ x. Asked → P x)
where_unasked P Asked (Ok x) not = λ asked. absurd (not asked)
where_unasked P Asked (Err e) not = tt

-- what was printed is the answer to a call whose texts were read
pub heard_answer : {G : Type 0} (hears : G → SoFar → G → Type 0) (old new : G) (holds : List ℕ → Option (List ℕ)) (call : CallView) (m : Meaning)
    (expected : List ℕ) (out out' : StreamView) (r : Result Performed CommandFault) → FetchesScript (holds call.script) m
    → FetchesAll (known_text holds call.expected) expected → IfOk r (λ _. HearsPrinted hears old new call.command m expected out out')
    → IfOk r (λ _. HearsAnswer hears old new holds call out out')
heard_answer hears old new holds call m expected out out' (Ok done) has all printed = record {
  meaning = m;
  has_script = has;
  expected = expected;
  has_expected = all;
  printed = printed;
}
heard_answer hears old new holds call m expected out out' (Err fault) has all printed = tt
