-- Which call of the program the words after its name make.
use Rattle.std.specs.Prelude.{ℕ, if◌then◌else◌, Option, Some, None, List, [], ◌∷◌, codes, bytes_eq, ◌&&◌, not, option_map, option_and_then}
use Rattle.fx_command.specs.declared.call.Command.{Command}
use Rattle.fx_command.specs.declared.call.Command.TheVariants.{Check, Replay, Trace, Steps, Run, Record, Picture, PictureRun, Explore, Expect}
use Rattle.fx_command.specs.declared.call.Call.{Call}
use Rattle.fx_command.specs.declared.call.Telling.{Telling}
use Rattle.fx_command.specs.declared.call.Telling.TheVariants.{Silent, Aloud}
use Rattle.fx_command.specs.declared.states.TheConstants.{MOST_STATES}
use Rattle.fx_command.specs.Workers.{workers_in}
use Rattle.fx_command.specs.States.{states_in}

-- what is done with the script of this name, by the schedule of that name, if there is one, or with what is expected in the text of another
pub record CallView : Type 0 where
  pub command : Command
  pub script : List ℕ
  pub schedule : Option (List ℕ)
  pub expected : Option (List ℕ)

abbrev pub view_call : Call → CallView
view_call c = record {
  command = c.command;
  script = c.script.now;
  schedule = option_map (λ name. name.now) c.schedule;
  expected = option_map (λ name. name.now) c.expected;
}

-- with the name of a script alone
abbrev pub call_with_script : Command → List (List ℕ) → Option CallView
call_with_script c (script ∷ []) = Some (record { command = c; script = script; schedule = None; expected = None })
call_with_script c names = None

-- or with that of a schedule after it, which is no standard input
abbrev pub call_with_names : Command → List (List ℕ) → Option CallView
call_with_names c (script ∷ schedule ∷ []) =
    if bytes_eq schedule (codes "-") then None else Some (record { command = c; script = script; schedule = Some schedule; expected = None })
call_with_names c names = call_with_script c names

-- with the name of a script and a number of workers
abbrev pub workers_among : List (List ℕ) → Option ℕ
workers_among (script ∷ word ∷ []) = workers_in word
workers_among names = None

abbrev pub call_by_workers : Command → List (List ℕ) → Option CallView
call_by_workers c (script ∷ word ∷ []) = Some (record { command = c; script = script; schedule = None; expected = None })
call_by_workers c names = None

-- at the end the word that asks to be told how far a search has come, or nothing
abbrev pub telling_among : List (List ℕ) → Option Telling
telling_among [] = Some Silent
telling_among (word ∷ []) = if bytes_eq word (codes "progress") then Some Aloud else None
telling_among words = None

abbrev pub call_finding : List ℕ → ℕ → Option ℕ → Telling → CallView
call_finding script most target telling = record {
  command = Explore (record { most = most; target = target; telling = telling });
  script = script;
  schedule = None;
  expected = None;
}

abbrev pub call_comparing : List ℕ → ℕ → Option ℕ → List ℕ → Telling → CallView
call_comparing script most target file telling = record {
  command = Expect (record { most = most; target = target; telling = telling });
  script = script;
  schedule = None;
  expected = Some file;
}

-- with the name of a script, and before that end the word for what is expected and the name of its text, which is no standard input, or neither
abbrev pub call_expecting : List ℕ → ℕ → Option ℕ → List (List ℕ) → Option CallView
call_expecting script most target (word ∷ file ∷ rest) =
    if bytes_eq word (codes "expect") && not (bytes_eq file (codes "-")) then option_map (call_comparing script most target file) (telling_among rest)
    else option_map (call_finding script most target) (telling_among (word ∷ file ∷ rest))
call_expecting script most target words = option_map (call_finding script most target) (telling_among words)

-- before these the word for a request from outside and the number of its fiber, or neither
abbrev pub call_canceling : List ℕ → ℕ → List (List ℕ) → Option CallView
call_canceling script most (word ∷ fiber ∷ rest) =
    if bytes_eq word (codes "cancel") then option_and_then (λ n. call_expecting script most (Some n) rest) (workers_in fiber)
    else call_expecting script most None (word ∷ fiber ∷ rest)
call_canceling script most words = call_expecting script most None words

-- before these a number of states, if the first word is one
abbrev pub call_with_states : List ℕ → List (List ℕ) → List (List ℕ) → Option ℕ → Option CallView
call_with_states script words rest None = call_canceling script MOST_STATES words
call_with_states script words rest (Some n) = call_canceling script n rest

abbrev pub call_searching : List ℕ → List (List ℕ) → Option CallView
call_searching script [] = call_canceling script MOST_STATES []
call_searching script (word ∷ rest) = call_with_states script (word ∷ rest) rest (states_in word)

abbrev pub call_to_explore : List (List ℕ) → Option CallView
call_to_explore (script ∷ words) = call_searching script words
call_to_explore [] = None

-- no words replay the script on standard input, and other words make no call
abbrev pub call_of : List (List ℕ) → Option CallView
call_of [] = Some (record { command = Replay; script = codes "-"; schedule = None; expected = None })
call_of (word ∷ names) =
    if bytes_eq word (codes "check") then call_with_script Check names
    else if bytes_eq word (codes "replay") then call_with_names Replay names
    else if bytes_eq word (codes "trace") then call_with_names Trace names
    else if bytes_eq word (codes "steps") then call_with_names Steps names
    else if bytes_eq word (codes "run") then option_and_then (λ n. call_by_workers (Run n) names) (workers_among names)
    else if bytes_eq word (codes "record") then option_and_then (λ n. call_by_workers (Record n) names) (workers_among names)
    else if bytes_eq word (codes "picture") then call_with_names Picture names
    else if bytes_eq word (codes "picture-run") then option_and_then (λ n. call_by_workers (PictureRun n) names) (workers_among names)
    else if bytes_eq word (codes "explore") then call_to_explore names
    else None
