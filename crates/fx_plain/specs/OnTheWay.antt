-- A whole machine on the way of the run that picks choose: what a loop over the picks keeps.
use Rattle.std.specs.Prelude.{List}
use Rattle.fx_term.specs.Script.{ScriptView}
use Rattle.fx_text.specs.declared.pick.Pick.{Pick}
use Rattle.fx_plain.specs.WholeMachine.{WholeMachine, Move, opening}
use Rattle.fx_plain.specs.Chosen.{IsChosen}

-- the picks before those that are left lead to this machine: whatever run those choose from here, all choose one to its end from the beginning
abbrev pub IsOnTheWay : ScriptView → List Pick → List Pick → WholeMachine → Type 0
IsOnTheWay s all left m = (vs : List Move) (last : WholeMachine) → IsChosen s left m vs last → (ws : List Move) × IsChosen s all (opening s) ws last
