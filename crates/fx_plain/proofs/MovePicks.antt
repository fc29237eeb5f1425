-- The moves of a run, as picks, choose it, and all of them fit.
use Rattle.std.proofs.Common.{◌≡◌, ℕ, ◌+◌, None, List, [], refl, sym, subst}
use Rattle.fx_term.specs.Script.{ScriptView}
use Rattle.fx_text.specs.declared.pick.Pick.{Pick}
use Rattle.fx_plain.specs.WholeMachine.{WholeMachine, Move, opening}
use Rattle.fx_plain.specs.Chosen.{IsChosen}
use Rattle.fx_plain.specs.Chosen as chosen
use Rattle.fx_plain.specs.PassedPicks.{Skipped, passed_over, IsToldOf, TellsPassed}
use Rattle.fx_plain.specs.MovePicks.{picks_of}

module _ (s : ScriptView) where
  abbrev pub chosen_again : {ps : List Pick} {m last : WholeMachine} {vs : List Move} → IsChosen s ps m vs last → IsChosen s (picks_of vs) m vs last
  chosen_again (chosen.step made rest) = chosen.step made (chosen_again rest)
  chosen_again (chosen.no_step cannot rest) = chosen_again rest
  chosen_again (chosen.request below rest) = chosen.request below (chosen_again rest)
  chosen_again (chosen.no_request past rest) = chosen_again rest
  chosen_again (chosen.least is made rest) = chosen.step made (chosen_again rest)
  chosen_again (chosen.halts none) = chosen.halts none

  all_fit : {ps : List Pick} {m last : WholeMachine} {vs : List Move} (place : ℕ) (c : IsChosen s ps m vs last) → passed_over place (chosen_again c) ≡ []
  all_fit place (chosen.step made rest) = all_fit (place + 1) rest
  all_fit place (chosen.no_step cannot rest) = all_fit place rest
  all_fit place (chosen.request below rest) = all_fit (place + 1) rest
  all_fit place (chosen.no_request past rest) = all_fit place rest
  all_fit place (chosen.least is made rest) = all_fit (place + 1) rest
  all_fit place (chosen.halts none) = refl

  pub tells_nothing : {ps : List Pick} {last : WholeMachine} {vs : List Move} → IsChosen s ps (opening s) vs last → TellsPassed s (picks_of vs) None
  tells_nothing {last = last} {vs = vs} c = record {
    moves = vs;
    last = last;
    chosen = chosen_again c;
    tells = subst (λ (xs : List Skipped). IsToldOf s xs None) (sym (all_fit 1 c)) tt;
  }
