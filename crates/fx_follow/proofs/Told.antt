-- Answers that tell the same outcomes.
use Rattle.std.proofs.Common.{◌≡◌, ℕ, Option, Some, None, sym, ◌∙◌, ap}
use Rattle.std.specs.Prelude.{slice_index_or}
use Rattle.std.specs.Global.{Vec}
use Rattle.fx_term.specs.declared.outcome.Outcome.{Outcome}
use Rattle.fx_explore.specs.AnswerCalls.{outcome_told}
use Rattle.fx_explore.specs.declared.answers.Answers.{Answers}

-- what they tell is so
pub still_told : (old new : Answers) (outcome : ℕ → Option Outcome) → new.outcomes ≡ old.outcomes
    → ((g : ℕ) (o : Outcome) → outcome_told old g ≡ Some o → outcome g ≡ Some o)
    → (g : ℕ) (o : Outcome) → outcome_told new g ≡ Some o → outcome g ≡ Some o
still_told old new outcome same h g o is = h g o (ap (λ (os : Vec (Option Outcome)). slice_index_or os.items g None) (sym same) ∙ is)
