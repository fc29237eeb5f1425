-- A fiber that waits for what has not come is blocked.
use Rattle.std.proofs.Common.{◌≡◌, ℕ, Bool, false, ◌∙◌, subst}
use Rattle.fx_model.specs.Outside.{Outside, can_step}
use Rattle.fx_model.specs.Row.{Counts}
use Rattle.fx_model.specs.Step.{Progress}
use Rattle.fx_model.specs.WaitsFor.{has_come, IsWaiting}
use Rattle.fx_model.specs.declared.source.Source.{Source}
use Rattle.fx_model.proofs.WaitingLaws.{waiting_steps}

pub blocked : (o : Outside) (f : ℕ) (c : Counts) (p : Progress) (w : Source) (asked : Bool) → IsWaiting asked c p w
    → asked ≡ o.is_requested f → has_come o w ≡ false → can_step o f c p ≡ false
blocked o f c p w asked waits is none = waiting_steps o f c p w (subst (λ (b : Bool). IsWaiting b c p w) is waits) ∙ none
