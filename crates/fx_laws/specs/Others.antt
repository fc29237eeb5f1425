-- What others can see of a fiber.
use Rattle.std.specs.Prelude.{◌≡◌, ◌↔◌, ℕ, List, [], ◌∷◌}
use Rattle.fx_term.specs.declared.outcome.Outcome.TheVariants as outcome
use Rattle.fx_term.specs.declared.event.Event.TheVariants as event
use Rattle.fx_term.specs.Term.{Term}
use Rattle.fx_model.specs.Origin.{Origin}
use Rattle.fx_model.specs.Row.{Counts, Label, Silent, Shows}
use Rattle.fx_model.specs.Step.{Progress}
use Rattle.fx_model.specs.Run.{IsRun}

-- the labels that others can see: what is done to other fibers and to queues, what is learnt of them, and the outcome. What a fiber notes of its own
-- cancellation and of its own resources is left out
abbrev pub visible : List Label → List Label
visible [] = []
visible (Silent ∷ ls) = visible ls
visible (Shows event.Seen ∷ ls) = visible ls
visible (Shows event.SelfRequest ∷ ls) = visible ls
visible (Shows event.Cancelled ∷ ls) = visible ls
visible (Shows (event.Acquired k) ∷ ls) = visible ls
visible (Shows (event.Begin k) ∷ ls) = visible ls
visible (Shows (event.End k) ∷ ls) = visible ls
visible (l ∷ ls) = l ∷ visible ls

-- a fiber that begins so has a run, ended or not, of which others can see this
pub record OthersCanSee (b : Origin) (sees : List Label) : Type 0 where
  pub labels : List Label
  pub counts : Counts
  pub progress : Progress
  pub run : IsRun b labels counts progress
  pub visible_is : visible labels ≡ sees

-- others can see of a fiber that begins with the one term exactly what they can of one that begins with the other, in any range of fiber numbers
abbrev pub LookTheSame : Term → Term → Type 0
LookTheSame t u =
    (next end : ℕ) (ls : List Label) → OthersCanSee (record { term = t; next = next; end = end }) ls
    ↔ OthersCanSee (record { term = u; next = next; end = end }) ls

-- others can see of a fiber that begins with the first term all that they can of one that begins with the second
abbrev pub LooksLikeAllOf : Term → Term → Type 0
LooksLikeAllOf t u =
    (next end : ℕ) (ls : List Label) → OthersCanSee (record { term = u; next = next; end = end }) ls
    → OthersCanSee (record { term = t; next = next; end = end }) ls

-- the fiber has ended as canceled, and others saw nothing else of it
abbrev pub IsCanceledAlone : List Label → Type 0
IsCanceledAlone ls = ls ≡ Shows (event.Ended outcome.Canceled) ∷ []

-- they look the same, but for a fiber of which others see nothing but that it was canceled
abbrev pub LookTheSameUnlessCanceledAlone : Term → Term → Type 0
LookTheSameUnlessCanceledAlone t u =
    (next end : ℕ) (ls : List Label) → (IsCanceledAlone ls → ⊥)
    → OthersCanSee (record { term = t; next = next; end = end }) ls ↔ OthersCanSee (record { term = u; next = next; end = end }) ls
