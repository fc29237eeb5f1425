-- The step of a fiber at `cede` gives way, and one at a value does not.
use Rattle.std.proofs.Common.{◌≡◌, Some}
use Rattle.fx_term.specs.declared.node.Arg.TheVariants.{Number}
use Rattle.fx_term.specs.Term.{Pure, Cede}
use Rattle.fx_model.specs.Row.{Silent}
use Rattle.fx_model.specs.Step.{leaf_at}
use Rattle.fx_fiber.specs.Fiber.{FiberView, progress}
use Rattle.fx_fiber.specs.MakesStep.{MakesStep}
use Rattle.fx_fiber.specs.Theory.{Theory}
use Rattle.fx_fiber.specs.declared.stepped.Stepped.{Stepped}
use Rattle.fx_fiber.specs.declared.stepped.Stepped.TheVariants.{Went, Gave}

module _ {P S : Type 0} {theory : Theory P S} {old new : FiberView P} {shared shared' : S} {answer : Stepped P S} where
  pub ceded : leaf_at (progress theory.code old) ≡ Some Cede → (step : MakesStep theory old shared answer new shared') → step.label ≡ Silent
      → answer ≡ Gave
  ceded at step silent = rw (at, silent) at step.answers

  pub valued : leaf_at (progress theory.code old) ≡ Some (Pure (Number 0)) → (step : MakesStep theory old shared answer new shared') → step.label ≡ Silent
      → answer ≡ Went
  valued at step silent = rw (at, silent) at step.answers
