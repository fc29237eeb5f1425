use Rattle.std.proofs.Common.{◌≡◌, ◌⊎◌, ℕ, ◌<◌, inl, inr, arith}
use Rattle.fx_fiber.specs.Theory.{Theory}
use Rattle.fx_fiber.specs.Fiber.{FiberView, progress}
use Rattle.fx_fiber.specs.MakesStep.{MakesStep, DoesStep}
use Rattle.fx_fiber.specs.declared.stepped.Stepped.{Stepped}
use Rattle.fx_fiber.specs.declared.stepped.Stepped.TheVariants.{Went, Gave, Ended}
use Rattle.fx_model.proofs.AllWork.{work_of, step_leaves_less}
use Rattle.fx_plain_tests.proofs.library.run_alone.Goals as goal

module _ {P S : Type 0} (theory : Theory P S) (old : FiberView P) (s : S) (new : FiberView P) (s' : S) where
  made_leaves_less : (answer : Stepped P S) → MakesStep theory old s answer new s'
      → work_of new.counts (progress theory.code new) < work_of old.counts (progress theory.code old)
  made_leaves_less answer made = let less = step_leaves_less made.step in omega arith

  -- a step that goes on leaves less work
  leaves_less : (answer : Stepped P S) → (answer ≡ Went) ⊎ ((answer ≡ Gave) ⊎ (answer ≡ Ended)) → DoesStep theory old s answer new s'
      → work_of new.counts (progress theory.code new) < work_of old.counts (progress theory.code old)
  leaves_less answer (inl went) does = made_leaves_less Went (rw went at does)
  leaves_less answer (inr (inl gave)) does = made_leaves_less Gave (rw gave at does)
  leaves_less answer (inr (inr ended)) does = made_leaves_less Ended (rw ended at does)

pub loop-fiber-smaller : goal.loop-fiber-smaller
loop-fiber-smaller g c =
    leaves_less _ c.loop-fiber.fiber c.loop-fiber.world c.step.new.self c.step.new.shared c.in_ok-step.field-0 c.in-Went.is
    c.in_ok-step.ensures.ok
