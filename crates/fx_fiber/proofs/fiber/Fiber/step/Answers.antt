use Rattle.std.proofs.Common.{sym, ◌∙◌}
use Rattle.fx_fiber.proofs.fiber.Fiber.step.Goals as goal

pub step-requires : goal.step-requires
step-requires g c =
    rw c.deref_mut.ensures.value
    (record { code = c.requires.code; kept = c.self.invariant.1; going = rw (← c.self.view_is) at c.requires.going })

pub invariant_of-self : goal.invariant_of-self
invariant_of-self g c =
    let stays = rw c.deref_mut.ensures.value at c.step.ensures.id in (
      c.step.ensures.number ∙ c.self.invariant.0 ∙ sym stays,
      c.step.ensures.kept,
      rw c.step.ensures.number c.self.invariant.2,
    )

pub returns : goal.returns
returns g c =
    let step = rw c.deref_mut.ensures.value at c.step.ensures in
    rw (← c.self.view_is) (record { ok = step.ok; err = step.err; number = step.number; beginning = step.beginning; source = step.source })
