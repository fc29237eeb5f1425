use Rattle.std.proofs.Common.{arith}
use Rattle.fx_look_laws.proofs.LookLaws.{mask_after, mask_before}
use Rattle.fx_look_laws.proofs.MainLooks.{looks_any}
use Rattle.fx_look_laws.proofs.main_fiber.scripts_may_cancel_after_a_mask.Goals as goal

pub returns-clause-after : goal.returns-clause-after
returns-clause-after c =
    λ scope p a capacities may r plain scoped main lawful. looks_any _ _ capacities may r (omega arith) main lawful (mask_after scope p a plain scoped)

pub returns-clause-before : goal.returns-clause-before
returns-clause-before c =
    λ scope p a capacities may r plain scoped main lawful. looks_any _ _ capacities may r (omega arith) main lawful (mask_before scope p a plain scoped)
