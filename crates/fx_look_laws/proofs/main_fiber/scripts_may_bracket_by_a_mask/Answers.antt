use Rattle.std.proofs.Common.{arith}
use Rattle.fx_look_laws.proofs.LookLaws.{bracket_as_mask, mask_as_bracket}
use Rattle.fx_look_laws.proofs.MainLooks.{looks_any, looks_any_but_alone}
use Rattle.fx_look_laws.proofs.main_fiber.scripts_may_bracket_by_a_mask.Goals as goal

pub returns-clause-masked : goal.returns-clause-masked
returns-clause-masked c =
    λ scope p y e x a u d capacities may r py pe new pa pu pd sa su sd none main lawful.
    looks_any _ _ capacities may r (omega (arith, none)) main lawful (bracket_as_mask scope p y e x a u d py pe new pa pu pd sa su sd)

pub returns-clause-bracketed : goal.returns-clause-bracketed
returns-clause-bracketed c =
    λ scope p y e x a u d capacities may r py pe new pa pu pd sa su sd none main more lawful.
    looks_any_but_alone _ _ capacities may r (omega (arith, none)) main lawful (mask_as_bracket scope p y e x a u d py pe new pa pu pd sa su sd) more
