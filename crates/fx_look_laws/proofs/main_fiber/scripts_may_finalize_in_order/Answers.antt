use Rattle.std.proofs.Common.{arith}
use Rattle.fx_look_laws.proofs.LookLaws.{order_masked, order_finalized}
use Rattle.fx_look_laws.proofs.MainLooks.{looks_any, looks_any_but_alone}
use Rattle.fx_look_laws.proofs.main_fiber.scripts_may_finalize_in_order.Goals as goal

pub returns-clause-masked : goal.returns-clause-masked
returns-clause-masked c =
    λ scope p f g capacities may r plain plain' scoped scoped' main lawful.
    looks_any _ _ capacities may r (omega arith) main lawful (order_masked scope p f g plain plain' scoped scoped')

pub returns-clause-finalized : goal.returns-clause-finalized
returns-clause-finalized c =
    λ scope p f g capacities may r plain plain' scoped scoped' main more lawful.
    looks_any_but_alone _ _ capacities may r (omega arith) main lawful (order_finalized scope p f g plain plain' scoped scoped') more
