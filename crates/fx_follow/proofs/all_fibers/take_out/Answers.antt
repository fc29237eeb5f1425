use Rattle.std.proofs.Common.{List, sym, ◌∙◌, subst, ap}
use Rattle.fx_fiber.specs.Fiber.{FiberView}
use Rattle.fx_fiber.specs.PortFacts.{Facts}
use Rattle.fx_follow.specs.Waiting.{IsTakenOut}
use Rattle.fx_follow.proofs.Members.{taken_out}
use Rattle.fx_follow.proofs.all_fibers.take_out.Goals as goal

pub returns : goal.returns
returns g c =
    let at = rw c.deref.ensures.value at c.in_ok-at.ensures in
    let out = taken_out c.args.waiting.now.items c.in_ok-at.at c.remove.result at.0 c.remove.ensures.value in (
      ap (λ (f : FiberView Facts). f.port.number) c.remove.ensures.value ∙ at.1 c.remove.result,
      subst (λ (xs : List (FiberView Facts)). IsTakenOut c.remove.result c.args.waiting.now.items xs) (sym c.remove.ensures.items) out,
    )
