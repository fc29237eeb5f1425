use Rattle.fx_fiber.specs.Fiber.{progress}
use Rattle.fx_follow.proofs.Places.{place_at}
use Rattle.fx_follow.proofs.stand.Place.of.Goals as goal

pub returns : goal.returns
returns g c =
    place_at g.J.CodeBrand.nodes (progress g.J.CodeBrand.nodes c.args.fiber.now) c.args.fiber.now.registers c.node.result c.is_open.result
    c.waits_for.result c.node.ensures c.is_open.ensures c.waits_for.ensures
