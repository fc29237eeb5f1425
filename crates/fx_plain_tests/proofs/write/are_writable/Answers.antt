use Rattle.std.proofs.Common.{rules, subst}
use Rattle.std.proofs.lemmas.List.{take_all}
use Rattle.std.proofs.lemmas.List.Elements.{All-more}
use Rattle.fx_report.specs.Text.{IsWritableFiber}
use Rattle.fx_plain_tests.proofs.write.are_writable.Goals as goal

pub loop-fiber-preserved : goal.loop-fiber-preserved
loop-fiber-preserved c =
    let P = IsWritableFiber c.args.queues in
    let this = subst P c.fiber-item.is c.if-not-is_writable_fiber.ensures in
    All-more P c.args.fibers.now c.loop-fiber.fiber-index c.fiber-item.result (search rules) c.loop-fiber.invariant this

pub returns : goal.returns
returns c = rw (take_all c.loop-fiber.fiber-index c.args.fibers.now (search rules)) at c.loop-fiber.invariant
