use Rattle.std.proofs.Common.{sym, ap, ◌∙◌, arith}
use Rattle.fx_fiber.specs.Bare.{BareView}
use Rattle.fx_refusals.proofs.PartedLaws.{parted_more}
use Rattle.fx_refusals.proofs.halting.parted.Goals as goal

pub loop-fiber-preserved : goal.loop-fiber-preserved
loop-fiber-preserved g c =
    rw c.in_ok-push.ensures.items
    (parted_more c.args.code.now.nodes c.args.total c.loop-fiber.next c.loop-fiber.bares.items c.part-bare.result.0
    (ap (λ (x : BareView). x.nodes) c.part-bare.ensures.bare ∙ sym c.requires)
    (omega (arith, c.id.ensures, c.if-id-next.false)) (omega (arith, c.if-total-next.false)) c.loop-fiber.invariant)
