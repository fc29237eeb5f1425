use Rattle.std.proofs.Common.{◌∙◌, sym, ap, subst}
use Rattle.fx_plain.specs.declared.plain_machine.PlainMachine.{PlainMachine}
use Rattle.fx_plain.specs.World.{is_ready_in}
use Rattle.fx_plain.specs.PlainMachine.{StandsForSome}
use Rattle.fx_plain.proofs.ToldWays.{rest_smaller, rest_stands, rest_told}
use Rattle.fx_plain.proofs.plain_machine.PlainMachine.tell_rest.Goals as goal

pub try_and_tell-requires-clause-ready : goal.try_and_tell-requires-clause-ready
try_and_tell-requires-clause-ready g c =
    ap (λ (p : PlainMachine g.row.J.Denot). is_ready_in p.world c.in-Some.fiber) c.chosen.ensures.same ∙ c.in-Some.ensures.least.0

pub try_and_tell-requires-clause-stands : goal.try_and_tell-requires-clause-stands
try_and_tell-requires-clause-stands g c =
    subst (λ (p : PlainMachine g.row.J.Denot). StandsForSome g.J.CodeBrand.nodes p) (sym c.chosen.ensures.same) c.loop-fiber.invariant.0

pub loop-fiber-smaller : goal.loop-fiber-smaller
loop-fiber-smaller g c =
    rest_smaller g.J.CodeBrand.nodes c.in-Some.fiber c.loop-fiber.self c.chosen.new.self c.try_and_tell.new.self c.chosen.ensures.same c.in_ok-made.made
    c.in_ok-made.ensures c.loop-fiber.invariant.0

pub loop-fiber-preserved : goal.loop-fiber-preserved
loop-fiber-preserved g c =
    let nodes = g.J.CodeBrand.nodes in
    let p = c.loop-fiber.self in
    let q = c.chosen.new.self in
    let p' = c.try_and_tell.new.self in
    let f = c.in-Some.fiber in
    let made = c.in_ok-made.made in
    let same = c.chosen.ensures.same in (
      rest_stands nodes f p q p' same made c.in_ok-made.ensures c.loop-fiber.invariant.0,
      λ s all taken u.
          rest_told nodes f p q p' same made c.in_ok-made.ensures c.in-Some.ensures.least.1 _ _ c.in_ok-tell.ensures s all taken
          (c.loop-fiber.invariant.1 s all taken u),
    )
