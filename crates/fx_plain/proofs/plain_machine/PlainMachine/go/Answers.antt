use Rattle.std.proofs.Common.{◌∙◌, sym}
use Rattle.fx_plain.proofs.PlainMachineWay.{tried_some}
use Rattle.fx_plain.proofs.PlainMachineBursts.{goes_on_the_same, some_after_burst, world_after_burst, try_after_burst_leaves_less}
use Rattle.fx_plain.proofs.PlainMachineLeast.{some_by_least, less_after_burst}
use Rattle.fx_plain.proofs.PlainMachineGoing.{chosen_ready, goes_alone, goes_to_halt, flows_to_halt, tries_the_same, not_alone, nobody_alone}
use Rattle.fx_plain.proofs.plain_machine.PlainMachine.go.Goals as goal

pub flows-requires-clause-least : goal.flows-requires-clause-least
flows-requires-clause-least g c =
    let nodes = g.J.CodeBrand.nodes in
    let p = c.loop-fiber.self in
    let q = c.burst.new.self in
    let f = c.in-Some.fiber in
    let on = goes_on_the_same nodes f p q c.chosen.new.self c.chosen.ensures.same c.in_ok-burst.ensures.goes in
    rw (world_after_burst nodes f p q on c.loop-fiber.invariant.0) c.in-Some.ensures.least

pub flows-requires-clause-stands : goal.flows-requires-clause-stands
flows-requires-clause-stands g c =
    let nodes = g.J.CodeBrand.nodes in
    let p = c.loop-fiber.self in
    let q = c.burst.new.self in
    let f = c.in-Some.fiber in
    some_after_burst nodes f p q (goes_on_the_same nodes f p q c.chosen.new.self c.chosen.ensures.same c.in_ok-burst.ensures.goes) c.loop-fiber.invariant.0

pub try_step-requires-clause-ready : goal.try_step-requires-clause-ready
try_step-requires-clause-ready g c =
    let nodes = g.J.CodeBrand.nodes in
    let p = c.loop-fiber.self in
    let q = c.burst.new.self in
    let f = c.in-Some.fiber in
    let on = goes_on_the_same nodes f p q c.chosen.new.self c.chosen.ensures.same c.in_ok-burst.ensures.goes in
    let same = rw c.if-went.false at c.in_ok-went.ensures.goes in
    rw (same, world_after_burst nodes f p q on c.loop-fiber.invariant.0)
    (chosen_ready c.args.only c.args.self.now p c.loop-fiber.next f c.requires.ready c.loop-fiber.invariant.2 (c.in-Some.ensures.only, c.in-Some.ensures.least))

pub try_step-requires-clause-stands : goal.try_step-requires-clause-stands
try_step-requires-clause-stands g c =
    let nodes = g.J.CodeBrand.nodes in
    let p = c.loop-fiber.self in
    let q = c.burst.new.self in
    let f = c.in-Some.fiber in
    let same = rw c.if-went.false at c.in_ok-went.ensures.goes in
    rw same
    (some_after_burst nodes f p q (goes_on_the_same nodes f p q c.chosen.new.self c.chosen.ensures.same c.in_ok-burst.ensures.goes) c.loop-fiber.invariant.0)

pub returns-then-is_some-2-clause-tries : goal.returns-then-is_some-2-clause-tries
returns-then-is_some-2-clause-tries g c =
    let nodes = g.J.CodeBrand.nodes in
    let q = c.burst.new.self in
    let f = c.in-Some.fiber in
    let same = rw c.if-went.false at c.in_ok-went.ensures.goes in
    goes_alone nodes c.args.only c.args.self.now c.loop-fiber.self q c.try_step.new.self f
    (tries_the_same nodes f q c.flows.new.self c.try_step.new.self same c.in_ok-next.ensures.tries) c.loop-fiber.next c.loop-fiber.invariant.2
    c.in-Some.ensures.only
    (λ is. c.burst.ensures.none is ∙ c.chosen.ensures.same)

pub loop-fiber-smaller-then-went : goal.loop-fiber-smaller-then-went
loop-fiber-smaller-then-went g c =
    let nodes = g.J.CodeBrand.nodes in
    let p = c.loop-fiber.self in
    let q = c.burst.new.self in
    let p' = c.flows.new.self in
    let f = c.in-Some.fiber in
    let on = goes_on_the_same nodes f p q c.chosen.new.self c.chosen.ensures.same c.in_ok-burst.ensures.goes in
    let by = rw c.if-went.true at c.in_ok-went.ensures.goes in
    less_after_burst nodes p q f on p' by.1 c.loop-fiber.invariant.0

pub loop-fiber-preserved-then-went : goal.loop-fiber-preserved-then-went
loop-fiber-preserved-then-went g c =
    let nodes = g.J.CodeBrand.nodes in
    let p = c.loop-fiber.self in
    let q = c.burst.new.self in
    let p' = c.flows.new.self in
    let f = c.in-Some.fiber in
    let on = goes_on_the_same nodes f p q c.chosen.new.self c.chosen.ensures.same c.in_ok-burst.ensures.goes in
    let by = rw c.if-went.true at c.in_ok-went.ensures.goes in (
      some_by_least nodes q p' by.1 (some_after_burst nodes f p q on c.loop-fiber.invariant.0),
      flows_to_halt nodes c.args.only c.args.self.now p q p' f on by.1 (c.in-Some.ensures.only, c.in-Some.ensures.least) c.loop-fiber.invariant.1,
      not_alone _ c.args.only by.0,
    )

pub loop-fiber-smaller : goal.loop-fiber-smaller
loop-fiber-smaller g c =
    let nodes = g.J.CodeBrand.nodes in
    let p = c.loop-fiber.self in
    let q = c.burst.new.self in
    let p' = c.try_step.new.self in
    let f = c.in-Some.fiber in
    let on = goes_on_the_same nodes f p q c.chosen.new.self c.chosen.ensures.same c.in_ok-burst.ensures.goes in
    let same = rw c.if-went.false at c.in_ok-went.ensures.goes in
    try_after_burst_leaves_less nodes f p q on p' c.loop-fiber.invariant.0
    (tries_the_same nodes f q c.flows.new.self p' same c.in_ok-next.ensures.tries)

pub loop-fiber-preserved : goal.loop-fiber-preserved
loop-fiber-preserved g c =
    let nodes = g.J.CodeBrand.nodes in
    let p = c.loop-fiber.self in
    let q = c.burst.new.self in
    let p' = c.try_step.new.self in
    let f = c.in-Some.fiber in
    let on = goes_on_the_same nodes f p q c.chosen.new.self c.chosen.ensures.same c.in_ok-burst.ensures.goes in
    let some = some_after_burst nodes f p q on c.loop-fiber.invariant.0 in
    let same = rw c.if-went.false at c.in_ok-went.ensures.goes in
    let tries = tries_the_same nodes f q c.flows.new.self p' same c.in_ok-next.ensures.tries in (
      tried_some nodes some.0 f q p' (tries some.0) some.1 some.2,
      goes_to_halt nodes c.args.only c.args.self.now p q p' f tries on c.loop-fiber.invariant.0 (c.in-Some.ensures.only, c.in-Some.ensures.least)
          c.loop-fiber.invariant.1,
      nobody_alone _ c.args.only (sym c.is_some-else-went.ensures ∙ c.if-is_some-2.false),
    )
