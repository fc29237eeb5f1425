use Rattle.fx_plain.proofs.PlainMachineBursts.{goes_on_the_same_world, some_after_burst, world_after_burst}
use Rattle.fx_plain.proofs.PlainMachineLeast.{some_by_least, less_by_least, burst_then, then_burst, least_again}
use Rattle.fx_plain.proofs.plain_machine.PlainMachine.flow_rounds.Goals as goal

pub burst_from_result-requires-clause-stands : goal.burst_from_result-requires-clause-stands
burst_from_result-requires-clause-stands g c =
    rw c.least.ensures.same (some_by_least g.J.CodeBrand.nodes c.args.self.now c.loop-fiber.self c.loop-fiber.invariant c.requires.stands)

pub returns-then-not-is_at_queue : goal.returns-then-not-is_at_queue
returns-then-not-is_at_queue g c =
    let nodes = g.J.CodeBrand.nodes in
    let p = c.loop-fiber.self in
    let q = c.burst_from_result.new.self in
    let f = c.in-Some.fiber in
    let on = goes_on_the_same_world nodes f p q c.least.new.self c.least.ensures.same c.in_ok-burst_from_result.ensures.goes in
    record { goes = then_burst nodes p q f c.in-Some.ensures.least.1 on c.args.self.now c.loop-fiber.invariant }

pub flow-requires-in-Some-clause-least : goal.flow-requires-in-Some-clause-least
flow-requires-in-Some-clause-least g c =
    let nodes = g.J.CodeBrand.nodes in
    let p = c.loop-fiber.self in
    let q = c.burst_from_result.new.self in
    let f = c.in-Some.fiber in
    let on = goes_on_the_same_world nodes f p q c.least.new.self c.least.ensures.same c.in_ok-burst_from_result.ensures.goes in
    rw (world_after_burst nodes f p q on (some_by_least nodes c.args.self.now p c.loop-fiber.invariant c.requires.stands)) c.in-Some.ensures.least

pub flow-requires-in-Some-clause-stands : goal.flow-requires-in-Some-clause-stands
flow-requires-in-Some-clause-stands g c =
    let nodes = g.J.CodeBrand.nodes in
    let p = c.loop-fiber.self in
    let q = c.burst_from_result.new.self in
    let f = c.in-Some.fiber in
    let on = goes_on_the_same_world nodes f p q c.least.new.self c.least.ensures.same c.in_ok-burst_from_result.ensures.goes in
    some_after_burst nodes f p q on (some_by_least nodes c.args.self.now p c.loop-fiber.invariant c.requires.stands)

pub loop-fiber-smaller : goal.loop-fiber-smaller
loop-fiber-smaller g c =
    let nodes = g.J.CodeBrand.nodes in
    let p = c.loop-fiber.self in
    let q = c.burst_from_result.new.self in
    let p' = c.flow-in-Some.new.self in
    let f = c.in-Some.fiber in
    let on = goes_on_the_same_world nodes f p q c.least.new.self c.least.ensures.same c.in_ok-burst_from_result.ensures.goes in
    less_by_least nodes p p' (burst_then nodes p q f c.in-Some.ensures.least.1 on p' c.in_ok-flow-2.ensures.goes)
    (some_by_least nodes c.args.self.now p c.loop-fiber.invariant c.requires.stands)

pub loop-fiber-preserved : goal.loop-fiber-preserved
loop-fiber-preserved g c =
    let nodes = g.J.CodeBrand.nodes in
    let p = c.loop-fiber.self in
    let q = c.burst_from_result.new.self in
    let p' = c.flow-in-Some.new.self in
    let f = c.in-Some.fiber in
    let on = goes_on_the_same_world nodes f p q c.least.new.self c.least.ensures.same c.in_ok-burst_from_result.ensures.goes in
    least_again nodes c.args.self.now p p' c.loop-fiber.invariant (burst_then nodes p q f c.in-Some.ensures.least.1 on p' c.in_ok-flow-2.ensures.goes)

pub returns : goal.returns
returns g c = record { goes = λ s m so. rw c.least.ensures.same (c.loop-fiber.invariant s m so) }
