use Rattle.std.proofs.Common.{◌≡◌, ◌+◌, ◌-◌, ◌∙◌, suc, refl, arith}
use Rattle.fx_fiber.specs.Fiber.{fiber_at}
use Rattle.fx_fiber.specs.Flows.{Flows, FlowsAndStops}
use Rattle.fx_fiber.proofs.Flows.{begins_here, not_due, not_due_at, passing, round, round_stops, round_short}
use Rattle.fx_fiber.proofs.fiber.flow.flow_on.Goals as goal

pub returns-in-Err-clause-to : goal.returns-in-Err-clause-to
returns-in-Err-clause-to g c =
    let some = c.requires.some in
    record { n = 0; few = omega arith; goes = rw c.have_room.ensures.items Flows.begins }

pub returns-then-sees_first-clause-to : goal.returns-then-sees_first-clause-to
returns-then-sees_first-clause-to g c =
    let some = c.requires.some in
    (omega arith, omega arith, FlowsAndStops.stops Flows.begins (rw c.have_room.ensures.items at c.if-sees_first.ensures.saw).does)

pub loop-left-init : goal.loop-left-init
loop-left-init g c =
    let looked = rw c.if-sees_first.false at c.sees_first.ensures.saw in
    let first = c.sees_first.ensures in
    record {
      to = (0, omega arith, begins_here g.P.Port.theory _ _ _ _ _ _ _ c.have_room.ensures.items looked.1 looked.2 looked.3);
      stands = rw looked.3 c.requires.stands;
      kept = first.kept;
      free = rw (looked.1, looked.2, looked.3) looked.0;
      room = λ lt. rw looked.3 c.in-Ok.ensures.ok;
      id = first.id;
      source = first.source;
      number = first.number;
      beginning = first.beginning;
    }

pub returns-in-Waits-clause-to : goal.returns-in-Waits-clause-to
returns-in-Waits-clause-to g c =
    let at = c.loop-left in
    let to = at.invariant.to in
    let more = c.loop-left-test.true in
    let sum = to.1 in
    let made : c.args.most - at.left ≡ to.0 = omega arith in
    let waits = rw c.in-Waits.is at c.at_queue.ensures.meets in (
      omega arith,
      rw made (record {
        between = fiber_at at.port at.body.trace.items at.body.machine at.body.source;
        found = at.shared;
        goes = to.2;
        wait = waits.0;
        waits = waits.1;
      }),
    )

pub returns-then-left-eq0-clause-to : goal.returns-then-left-eq0-clause-to
returns-then-left-eq0-clause-to g c =
    let to = c.loop-left.invariant.to in
    let more = c.loop-left-test.true in
    let sum = to.1 in
    let all : c.args.most - (c.loop-left.left - 1) ≡ suc to.0 = omega arith in
    (omega arith, omega arith, rw all (FlowsAndStops.stops to.2 (rw c.in-Went.is at c.at_queue.ensures.meets)))

pub returns-in-Stops-clause-to : goal.returns-in-Stops-clause-to
returns-in-Stops-clause-to g c =
    let to = c.loop-left.invariant.to in
    let more = c.loop-left-test.true in
    let sum = to.1 in
    let passed = c.at_queue.ensures in
    let once = passing g.P.Port.theory _ _ _ _ (rw c.in-Went.is at passed.meets) passed.number passed.beginning in
    let made = c.in-Stops.made in
    let burst = rw c.in-Stops.is at c.rules_to_queue.ensures.looked in
    let few = burst.few in
    let all : c.args.most - (c.loop-left.left - 1) + made ≡ suc (made + to.0) = omega arith in (
      omega arith,
      omega arith,
      rw all (round_stops g.P.Port.theory _ _ to.0 _ _ _ _ to.2 once c.if-not-goes_on.ensures _ made _ refl _ _ burst),
    )

pub returns-in-Memory-rules_to_queue-clause-to : goal.returns-in-Memory-rules_to_queue-clause-to
returns-in-Memory-rules_to_queue-clause-to g c =
    let to = c.loop-left.invariant.to in
    let more = c.loop-left-test.true in
    let sum = to.1 in
    let passed = c.at_queue.ensures in
    let once = passing g.P.Port.theory _ _ _ _ (rw c.in-Went.is at passed.meets) passed.number passed.beginning in
    let short = rw c.in-Memory-rules_to_queue.is at c.rules_to_queue.ensures.looked in
    let few = short.few in
    record {
      n = suc (short.n + to.0);
      few = omega arith;
      goes = round_short g.P.Port.theory _ _ to.0 _ _ _ _ to.2 once c.if-not-goes_on.ensures _ _ _ short _ refl;
    }

pub returns-then-not-is_at_queue-clause-to : goal.returns-then-not-is_at_queue-clause-to
returns-then-not-is_at_queue-clause-to g c =
    let to = c.loop-left.invariant.to in
    let more = c.loop-left-test.true in
    let sum = to.1 in
    let passed = c.at_queue.ensures in
    let once = passing g.P.Port.theory _ _ _ _ (rw c.in-Went.is at passed.meets) passed.number passed.beginning in
    let made = c.in-Rule.made in
    let ruled = rw c.in-Rule.is at c.rules_to_queue.ensures.looked in
    let few = ruled.0 in
    let all : c.args.most - (c.loop-left.left - 1 - made) ≡ suc (made + to.0) = omega arith in (
      omega arith,
      omega arith,
      rw (all, ruled.2) (FlowsAndStops.goes_on (round g.P.Port.theory _ _ to.0 _ _ _ _ to.2 once c.if-not-goes_on.ensures made _ refl _ ruled.1)),
    )

pub loop-left-preserved : goal.loop-left-preserved
loop-left-preserved g c =
    let i = c.loop-left.invariant in
    let to = i.to in
    let more = c.loop-left-test.true in
    let sum = to.1 in
    let passed = c.at_queue.ensures in
    let once = passing g.P.Port.theory _ _ _ _ (rw c.in-Went.is at passed.meets) passed.number passed.beginning in
    let made = c.in-Rule.made in
    let ruled = rw c.in-Rule.is at c.rules_to_queue.ensures.looked in
    let few = ruled.0 in
    let free = rw c.in-Rule.is at c.rules_to_queue.ensures.free in
    let after = c.rules_to_queue.ensures in
    record {
      to = (
        suc (made + to.0),
        omega arith,
        rw ruled.2 (round g.P.Port.theory _ _ to.0 _ _ _ _ to.2 once c.if-not-goes_on.ensures made _ refl _ ruled.1),
      );
      stands = not_due_at _ _ _ (not_due _ _ free.0.0) c.if-not-is_at_queue.ensures;
      kept = after.kept;
      free = free.0;
      room = λ lt. free.1 (omega arith);
      id = after.id ∙ passed.id ∙ i.id;
      source = after.source ∙ passed.source ∙ i.source;
      number = after.number ∙ passed.number ∙ i.number;
      beginning = after.beginning ∙ passed.beginning ∙ i.beginning;
    }

pub returns-clause-to : goal.returns-clause-to
returns-clause-to g c =
    let to = c.loop-left.invariant.to in
    let some = c.requires.some in
    let none = c.loop-left-test.false in
    let sum = to.1 in
    let all : c.args.most ≡ to.0 = omega arith in
    (omega arith, omega arith, rw all (FlowsAndStops.goes_on to.2))
