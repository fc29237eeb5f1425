use Rattle.std.proofs.Common.{◌≡◌, ◌+◌, refl, sym, ◌∙◌, ap, inl, inr, arith}
use Rattle.fx_fiber.specs.PortFacts.{Facts}
use Rattle.fx_fiber.specs.Turns.{Goes}
use Rattle.fx_fiber.proofs.Turns.{stops_on, waits_here, went_from, one_more, one_wait, flow_waits, registers, waits_on, all_steps}
use Rattle.fx_fiber.proofs.Turns.{refused_in_burst, refused_in_flow}
use Rattle.fx_fiber.proofs.turn.stepped.Goals as goal

pub loop-steps-init : goal.loop-steps-init
loop-steps-init g c = record {
  reached = record { goes = Goes.begins; going = sym c.if-has_ended.ensures.ended; number_is = refl; beginning_is = refl };
  most = omega arith;
  flows = c.stands_at_queue-flows.ensures;
}

pub returns-in-Memory-clause-turns : goal.returns-in-Memory-clause-turns
returns-in-Memory-clause-turns g c =
    let few = c.loop-steps-test.true in
    refused_in_flow g.P.Port.theory _ _ _ _ _ _ _ _ c.loop-steps.invariant.reached _ (omega arith) (rw c.in-Memory.is at c.flow_apart.ensures.to)

pub loop-steps-preserved-in-Stops : goal.loop-steps-preserved-in-Stops
loop-steps-preserved-in-Stops g c =
    let few = c.loop-steps-test.true in
    let to = rw c.in-Stops.is at c.flow_apart.ensures.to in
    let within = to.1 in
    record {
      reached = went_from g.P.Port.theory _ _ _ _ _ _ _ _ c.loop-steps.invariant.reached _ to.0 (stops_on g.P.Port.theory to.2)
          c.flow_apart.ensures.number c.flow_apart.ensures.beginning;
      most = omega arith;
      flows = tt;
    }

pub returns-then-still-clause-turns : goal.returns-then-still-clause-turns
returns-then-still-clause-turns g c =
    let few = c.loop-steps-test.true in
    let to = rw c.in-Waits.is at c.flow_apart.ensures.to in
    let within = to.0 in
    inl (waits_on g.P.Port.theory _ _ _ _ to.1.wait _ _ (sym c.still.ensures ∙ c.if-still.true)
    (flow_waits g.P.Port.theory _ _ _ _ _ _ _ _ c.loop-steps.invariant.reached _ (omega arith) to.1 c.flow_apart.ensures.source c.flow_apart.ensures.number
    c.flow_apart.ensures.beginning to.1.wait (waits_here g.P.Port.theory _ _ _ _ _ to.1)))

pub register-requires-clause-waits : goal.register-requires-clause-waits
register-requires-clause-waits g c =
    let to = rw c.in-Waits.is at c.flow_apart.ensures.to in
    (to.1.wait, waits_here g.P.Port.theory _ _ _ _ _ to.1)

pub loop-steps-preserved-in-Waits : goal.loop-steps-preserved-in-Waits
loop-steps-preserved-in-Waits g c =
    let few = c.loop-steps-test.true in
    let to = rw c.in-Waits.is at c.flow_apart.ensures.to in
    let within = to.0 in
    let n = c.loop-steps.steps in
    let made = c.in-Waits.made in
    let all : n + (made + 1) ≡ (n + made) + 1 = omega arith in
    let registered = c.register.ensures.registered in
    record {
      reached = rw all (registers g.P.Port.theory _ _ _ _ registered.0 _ _ _ _ (sym c.still.ensures ∙ c.if-still.false)
          (flow_waits g.P.Port.theory _ _ _ _ _ _ _ _ c.loop-steps.invariant.reached _ (omega arith) to.1 c.flow_apart.ensures.source
          c.flow_apart.ensures.number c.flow_apart.ensures.beginning registered.0 registered.1)
          registered.2
          (ap (λ (x : Facts). x.number) c.register.ensures.facts) (ap (λ (x : Facts). x.beginning) c.register.ensures.facts));
      most = omega arith;
      flows = c.stands_at_queue-flows-in-Waits.ensures;
    }

pub returns-in-Err-clause-turns : goal.returns-in-Err-clause-turns
returns-in-Err-clause-turns g c =
    let e = c.in-Err.ensures.err in
    record {
      steps = c.loop-steps.steps;
      few = c.loop-steps-test.true;
      was = c.loop-steps.is_registered;
      before = c.loop-steps.fiber;
      goes = rw e.1 c.loop-steps.invariant.reached.goes;
      unchanged = e.0;
    }

pub returns-in-Ok-Child-clause-turns : goal.returns-in-Ok-Child-clause-turns
returns-in-Ok-Child-clause-turns g c = record {
  steps = c.loop-steps.steps;
  few = c.loop-steps-test.true;
  was = c.loop-steps.is_registered;
  before = c.loop-steps.fiber;
  between = c.loop-steps.shared;
  goes = c.loop-steps.invariant.reached.goes;
  last = rw c.in-Ok-Child.field-0-is at c.in-Ok-Child.ensures.ok;
}

pub returns-in-Ok-Ended-clause-turns : goal.returns-in-Ok-Ended-clause-turns
returns-in-Ok-Ended-clause-turns g c = inr (record {
  steps = c.loop-steps.steps;
  few = c.loop-steps-test.true;
  was = c.loop-steps.is_registered;
  before = c.loop-steps.fiber;
  between = c.loop-steps.shared;
  goes = c.loop-steps.invariant.reached.goes;
  last = rw c.in-Ok-Ended.field-0-is at c.in-Ok-Ended.ensures.ok;
})

pub returns-in-Ok-Gave-clause-turns : goal.returns-in-Ok-Gave-clause-turns
returns-in-Ok-Gave-clause-turns g c = inr (inl (record {
  after = c.step.new.self;
  gave = record {
    steps = c.loop-steps.steps;
    few = c.loop-steps-test.true;
    was = c.loop-steps.is_registered;
    before = c.loop-steps.fiber;
    between = c.loop-steps.shared;
    goes = c.loop-steps.invariant.reached.goes;
    last = rw c.in-Ok-Gave.field-0-is at c.in-Ok-Gave.ensures.ok;
  };
  yields = c.yields.ensures;
}))

pub returns-in-Err-burst-clause-turns : goal.returns-in-Err-burst-clause-turns
returns-in-Err-burst-clause-turns g c =
    refused_in_burst g.P.Port.theory _ _ _ _ _ _ _ _ c.loop-steps-test.true c.loop-steps.invariant.reached
    (rw c.in-Ok-Went.field-0-is at c.in-Ok-Went.ensures.ok) _ _ _ (let few = c.loop-steps-test.true in omega arith) c.in-Err-burst.ensures.err

pub loop-steps-preserved-in-Ok : goal.loop-steps-preserved-in-Ok
loop-steps-preserved-in-Ok g c =
    let few = c.loop-steps-test.true in
    let burst = c.in-Ok.ensures.ok in
    let within = burst.few in
    record {
      reached = one_more g.P.Port.theory _ _ _ _ _ _ _ _ c.loop-steps.invariant.reached
          (rw c.in-Ok-Went.field-0-is at c.in-Ok-Went.ensures.ok) _ _ _ _ burst (c.burst.ensures.number ∙ c.step.ensures.number)
          (c.burst.ensures.beginning ∙ c.step.ensures.beginning);
      most = omega arith;
      flows = c.stands_at_queue-flows-in-Ok.ensures;
    }

pub returns-then-is_registered-clause-turns : goal.returns-then-is_registered-clause-turns
returns-then-is_registered-clause-turns g c =
    inl (waits_on g.P.Port.theory _ _ _ _ c.in-Ok-Waits.source _ _ c.if-is_registered.true
    (one_wait g.P.Port.theory _ _ _ _ _ _ _ _ _ c.loop-steps-test.true c.loop-steps.invariant.reached
    (rw c.in-Ok-Waits.field-0-is at c.in-Ok-Waits.ensures.ok) c.in-Ok-Waits.ensures.source c.step.ensures.number c.step.ensures.beginning))

pub loop-steps-preserved : goal.loop-steps-preserved
loop-steps-preserved g c =
    let few = c.loop-steps-test.true in
    record {
      reached = registers g.P.Port.theory _ _ _ _ c.in-Ok-Waits.source _ _ _ _ c.if-is_registered.false
          (one_wait g.P.Port.theory _ _ _ _ _ _ _ _ _ c.loop-steps-test.true c.loop-steps.invariant.reached
          (rw c.in-Ok-Waits.field-0-is at c.in-Ok-Waits.ensures.ok) c.in-Ok-Waits.ensures.source c.step.ensures.number c.step.ensures.beginning)
          (record { told = c.wait_on.ensures.told; same = c.wait_on.ensures.same })
          (ap (λ (x : Facts). x.number) c.wait_on.ensures.facts) (ap (λ (x : Facts). x.beginning) c.wait_on.ensures.facts);
      most = omega arith;
      flows = rw c.if-flows.false tt;
    }

pub returns-clause-turns : goal.returns-clause-turns
returns-clause-turns g c = inr (inr (record {
  was = c.loop-steps.is_registered;
  after = c.loop-steps.fiber;
  goes = all_steps g.P.Port.theory _ _ _ _ _ _ c.loop-steps-test.false c.loop-steps.invariant.most c.loop-steps.invariant.reached;
  yields = c.yields-2.ensures;
}))
