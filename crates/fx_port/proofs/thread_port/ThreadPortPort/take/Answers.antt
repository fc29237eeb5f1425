use Rattle.std.proofs.Common.{◌∙◌, ap, refl}
use Rattle.fx_fiber.specs.Deed.{Got, FoundEmpty}
use Rattle.fx_port.specs.PortView.{PortView, facts_of}
use Rattle.fx_port.specs.ThreadCalls.{with_passes}
use Rattle.fx_port.proofs.RunLaws.{whose, got_one}
use Rattle.fx_port.proofs.CallLaws.{by_deed, gets, finds_empty, count_got}
use Rattle.fx_port.proofs.thread_port.ThreadPortPort.take.Goals as goal

pub invariant_of-self : goal.invariant_of-self
invariant_of-self g c =
    let own = c.self.inside.own.value in
    let p : PortView = record { words = c.self.inside.seat.view; passes = own.passes; noted = own.noted } in
    let took = rw c.deref_mut.ensures.value at c.in-Some.ensures in
    let inv = c.self.invariant in
    rw (c.deref_mut-in-Some.ensures.value, c.deref_mut.ensures.value)
    ((inv.0, inv.1, inv.2, got_one _ _ _ p inv.3 c.args.queue c.in-Some.element.0 c.in-Some.element.1 c.take.new.self took))

pub returns-after-is_waited_at-clause-facts : goal.returns-after-is_waited_at-clause-facts
returns-after-is_waited_at-clause-facts g c =
    let own = c.self.inside.own.value in
    let p : PortView = record { words = c.self.inside.seat.view; passes = own.passes; noted = own.noted } in
    let took = rw c.deref_mut.ensures.value at c.in-Some.ensures in
    let counted = count_got _ _ _ _ _ took in
    rw c.deref_mut-in-Some.ensures.value ((λ i. record (facts_of g.N.RunBrand.nodes p) { puts = counted i }) ∙ ap (facts_of g.N.RunBrand.nodes) c.self.view_is)

pub returns-after-is_waited_at-clause-deed : goal.returns-after-is_waited_at-clause-deed
returns-after-is_waited_at-clause-deed g c =
    let own = c.self.inside.own.value in
    let p : PortView = record { words = c.self.inside.seat.view; passes = own.passes; noted = own.noted } in
    let took = rw c.deref_mut.ensures.value at c.in-Some.ensures in
    rw (c.deref_mut-in-Some.ensures.value, c.deref_mut.ensures.value)
    (by_deed p _ (with_passes p c.take.new.self) _ (Got c.args.queue c.in-Some.element.0) c.in-Some.element.1 c.self.view_is refl
    (gets p (whose _ _ _ p c.self.invariant.3) c.args.queue c.in-Some.element.0 c.in-Some.element.1 c.take.new.self took))

pub returns-in-None-clause-empty : goal.returns-in-None-clause-empty
returns-in-None-clause-empty g c =
    let own = c.self.inside.own.value in
    let p : PortView = record { words = c.self.inside.seat.view; passes = own.passes; noted = own.noted } in
    let found = rw c.deref_mut.ensures.value at c.in-None.ensures in
    rw c.deref_mut.ensures.value (by_deed p _ p _ (FoundEmpty c.args.queue) 0 c.self.view_is (ap (with_passes p) found.1)
    (finds_empty p c.args.queue found.0))
