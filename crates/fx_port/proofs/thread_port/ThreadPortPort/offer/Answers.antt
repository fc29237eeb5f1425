use Rattle.std.proofs.Common.{◌∙◌, suc, sym, ap, refl}
use Rattle.fx_fiber.specs.Deed.{Put, FoundFull}
use Rattle.fx_port.specs.Rows.{puts_in}
use Rattle.fx_port.specs.PortView.{PortView, facts_of}
use Rattle.fx_port.specs.ThreadCalls.{with_passes}
use Rattle.fx_port.proofs.RunLaws.{whose, put_one}
use Rattle.fx_port.proofs.CallLaws.{by_deed, puts, finds_full, count_put}
use Rattle.fx_port.proofs.thread_port.ThreadPortPort.offer.Goals as goal

pub offer-requires-clause-fiber : goal.offer-requires-clause-fiber
offer-requires-clause-fiber g c =
    let own = c.self.inside.own.value in
    let p : PortView = record { words = c.self.inside.seat.view; passes = own.passes; noted = own.noted } in
    rw c.deref_mut.ensures.value (λ q s at. whose _ _ _ p c.self.invariant.3 q s at ∙ sym c.id-fiber.ensures)

pub invariant_of-self : goal.invariant_of-self
invariant_of-self g c =
    let own = c.self.inside.own.value in
    let p : PortView = record { words = c.self.inside.seat.view; passes = own.passes; noted = own.noted } in
    let did = rw c.deref_mut.ensures.value at c.in-Done.ensures in
    let inv = c.self.invariant in
    rw (c.deref_mut-in-Done.ensures.value, c.deref_mut.ensures.value)
    ((inv.0, inv.1, inv.2, put_one _ _ _ p inv.3 c.args.queue c.args.value _ c.offer.new.self did))

pub returns-after-is_waited_at-clause-facts : goal.returns-after-is_waited_at-clause-facts
returns-after-is_waited_at-clause-facts g c =
    let own = c.self.inside.own.value in
    let p : PortView = record { words = c.self.inside.seat.view; passes = own.passes; noted = own.noted } in
    let did = rw c.deref_mut.ensures.value at c.in-Done.ensures in
    let counted = count_put _ _ _ _ _ did in
    rw c.deref_mut-in-Done.ensures.value ((λ i. record (facts_of g.N.RunBrand.nodes p) { puts = counted i })
    ∙ ap (λ (u : PortView). record (facts_of g.N.RunBrand.nodes u) { puts = suc (puts_in u.passes) }) c.self.view_is)

pub returns-after-is_waited_at-clause-deed : goal.returns-after-is_waited_at-clause-deed
returns-after-is_waited_at-clause-deed g c =
    let own = c.self.inside.own.value in
    let p : PortView = record { words = c.self.inside.seat.view; passes = own.passes; noted = own.noted } in
    let did = rw c.deref_mut.ensures.value at c.in-Done.ensures in
    rw (c.deref_mut-in-Done.ensures.value, c.deref_mut.ensures.value)
    (by_deed p _ (with_passes p c.offer.new.self) _ (Put c.args.queue c.args.value) c.args.stamp c.self.view_is refl
    (puts p (whose _ _ _ p c.self.invariant.3) c.args.queue c.args.value c.args.stamp c.offer.new.self did))

pub returns-in-Full-clause-deed : goal.returns-in-Full-clause-deed
returns-in-Full-clause-deed g c =
    let own = c.self.inside.own.value in
    let p : PortView = record { words = c.self.inside.seat.view; passes = own.passes; noted = own.noted } in
    let found = rw c.deref_mut.ensures.value at c.in-Full.ensures in
    rw c.deref_mut.ensures.value (by_deed p _ p _ (FoundFull c.args.queue) 0 c.self.view_is (ap (with_passes p) found.1)
    (finds_full p c.args.queue found.0))
