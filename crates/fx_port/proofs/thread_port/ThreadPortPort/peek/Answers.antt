use Rattle.std.proofs.Common.{ap, refl}
use Rattle.fx_fiber.specs.Deed.{FoundEnded}
use Rattle.fx_port.specs.PortView.{PortView}
use Rattle.fx_port.proofs.CallLaws.{seated, by_deed, peeks, peek_finds, peek_finds_none}
use Rattle.fx_port.proofs.thread_port.ThreadPortPort.peek.Goals as goal

pub returns-in-Some-clause-told : goal.returns-in-Some-clause-told
returns-in-Some-clause-told g c =
    let own = c.self.inside.own.value in
    let p : PortView = record { words = c.self.inside.seat.view; passes = own.passes; noted = own.noted } in
    rw c.deref_mut.ensures.value (peek_finds g.N.RunBrand.words.fibers p _ _ _ _ c.args.id c.self.view_is c.in-Some.end
    (ap (seated own.passes own.noted) c.in-Some.ensures.some) c.in-Some.ensures.knows c.in-Some.ensures.stamp c.leave.ensures)

pub returns-in-Some-clause-deed : goal.returns-in-Some-clause-deed
returns-in-Some-clause-deed g c =
    let own = c.self.inside.own.value in
    let p : PortView = record { words = c.self.inside.seat.view; passes = own.passes; noted = own.noted } in
    rw c.deref_mut.ensures.value (by_deed p _ _ _ (FoundEnded c.args.id c.in-Some.end.0) c.in-Some.end.1
    c.self.view_is (ap (seated own.passes own.noted) c.in-Some.ensures.some)
    (peeks p c.args.id c.in-Some.end.0 c.in-Some.end.1))

pub returns-in-None-clause-told : goal.returns-in-None-clause-told
returns-in-None-clause-told g c =
    let own = c.self.inside.own.value in
    let p : PortView = record { words = c.self.inside.seat.view; passes = own.passes; noted = own.noted } in
    peek_finds_none g.N.RunBrand.words.fibers p _ _ _ _ c.args.id c.self.view_is
    (ap (seated own.passes own.noted) c.in-None.ensures.none) c.in-None.ensures.knows refl
