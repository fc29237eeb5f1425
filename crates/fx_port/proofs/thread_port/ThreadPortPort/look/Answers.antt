use Rattle.std.proofs.Common.{ap}
use Rattle.fx_fiber.specs.Deed.{Saw}
use Rattle.fx_port.specs.PortView.{PortView}
use Rattle.fx_port.proofs.CallLaws.{seated, by_deed, looks, look_finds}
use Rattle.fx_port.proofs.thread_port.ThreadPortPort.look.Goals as goal

pub returns-in-Some-clause-told : goal.returns-in-Some-clause-told
returns-in-Some-clause-told g c =
    let own = c.self.inside.own.value in
    let p : PortView = record { words = c.self.inside.seat.view; passes = own.passes; noted = own.noted } in
    rw c.deref_mut.ensures.value (look_finds p _ _ _ _ c.in-Some.stamp c.self.view_is
    (ap (seated own.passes own.noted) c.in-Some.ensures.view)
    c.in-Some.ensures.knows c.in-Some.ensures.greatest c.leave.ensures)

pub returns-in-Some-clause-deed : goal.returns-in-Some-clause-deed
returns-in-Some-clause-deed g c =
    let own = c.self.inside.own.value in
    let p : PortView = record { words = c.self.inside.seat.view; passes = own.passes; noted = own.noted } in
    rw c.deref_mut.ensures.value (by_deed p _ _ _ Saw c.in-Some.stamp c.self.view_is
    (ap (seated own.passes own.noted) c.in-Some.ensures.view) (looks p c.in-Some.stamp))
