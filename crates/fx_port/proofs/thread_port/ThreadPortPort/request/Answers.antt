use Rattle.std.proofs.Common.{◌∙◌, ◌++◌, ◌∷◌, [], List, ap, subst, arith}
use Rattle.fx_fiber.specs.Deed.{Requested}
use Rattle.fx_fiber.specs.StampedDeed.{StampedDeed, stamped_deed}
use Rattle.fx_word.specs.Words.{WordsId}
use Rattle.fx_port.specs.PortView.{PortView}
use Rattle.fx_port.specs.ThreadCalls.{ThreadAgrees}
use Rattle.fx_port.proofs.CallLaws.{seated, by_deed, requests, requests_nobody}
use Rattle.fx_port.proofs.thread_port.ThreadPortPort.request.Goals as goal

pub returns-then-id-fibers-clause-deed : goal.returns-then-id-fibers-clause-deed
returns-then-id-fibers-clause-deed g c =
    let own = c.self.inside.own.value in
    let p : PortView = record { words = c.self.inside.seat.view; passes = own.passes; noted = own.noted } in
    let fibers = (rw c.deref.ensures at c.fibers.ensures) ∙ ap (λ (w : WordsId). w.fibers) c.self.invariant.0 in
    let marks = c.self.invariant.3.marks in
    let below = c.if-id-fibers.true in
    by_deed p _ _ _ (Requested c.args.id) c.args.stamp c.self.view_is (ap (seated own.passes own.noted) c.request.ensures)
    (requests p c.args.id c.args.stamp (omega (arith, below, fibers, marks)))

pub returns-else-id-fibers-clause-deed : goal.returns-else-id-fibers-clause-deed
returns-else-id-fibers-clause-deed g c =
    let own = c.self.inside.own.value in
    let p : PortView = record { words = c.self.inside.seat.view; passes = own.passes; noted = own.noted } in
    let fibers = (rw c.deref.ensures at c.fibers.ensures) ∙ ap (λ (w : WordsId). w.fibers) c.self.invariant.0 in
    let marks = c.self.invariant.3.marks in
    let beyond = c.if-id-fibers.false in
    subst (λ (u : PortView). (ds : List StampedDeed) → ThreadAgrees u ds → ThreadAgrees u (ds ++ stamped_deed (Requested c.args.id) c.args.stamp ∷ []))
    c.self.view_is
    (requests_nobody p c.args.id c.args.stamp (omega (arith, beyond, fibers, marks)))
