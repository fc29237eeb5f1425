use Rattle.std.proofs.Common.{◌∙◌, true, set, ap, arith}
use Rattle.fx_word.specs.Entry.{asking}
use Rattle.fx_word.specs.SeatView.{with_own}
use Rattle.fx_word.specs.Words.{WordsId, Seated}
use Rattle.fx_port.specs.PortView.{PortView}
use Rattle.fx_port.proofs.CallLaws.{by_no_deed, outsides}
use Rattle.fx_port.proofs.thread_port.ThreadPortPort.outside.Goals as goal

pub returns-then-id-fibers-clause-deed : goal.returns-then-id-fibers-clause-deed
returns-then-id-fibers-clause-deed g c =
    let own = c.self.inside.own.value in
    let p : PortView = record { words = c.self.inside.seat.view; passes = own.passes; noted = own.noted } in
    let words = ap (λ (s : Seated). s.view) c.request.ensures in
    let fibers = (rw c.deref.ensures at c.fibers.ensures) ∙ ap (λ (w : WordsId). w.fibers) c.self.invariant.0 in
    let marks = c.self.invariant.3.marks in
    let below = c.if-id-fibers.true in
    let marked = rw c.deref_mut.ensures.value at c.mark.ensures in
    rw c.deref_mut.ensures.value
    (by_no_deed p _ (record p { words = with_own p.words (asking c.args.id 0 p.words.own); noted = set p.noted c.args.id true }) _ c.self.view_is
    (λ i. record { words = words i; passes = own.passes; noted = marked i }) (outsides p c.args.id (omega (arith, below, fibers, marks))))
