use Rattle.std.proofs.Common.{refl}
use Rattle.std.proofs.lemmas.Result.{err_from_is_err_and}
use Rattle.fx_command.specs.Performed.{picture_ran}
use Rattle.fx_command.proofs.Performed.{cut_short}
use Rattle.fx_command.proofs.WorkersLaws.{can_run}
use Rattle.fx_command.proofs.pictured.picture_run.Goals as goal

pub returns-in_err-write : goal.returns-in_err-write
returns-in_err-write g c picks expected =
    let fault = err_from_is_err_and c.from_residual-in_err-write.result c.from_residual-in_err-write.ensures.1 in
    let can = can_run c.args.workers _ c.in_ok-ran.ensures.workers in
    let words = rw (c.deref-3.ensures.value, c.deref-4.ensures.value) at c.in_ok-words.ensures in
    let events = rw c.deref-5.ensures.value at c.in_ok-events.ensures in
    let stood = rw (c.deref-6.ensures.value, c.deref-7.ensures.value, events) at c.in_ok-stood.ensures in
    let named = rw (c.deref-8.ensures.value, c.deref-9.ensures.value, events) at c.in_ok-names.ensures in
    let drawn = rw (words, c.deref-12.ensures.value, c.deref-11.ensures.value, c.deref-10.ensures.value, stood, named) at c.in_ok-drawn.ensures in
    let part = rw c.deref-13.ensures at c.in_err-write.ensures.part in
    rw (fault.1, fault.2) (cut_short _ _ _ _ _ _ _ _ _ _
    (picture_ran {nodes = c.args.script.now.code.nodes} can.0 can.1 refl c.in_ok-ran.ensures.halted c.in_ok-places.ensures c.in_ok-told.ensures
    c.in_ok-counted.ensures drawn) part)

pub returns : goal.returns
returns g c picks expected =
    let can = can_run c.args.workers _ c.in_ok-ran.ensures.workers in
    let words = rw (c.deref-3.ensures.value, c.deref-4.ensures.value) at c.in_ok-words.ensures in
    let events = rw c.deref-5.ensures.value at c.in_ok-events.ensures in
    let stood = rw (c.deref-6.ensures.value, c.deref-7.ensures.value, events) at c.in_ok-stood.ensures in
    let named = rw (c.deref-8.ensures.value, c.deref-9.ensures.value, events) at c.in_ok-names.ensures in
    let drawn = rw (words, c.deref-12.ensures.value, c.deref-11.ensures.value, c.deref-10.ensures.value, stood, named) at c.in_ok-drawn.ensures in
    record {
      text = _;
      answer = picture_ran {nodes = c.args.script.now.code.nodes} can.0 can.1 refl c.in_ok-ran.ensures.halted c.in_ok-places.ensures c.in_ok-told.ensures
          c.in_ok-counted.ensures drawn;
      taken = rw c.deref-13.ensures at c.in_ok-write.ensures.whole;
    }
