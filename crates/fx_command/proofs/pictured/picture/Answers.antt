use Rattle.std.proofs.Common.{refl}
use Rattle.std.proofs.lemmas.Result.{err_from_is_err_and}
use Rattle.fx_command.specs.Performed.{pictured}
use Rattle.fx_command.proofs.Performed.{cut_short}
use Rattle.fx_command.proofs.pictured.picture.Goals as goal

pub returns-in_err-write : goal.returns-in_err-write
returns-in_err-write g c expected =
    let fault = err_from_is_err_and c.from_residual-in_err-write.result c.from_residual-in_err-write.ensures.1 in
    let words = rw c.deref.ensures.value at c.in_ok-words.ensures in
    let stood = rw (c.deref-2.ensures.value, c.deref-3.ensures.value) at c.in_ok-stood.ensures in
    let named = rw (c.deref-4.ensures.value, c.deref-5.ensures.value) at c.in_ok-handles.ensures in
    let drawn = rw (words, c.deref-8.ensures.value, c.deref-7.ensures.value, c.deref-6.ensures.value, stood, named) at c.in_ok-drawn.ensures in
    let part = rw c.deref-9.ensures at c.in_err-write.ensures.part in
    rw (fault.1, fault.2) (cut_short _ _ _ _ _ _ _ _ _ _
    (pictured {nodes = c.args.script.now.code.nodes} refl c.in_ok-replayed.ensures.replayed c.in_ok-replayed.ensures.passed c.in_ok-places.ensures
    c.in_ok-told.ensures.told drawn) part)

pub returns : goal.returns
returns g c expected =
    let words = rw c.deref.ensures.value at c.in_ok-words.ensures in
    let stood = rw (c.deref-2.ensures.value, c.deref-3.ensures.value) at c.in_ok-stood.ensures in
    let named = rw (c.deref-4.ensures.value, c.deref-5.ensures.value) at c.in_ok-handles.ensures in
    let drawn = rw (words, c.deref-8.ensures.value, c.deref-7.ensures.value, c.deref-6.ensures.value, stood, named) at c.in_ok-drawn.ensures in
    record {
      text = _;
      answer = pictured {nodes = c.args.script.now.code.nodes} refl c.in_ok-replayed.ensures.replayed c.in_ok-replayed.ensures.passed
          c.in_ok-places.ensures c.in_ok-told.ensures.told drawn;
      taken = rw c.deref-9.ensures at c.in_ok-write.ensures.whole;
    }
