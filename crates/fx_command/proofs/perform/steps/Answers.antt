use Rattle.std.proofs.Common.{refl}
use Rattle.std.proofs.lemmas.Result.{err_from_is_err_and}
use Rattle.fx_command.specs.Performed.{stepped}
use Rattle.fx_command.proofs.Performed.{stepped_with_status, cut_short}
use Rattle.fx_command.proofs.perform.steps.Goals as goal

pub returns-in_err-write : goal.returns-in_err-write
returns-in_err-write g c expected =
    let fault = err_from_is_err_and c.from_residual-in_err-write.result c.from_residual-in_err-write.ensures.1 in
    let part = rw (c.deref-4.ensures, c.in_ok-text.ensures, c.deref-2.ensures.value, c.deref-3.ensures.value) at c.in_err-write.ensures.part in
    rw (fault.1, fault.2) (cut_short _ _ _ _ _ _ _ _ _ _
    (stepped {nodes = c.args.script.now.code.nodes} refl c.in_ok-replayed.ensures.replayed c.in_ok-replayed.ensures.passed c.in_ok-places.ensures
    c.in_ok-told.ensures.told) part)

pub returns : goal.returns
returns g c expected = record {
  text = _;
  answer = stepped_with_status _ _ _ _ _ _ _ c.args.script.now.code.nodes c.in_ok-places.places.items _ _ refl c.in_ok-replayed.ensures.replayed
      c.in_ok-replayed.ensures.passed c.in_ok-places.ensures
      (rw c.deref.ensures.value at c.in_ok-words.ensures) c.status_after.ensures c.in_ok-told.told.items c.in_ok-told.ensures.told;
  taken = rw (c.deref-4.ensures, c.in_ok-text.ensures, c.deref-2.ensures.value, c.deref-3.ensures.value) at c.in_ok-write.ensures.whole;
}
