use Rattle.std.proofs.Common.{refl}
use Rattle.std.proofs.lemmas.Result.{err_from_is_err_and}
use Rattle.fx_command.proofs.Performed.{replayed_with_status, cut_short}
use Rattle.fx_command.specs.Performed.{replayed}
use Rattle.fx_command.proofs.perform.report.Goals as goal

pub returns-in_err-write : goal.returns-in_err-write
returns-in_err-write g c expected =
    let fault = err_from_is_err_and c.from_residual-in_err-write.result c.from_residual-in_err-write.ensures.1 in
    let part = rw (c.deref-3.ensures, c.in_ok-text.ensures) at c.in_err-write.ensures.part in
    rw (fault.1, fault.2) (cut_short _ _ _ _ _ _ _ _ _ _
    (replayed {nodes = c.args.script.now.code.nodes} refl c.in_ok-replayed.ensures.replayed c.in_ok-replayed.ensures.passed c.in_ok-places.ensures) part)

pub returns : goal.returns
returns g c expected = record {
  text = _;
  answer = replayed_with_status _ _ _ _ _ _ _ c.args.script.now.code.nodes c.in_ok-places.places.items _ _ refl c.in_ok-replayed.ensures.replayed
      c.in_ok-replayed.ensures.passed c.in_ok-places.ensures (rw c.deref-2.ensures.value at c.in_ok-words.ensures) c.status_after.ensures;
  taken = rw (c.deref-3.ensures, c.in_ok-text.ensures) at c.in_ok-write.ensures.whole;
}
