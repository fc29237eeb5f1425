use Rattle.std.proofs.lemmas.Result.{err_from_is_err_and}
use Rattle.fx_command.specs.Performed.{checked}
use Rattle.fx_command.proofs.Performed.{cut_short}
use Rattle.fx_command.proofs.perform.check.Goals as goal

pub returns-in_err-write : goal.returns-in_err-write
returns-in_err-write g c source expected =
    let fault = err_from_is_err_and c.from_residual-in_err-write.result c.from_residual-in_err-write.ensures.1 in
    let part = rw (c.deref.ensures, c.in_ok-line.ensures) at c.in_err-write.ensures.part in
    rw (fault.1, fault.2) (cut_short _ _ _ _ _ _ _ _ _ _ checked part)

pub returns : goal.returns
returns g c source expected = record {
  text = _;
  answer = rw c.new.ensures.bytes checked;
  taken = rw (c.deref.ensures, c.in_ok-line.ensures) at c.in_ok-write.ensures.whole;
}
