use Rattle.std.proofs.lemmas.Result.{err_from_is_err_and}
use Rattle.fx_command.specs.Performed.{explored}
use Rattle.fx_command.proofs.Performed.{explored_with_status, cut_short}
use Rattle.fx_command.proofs.perform.find.Goals as goal

pub returns-in_err-write-clause-performs : goal.returns-in_err-write-clause-performs
returns-in_err-write-clause-performs g c source picks expected =
    let fault = err_from_is_err_and c.from_residual-in_err-write.result c.from_residual-in_err-write.ensures.1 in
    let part = rw (c.deref.ensures, c.in_ok-text.ensures) at c.in_err-write.ensures.part in
    rw (fault.1, fault.2) (cut_short _ _ _ _ _ _ _ _ _ _ (explored c.in_ok-explored.ensures.explored) part)

pub returns-clause-performs : goal.returns-clause-performs
returns-clause-performs g c source picks expected = record {
  text = _;
  answer = explored_with_status _ _ _ _ _ _ _ _ c.in_ok-explored.ensures.explored c.new.ensures.bytes c.explored_status.ensures;
  taken = rw (c.deref.ensures, c.in_ok-text.ensures) at c.in_ok-write.ensures.whole;
}

pub returns-clause-tells : goal.returns-clause-tells
returns-clause-tells g c = record {
  found = c.in_ok-explored.explored;
  is = c.in_ok-explored.ensures.explored;
  printed = rw (c.deref.ensures, c.in_ok-text.ensures) at c.in_ok-write.ensures.whole;
  heard = c.in_ok-explored.ensures.tells;
}
