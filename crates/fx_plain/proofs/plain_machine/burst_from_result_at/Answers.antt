use Rattle.std.proofs.Common.{Some, refl, sym, ap, ◌∙◌}
use Rattle.fx_plain.proofs.plain_machine.burst_from_result_at.Goals as goal

pub returns : goal.returns
returns g c = record {
  before = _;
  after = _;
  from = c.in-Some.is ∙ ap Some (sym c.in-Some.started-is);
  to = refl;
  n = c.in_ok-burst_from_result.field-0;
  does = c.in_ok-burst_from_result.ensures.ok;
  parent = ap (λ x. x.parent) c.burst_from_result.ensures.same;
}
