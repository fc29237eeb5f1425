use Rattle.std.proofs.Common.{refl}
use Rattle.fx_fiber.proofs.Results.{on_any_error}
use Rattle.fx_fiber.proofs.Bursts.{no_further}
use Rattle.fx_fiber.proofs.fiber.rules.rules_before_look.Goals as goal

pub returns-in_err-comes_inside-clause-err : goal.returns-in_err-comes_inside-clause-err
returns-in_err-comes_inside-clause-err g c =
    let asked = c.requires.1.1 in
    on_any_error c.from_residual.result (
      0,
      asked.1.0,
      no_further g.P.Port.theory _ _ 0 _ _ _ c.args.body.now.machine
          c.comes_inside.new.self _ _ _ asked.1.1.0 c.comes_inside.ensures.same refl,
    )
