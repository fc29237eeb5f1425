use Rattle.std.proofs.Common.{◌+◌, ◌≤◌, length, arith, length-drop}
use Rattle.fx_report.proofs.Written.{appends_more, take-pieces}
use Rattle.fx_report.proofs.output.write_text.Goals as goal

pub loop-at-preserved : goal.loop-at-preserved
loop-at-preserved g c =
    let within : c.loop-at.at + c.in-Ok.n ≤ length c.args.text.now = omega (arith, c.in-Ok.ensures.bound, length-drop c.loop-at.at c.args.text.now) in
    (within, appends_more _ _ _ _ _ _ c.loop-at.invariant.1 c.in-Ok.ensures.bytes (take-pieces c.loop-at.at c.in-Ok.n c.args.text.now))
