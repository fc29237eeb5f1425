use Rattle.std.proofs.Common.{◌+◌, ◌≤◌, ◌∙◌, length, arith, length-drop}
use Rattle.fx_report.proofs.Written.{appends_more, take-pieces}
use Rattle.fx_command.proofs.stream.Stream.write.Goals as goal

pub loop-at-preserved : goal.loop-at-preserved
loop-at-preserved g c =
    let n = c.in_ok-at.field-0 in
    let bytes = c.as_bytes-bytes.result.now in
    let within : c.loop-at.at + n ≤ length bytes = omega (arith, c.in_ok-at.ensures.within, length-drop c.loop-at.at bytes) in
    record {
      within = within;
      taken = appends_more _ _ _ _ _ _ c.loop-at.invariant.taken c.in_ok-at.ensures.taken (take-pieces c.loop-at.at n bytes);
      none_refused = c.in_ok-at.ensures.none_refused ∙ c.loop-at.invariant.none_refused;
    }
