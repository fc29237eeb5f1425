use Rattle.std.proofs.Common.{refl, inl, arith}
use Rattle.fx_plain.proofs.started.burst_from_result.Goals as goal

pub returns-then-not-stands_with_result : goal.returns-then-not-stands_with_result
returns-then-not-stands_with_result g c = record {
  ok = record {
    few = omega arith;
    steps = inl (record { port = refl; trace = refl; stamps = refl; counts = refl; progress_is = refl }, refl);
  };
}
