use Rattle.std.proofs.Common.{◌≡◌, take, All}
use Rattle.fx_report.specs.Waits.{waits_in}
use Rattle.fx_run.specs.RunWaits.{all_waits, StandsAmong}
use Rattle.fx_run.proofs.waits.all_blocked.Given as goal

abbrev pub invariant-loop-k : goal.invariant-loop-k
invariant-loop-k l = (waits_in l.all.items ≡ all_waits (take l.k l.bares)) × All (StandsAmong l.bares) l.all.items
