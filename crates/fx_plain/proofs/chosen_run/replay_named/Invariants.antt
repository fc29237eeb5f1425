use Rattle.std.proofs.Common.{drop}
use Rattle.fx_text.specs.View.{meaning}
use Rattle.fx_report.specs.Script.{script_of}
use Rattle.fx_plain.proofs.PickedWay.{IsPickedWay}
use Rattle.fx_plain.proofs.chosen_run.replay_named.Given as goal

abbrev pub invariant-loop-before : goal.invariant-loop-before
invariant-loop-before g l =
    IsPickedWay g.J.CodeBrand.nodes (script_of (meaning l.script)) l.picks l.before (drop l.before l.picks) l.passed l.machine
