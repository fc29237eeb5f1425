use Rattle.std.proofs.Common.{drop}
use Rattle.fx_text.specs.View.{meaning}
use Rattle.fx_report.specs.Script.{script_of}
use Rattle.fx_plain.specs.ToldWay.{IsToldWay}
use Rattle.fx_plain.proofs.told_run.told_named.Given as goal

abbrev pub invariant-loop-before : goal.invariant-loop-before
invariant-loop-before g l =
    IsToldWay g.J.CodeBrand.nodes (script_of (meaning l.script)) l.picks l.before (drop l.before l.picks) l.told.items l.machine
