use Rattle.std.proofs.Common.{arith, sym}
use Rattle.std.proofs.lemmas.Bool.{le-leb}
use Rattle.fx_picture.specs.declared.tail.TheConstants.{LEAST_RUN}
use Rattle.fx_picture.specs.Folds.{run_below}
use Rattle.fx_picture.proofs.Sheets.{run_grows}
use Rattle.fx_picture.proofs.tail.is_long.Goals as goal

pub returns : goal.returns
returns c =
    let grown = run_grows c.args.stood.now c.args.fiber c.loop-run.run c.loop-run.rest.now in
    let same = c.loop-run.invariant in
    let most = c.loop-run-test.false in
    sym (le-leb LEAST_RUN (run_below c.args.stood.now c.args.fiber c.args.above c.args.below.now) (omega (arith, same)))
