use Rattle.std.proofs.Common.{◌∙◌, ap}
use Rattle.fx_run.specs.Ledger.{with_fibers}
use Rattle.fx_run.proofs.LostLaws.{none_lost_at, least_lost_at}
use Rattle.fx_run.proofs.lost.whole_ledger.Goals as goal

pub returns-in-Some-clause-fault : goal.returns-in-Some-clause-fault
returns-in-Some-clause-fault c =
    least_lost_at c.args.bares.now c.requires.ascending c.args.total c.requires.some c.requires.below _ _ c.lost.ensures
    (c.fibers.ensures ∙ ap (with_fibers c.args.bares.now) c.in_ok-ledger.ensures) c.in-Some.id c.in-Some.is

pub returns-in-None-clause-whole : goal.returns-in-None-clause-whole
returns-in-None-clause-whole c =
    none_lost_at c.args.bares.now c.requires.ascending c.args.total c.requires.some c.requires.below _ _ c.lost.ensures
    (c.fibers.ensures ∙ ap (with_fibers c.args.bares.now) c.in_ok-ledger.ensures) c.in-None.is
