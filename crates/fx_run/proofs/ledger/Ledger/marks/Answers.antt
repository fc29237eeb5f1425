use Rattle.std.proofs.Common.{◌∙◌, sym, arith}
use Rattle.fx_run.proofs.LedgerLaws.{with_no_mark}
use Rattle.fx_run.proofs.ledger.Ledger.marks.Goals as goal

pub returns : goal.returns
returns g c =
    let end = c.loop-id-test.false in
    let none = with_no_mark c.loop-id.id c.loop-id.id c.args.marks.now c.loop-id.self
    (λ f m. let before = c.end-id-end.ensures.past f m in omega (arith, before, end)) in
    sym none ∙ c.loop-id.invariant
