use Rattle.fx_report.proofs.QueueNames.{names_of_meaning}
use Rattle.fx_findings.proofs.compared.first_unexpected.Goals as goal

pub returns : goal.returns
returns c =
    let first = rw (c.deref.ensures.value, c.deref-2.ensures.value, c.in_ok-reports.ensures, c.deref-3.ensures.value) at c.first_other.ensures in
    rw (names_of_meaning c.args.script.now) first
