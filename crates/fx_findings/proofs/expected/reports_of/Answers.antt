use Rattle.fx_findings.proofs.LentLines.{reports_of_lent}
use Rattle.fx_findings.proofs.expected.reports_of.Goals as goal

pub returns : goal.returns
returns c =
    let groups = rw c.deref.ensures.value at c.in_ok-groups.ensures in
    let e = reports_of_lent c.args.text.now c.in_ok-lines.lines.items c.in_ok-groups.groups.items c.in_ok-lines.ensures groups in
    rw (c.deref-2.ensures.value, e) at c.reports_in.ensures
