use Rattle.std.proofs.Common.{append_assoc}
use Rattle.fx_report.proofs.refusal.format_refusal.Goals as goal

pub returns : goal.returns
returns c =
    let made = rw c.number-kind.ensures at c.format.ensures.ok in
    simp append_assoc made
