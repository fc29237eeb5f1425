use Rattle.std.proofs.Common.{refl}
use Rattle.fx_counts.proofs.ReportTakes.{takes_what_was_put}
use Rattle.fx_counts.proofs.laws.taken_puts_are_those_of_the_report.Goals as goal

pub returns : goal.returns
returns c s may r list q lawful keeps h is k j x y at_get at_put taken =
    takes_what_was_put s may r lawful list keeps q _ h is k j x y at_get at_put taken _ (refl, refl)
