use Rattle.fx_laws.proofs.CaseReleases.{value_of_release_is_dropped}
use Rattle.fx_laws.proofs.cases.value_of_a_release_after_success_is_dropped.Goals as goal

pub returns : goal.returns
returns c = value_of_release_is_dropped
