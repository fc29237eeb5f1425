use Rattle.fx_laws.proofs.CaseLaws.{bracket_of_one_release}
use Rattle.fx_laws.proofs.cases.bracket_is_a_bracket_case_of_one_release.Goals as goal

pub returns : goal.returns
returns c = bracket_of_one_release
