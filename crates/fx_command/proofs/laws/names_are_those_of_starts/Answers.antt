use Rattle.fx_command.proofs.NamedLaws.{is_named_by, is_named}
use Rattle.fx_command.proofs.laws.names_are_those_of_starts.Goals as goal

pub returns : goal.returns
returns c = record {
  found = λ source places told g name is. is_named_by source places g told name is;
  each = λ source places before after made place g. is_named source places g before after made place;
}
