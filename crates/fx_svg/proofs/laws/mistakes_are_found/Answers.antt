use Rattle.std.proofs.Common.{refl}
use Rattle.fx_svg.specs.WellFormed.{is_well_formed}
use Rattle.fx_svg.proofs.laws.mistakes_are_found.Goals as goal

pub returns : goal.returns
unfolding is_well_formed
returns c = record {
  right = refl;
  stray_start = refl;
  stray_reference = refl;
  unknown_reference = refl;
  no_end_tag = refl;
  cut_off = refl;
  end_tags_change_places = refl;
  no_start_tag = refl;
  no_quotes = refl;
  start_in_value = refl;
  quote_in_value = refl;
  attribute_twice = refl;
  two_documents = refl;
  words_outside = refl;
  nothing = refl;
}
