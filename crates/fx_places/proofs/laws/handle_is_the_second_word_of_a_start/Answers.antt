use Rattle.fx_places.proofs.HandleLaws.{handle_is_second}
use Rattle.fx_places.proofs.laws.handle_is_the_second_word_of_a_start.Goals as goal

pub returns : goal.returns
returns c = handle_is_second
