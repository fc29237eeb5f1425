use Rattle.fx_places.proofs.Words.{word_is_text}
use Rattle.fx_places.proofs.handle.second_word.Goals as goal

pub text_of-requires : goal.text_of-requires
text_of-requires c = rw c.first_word-2.ensures.word (word_is_text c.after_spaces-2.result.now)
