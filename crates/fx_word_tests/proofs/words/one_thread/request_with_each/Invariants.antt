use Rattle.fx_word.specs.Words.{IsOf}
use Rattle.fx_word_tests.proofs.words.one_thread.request_with_each.Given as goal

abbrev pub invariant-requesting : goal.invariant-requesting
invariant-requesting l = IsOf l.seat l.fn.words
