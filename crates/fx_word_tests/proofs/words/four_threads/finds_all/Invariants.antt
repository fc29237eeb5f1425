use Rattle.fx_word.specs.Words.{IsOf}
use Rattle.fx_word_tests.specs.Fibers.{IsSameFiber}
use Rattle.fx_word_tests.proofs.words.four_threads.finds_all.Given as goal

abbrev pub invariant-finding : goal.invariant-finding
invariant-finding l = record { of : IsOf l.seat l.words; same : IsSameFiber l.fn.seat l.seat }
