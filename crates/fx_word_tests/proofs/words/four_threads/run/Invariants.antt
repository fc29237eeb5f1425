use Rattle.std.proofs.Common.{◌≡◌, None}
use Rattle.fx_word.specs.Words.{IsOf}
use Rattle.fx_word_tests.specs.Fibers.{IsSameFiber}
use Rattle.fx_word_tests.proofs.words.four_threads.run.Given as goal

abbrev pub invariant-turning : goal.invariant-turning
invariant-turning l = record { of : IsOf l.seat l.words; same : IsSameFiber l.fn.seat l.seat; running : l.seat.view.own.ended ≡ None }
