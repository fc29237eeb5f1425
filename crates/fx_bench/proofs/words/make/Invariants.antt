use Rattle.fx_word.specs.Words.{IsOf}
use Rattle.fx_bench.proofs.words.make.Given as goal

abbrev pub invariant-requesting : goal.invariant-requesting
invariant-requesting l = IsOf l.seat l.words

abbrev pub invariant-looking : goal.invariant-looking
invariant-looking l = IsOf l.seat l.words

abbrev pub invariant-peeking : goal.invariant-peeking
invariant-peeking l = IsOf l.seat l.words
