use Rattle.std.proofs.Common.{◌≡◌, length}
use Rattle.fx_text.specs.Token.{after_spaces}
use Rattle.fx_places.proofs.word.after_spaces.Given as goal

abbrev pub invariant-loop-rest : goal.invariant-loop-rest
invariant-loop-rest l = after_spaces l.rest ≡ after_spaces l.bytes

abbrev pub decreases-loop-rest : goal.decreases-loop-rest
decreases-loop-rest l = length l.rest
