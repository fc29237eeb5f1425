use Rattle.fx_word.proofs.Known.{own_end, peeked_end}
use Rattle.fx_word.proofs.laws.end_is_known.Goals as goal

pub returns-clause-own : goal.returns-clause-own
returns-clause-own c = own_end

pub returns-clause-peeked : goal.returns-clause-peeked
returns-clause-peeked c = peeked_end
