use Rattle.fx_word.proofs.Known.{own_request, own_look}
use Rattle.fx_word.proofs.laws.own_request_is_known.Goals as goal

pub returns-clause-made : goal.returns-clause-made
returns-clause-made c = own_request

pub returns-clause-seen : goal.returns-clause-seen
returns-clause-seen c = own_look
