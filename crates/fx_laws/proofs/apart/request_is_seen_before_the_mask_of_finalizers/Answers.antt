use Rattle.fx_laws.proofs.SeenBefore.{order_is_told}
use Rattle.fx_laws.proofs.apart.request_is_seen_before_the_mask_of_finalizers.Goals as goal

pub returns : goal.returns
returns c = order_is_told
