use Rattle.fx_command.proofs.HeldPuts.{next_put}
use Rattle.fx_command.proofs.GetsInOrder.{takes_in_order}
use Rattle.fx_command.proofs.laws.told_gets_take_puts_in_order.Goals as goal

pub returns : goal.returns
returns c = record {
  order = λ nodes s ps told fibers queues q. takes_in_order nodes s q ps told fibers queues;
  before = next_put;
}
