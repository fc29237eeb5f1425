use Rattle.std.proofs.Common.{sym, subst}
use Rattle.fx_queue.specs.Queues.{HeldPass}
use Rattle.fx_queue.specs.PassView.{IsWhole}
use Rattle.fx_port.proofs.close.close_one.Goals as goal

pub close-requires-clause-whole : goal.close-requires-clause-whole
close-requires-clause-whole g c = subst (λ (s : HeldPass). IsWhole s.view) (sym c.into_pass.ensures) c.requires.whole
