use Rattle.std.proofs.Common.{rules}
use Rattle.std.proofs.lemmas.Fn.{always_returns_same}
use Rattle.fx_order.proofs.InOrder.{key_of, in_order-from_sort}
use Rattle.fx_order.proofs.CausesFirst.{causal_order}
use Rattle.fx_order.proofs.order.order_by_stamp.Goals as goal

pub returns-clause-sorted : goal.returns-clause-sorted
returns-clause-sorted c = in_order-from_sort _ (c.sort_unstable_by_key.ensures.sorted key_of (always_returns_same _ _ _ (λ a r q k. search rules)))

pub returns-clause-causes : goal.returns-clause-causes
returns-clause-causes c s may report below =
    causal_order s may c.args.report.now report below c.sort_unstable_by_key.new.self.items (search rules)
    (in_order-from_sort _ (c.sort_unstable_by_key.ensures.sorted key_of (always_returns_same _ _ _ (λ a r q k. search rules))))
