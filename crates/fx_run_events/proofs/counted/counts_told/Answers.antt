use Rattle.fx_run_events.specs.Found.{not_counted}
use Rattle.fx_run_events.proofs.Capacities.{counted_so}
use Rattle.fx_run_events.proofs.InOwnOrder.{in_own_order}
use Rattle.fx_run_events.proofs.counted.counts_told.Goals as goal

pub returns-then-not-are_few : goal.returns-then-not-are_few
returns-then-not-are_few c = rw (c.new.ensures.items, c.new-then-not-are_few.ensures.items) not_counted

pub returns : goal.returns
returns c =
    let caps = rw c.deref-2.ensures.value at c.in_ok-capacities.ensures in
    let are = rw (c.deref-4.ensures.value, c.deref-5.ensures.value) at c.in_ok-counts.ensures in
    counted_so _ _ _ _ _ caps
    (in_own_order _ _ _ c.in_ok-by_stamp.ensures.each_once c.in_ok-by_stamp.ensures.causes c.in_ok-list.ensures.same_events
    c.in_ok-list.ensures.keeps_order) are
