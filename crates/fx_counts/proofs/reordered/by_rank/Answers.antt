use Rattle.std.proofs.Common.{subst, sym}
use Rattle.std.specs.List.Sorted.{IsPermutation}
use Rattle.fx_counts.proofs.ByRank.{moved}
use Rattle.fx_counts.proofs.reordered.by_rank.Goals as goal

pub returns : goal.returns
returns c =
    moved c.args.list.now c.loop-x.other.items c.in_ok-all.all.items c.deref-x-items.result.now c.loop-x.x-index c.in_ok-all.ensures
    (subst (IsPermutation c.in_ok-all.all.items) (sym c.deref-x-items.ensures.value) c.in_ok-sort_by_key.ensures.permutation)
    c.loop-x.invariant c.loop-x-test.false
