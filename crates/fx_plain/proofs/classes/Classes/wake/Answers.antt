use Rattle.fx_plain.proofs.ClassSets.{same_view}
use Rattle.fx_plain.proofs.Waking.{all_woken, woken_one}
use Rattle.fx_plain.proofs.classes.Classes.wake.Goals as goal

pub loop-waiter-preserved : goal.loop-waiter-preserved
loop-waiter-preserved c =
    let at = c.loop-waiter in
    let next = c.in-Some.ensures.next in
    rw c.become_able.ensures
    (woken_one c.args.fiber c.args.self.now.of at.from at.self.of at.invariant.0 c.in-Some.waiter next.0 next.1 next.2, at.invariant.1)

pub returns : goal.returns
returns c =
    let at = c.loop-waiter in
    same_view (all_woken c.args.fiber c.args.self.now.of at.from at.self.of at.invariant.0 c.in_default.ensures.next) at.invariant.1
