use Rattle.std.proofs.Common.{rules, arith}
use Rattle.fx_text.proofs.PicksLaws.{too_many, fails, goes_on, ends}
use Rattle.fx_text.proofs.schedules.picks.Goals as goal

pub returns-then-len-eq-MOST_PICKS : goal.returns-then-len-eq-MOST_PICKS
returns-then-len-eq-MOST_PICKS c = rw c.fault.ensures (too_many c.loop-rest.invariant (grind arith) (grind arith))

pub returns-in_err-pick : goal.returns-in_err-pick
returns-in_err-pick c = let h = fails c.loop-rest.invariant (grind arith) (grind arith) c.in_err-pick.field-0.0 c.in_err-pick.ensures in search (rules, h)

pub loop-rest-preserved : goal.loop-rest-preserved
loop-rest-preserved c =
    let h = goes_on c.loop-rest.invariant (grind arith) (grind arith) c.in_ok-pick.pick c.in_ok-pick.after.now c.in_ok-pick.ensures in
    rw (c.in_ok-push.ensures.items, c.after_spaces-rest-in-loop-rest.ensures.rest) h

pub returns : goal.returns
returns c = ends c.loop-rest.invariant (grind arith)
