use Rattle.std.proofs.Common.{arith, ◌≡◌, Some}
use Rattle.std.specs.Prelude.{slice_get}
use Rattle.std.proofs.lemmas.Grind.{common_steps}
use Rattle.std.proofs.lemmas.Option.{gets}
use Rattle.fx_counts.proofs.SoFar.{takes_front, takes_no_other}
use Rattle.fx_counts.proofs.queue_so_far.QueueSoFar.take.Goals as goal

pub returns-then-front-value-clause-is : goal.returns-then-front-value-clause-is
returns-then-front-value-clause-is c s f is =
    let l = c.in-Some.ensures.lookup in
    let at : slice_get c.args.self.now.put.items c.args.self.now.taken ≡ Some c.in-Some.front.now = grind (arith, common_steps, gets) in
    takes_no_other c.args.self.now s f c.args.value c.in-Some.front.now is at c.if-front-value.true

pub returns-clause-is : goal.returns-clause-is
returns-clause-is c s f is =
    let l = c.in-Some.ensures.lookup in
    let at : slice_get c.args.self.now.put.items c.args.self.now.taken ≡ Some c.in-Some.front.now = grind (arith, common_steps, gets) in
    takes_front c.args.self.now s f c.args.value _ c.in-Some.front.now is at c.if-front-value.false (omega arith)
