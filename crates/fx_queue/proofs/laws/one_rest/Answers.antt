use Rattle.fx_term.proofs.LeavesLaws.{leaves_one}
use Rattle.fx_queue.proofs.laws.one_rest.Goals as goal

pub returns : goal.returns
returns c cap h xs ys l m = leaves_one cap h xs ys l m
