use Rattle.std.proofs.Common.{◌≡◌, vec_len}
use Rattle.fx_sched.proofs.deques.Tasks.new.Given as goal

abbrev pub invariant-loop-place : goal.invariant-loop-place
invariant-loop-place g l = vec_len l.hands ≡ l.place
