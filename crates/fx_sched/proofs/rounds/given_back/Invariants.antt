use Rattle.std.proofs.Common.{◌≡◌, ◌++◌, map, All}
use Rattle.fx_sched.specs.declared.worker.WorkerEnd.TheVariants.{Done}
use Rattle.fx_sched.proofs.rounds.given_back.Given as goal

abbrev pub invariant-loop-end : goal.invariant-loop-end
invariant-loop-end g l = record {
  shared : l.shared.items ++ map (λ end. end.1) l.end-iterator.rest.items ≡ map (λ end. end.1) l.fn.ends.items;
  done : All (λ end. end.0 ≡ Done) l.end-iterator.rest.items → All (λ end. end.0 ≡ Done) l.fn.ends.items;
}
