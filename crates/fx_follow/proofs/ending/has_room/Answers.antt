use Rattle.std.proofs.Common.{ℕ, ap}
use Rattle.std.specs.Prelude.{nat_lt, length}
use Rattle.fx_model.specs.Report.{left_in}
use Rattle.fx_follow.proofs.Capacities.{capacity_at}
use Rattle.fx_follow.proofs.ending.has_room.Goals as goal

pub returns-in-Some : goal.returns-in-Some
returns-in-Some c =
    let got = rw c.deref.ensures.value at c.in-Some.ensures.lookup.3 in
    let capacity = capacity_at c.args.script.now.queues.items c.args.queue c.in-Some.declared.now c.in-Some.declared.now got.0 (got.1 c.in-Some.declared.now) in
    rw (c.left_in.ensures) (ap (λ (cap : ℕ). nat_lt (length (left_in c.args.report.now c.args.queue)) cap) capacity)
