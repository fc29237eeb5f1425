use Rattle.std.proofs.Common.{arith, ◌≡◌, ◌<◌, length}
use Rattle.fx_counts.proofs.SoFar.{puts_back}
use Rattle.fx_counts.proofs.queue_so_far.QueueSoFar.after.Goals as goal

pub returns-in_ok-add-in-Put-clause-is : goal.returns-in_ok-add-in-Put-clause-is
returns-in_ok-add-in-Put-clause-is c s is =
    let held = c.held.ensures s is in
    let room : length s.items < c.args.capacity = omega arith in
    let same : c.in-Put.it_queue ≡ c.args.queue = omega arith in
    puts_back c.args.capacity c.args.queue c.args.it.now s c.add.new.self c.in-Put.it_queue c.in-Put.value c.in-Put.is same room
    (c.in_ok-add-in-Put.ensures.is s is)
