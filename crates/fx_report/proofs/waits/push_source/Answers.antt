use Rattle.std.proofs.Common.{append_assoc}
use Rattle.std.specs.Prelude.{string_bytes, codes}
use Rattle.fx_report.specs.Text.{names_of, queue_name}
use Rattle.fx_report.proofs.waits.push_source.Goals as goal

pub returns-in-Room : goal.returns-in-Room
returns-in-Room c =
    let queue = queue_name (names_of c.args.queues.now) c.in-Room.queue in
    rw c.in-Room.is (rw (append_assoc (string_bytes c.args.text.now) (codes "room in queue") queue) at c.push_named.ensures)

pub returns-in-Element : goal.returns-in-Element
returns-in-Element c =
    let queue = queue_name (names_of c.args.queues.now) c.in-Element.queue in
    rw c.in-Element.is (rw (append_assoc (string_bytes c.args.text.now) (codes "an element of queue") queue) at c.push_named-in-Element.ensures)
