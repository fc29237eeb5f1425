use Rattle.std.proofs.Common.{◌≡◌, length, arith}
use Rattle.std.proofs.lemmas.List.{length-map}
use Rattle.fx_text.specs.QueuesView.{view_queue, view_queues}
use Rattle.fx_text.proofs.ScriptLaws.{script_code}
use Rattle.fx_text.proofs.script.read_script.Goals as goal

pub checked-requires : goal.checked-requires
checked-requires c =
    let queues = c.in_ok-queues.queues in
    let counted : c.len.result ≡ length (view_queues queues.items) = omega (arith, c.len.ensures, queues.ok.0, length-map queues.items view_queue) in
    let read = rw c.deref.ensures.value at c.in_ok-nodes.ensures.read in
    script_code c.args.text.now c.in_ok-queues.rest.now (view_queues queues.items) c.len.result c.in_ok-nodes.nodes.items c.requires
    c.in_ok-queues.ensures.read read c.in_ok-nodes.ensures.tree c.in_ok-nodes.ensures.short counted
