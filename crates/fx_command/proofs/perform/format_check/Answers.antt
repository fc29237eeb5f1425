use Rattle.std.proofs.lemmas.List.{length-map}
use Rattle.fx_command.proofs.perform.format_check.Goals as goal

pub returns : goal.returns
returns c =
    let made = rw (c.total.ensures.is, c.len.ensures, c.args.script.now.queues.ok.0) at c.format_counts.ensures in
    rw (length-map _ _) made
