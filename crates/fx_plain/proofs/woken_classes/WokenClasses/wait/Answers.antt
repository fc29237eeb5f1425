use Rattle.fx_plain.proofs.WokenClasses.{waits_again}
use Rattle.fx_plain.proofs.woken_classes.WokenClasses.wait.Goals as goal

pub returns-then-is_kept_as : goal.returns-then-is_kept_as
returns-then-is_kept_as c =
    let kept = c.self.inside.kept in
    let told = c.if-is_kept_as.ensures in
    rw (← c.self.view_is) (waits_again kept.of kept.queues c.self.inside.woken c.args.fiber c.args.source told.woken told.kept)
