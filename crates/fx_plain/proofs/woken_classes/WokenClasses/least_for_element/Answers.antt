use Rattle.fx_plain.specs.ClassSets.{waits_for_element_there}
use Rattle.fx_plain.specs.PlainQueue.{has_element_in}
use Rattle.fx_plain.proofs.WokenClasses.{nobody_able, least_or_woken}
use Rattle.fx_plain.proofs.woken_classes.WokenClasses.least_for_element.Goals as goal

pub returns : goal.returns
returns c =
    rw (← c.self.view_is)
    (least_or_woken (waits_for_element_there c.args.queue c.args.own.now) (nobody_able (has_element_in c.args.own.now)) c.self.inside.kept.of
    c.self.inside.woken c.least_for_element.result c.self.invariant c.least_for_element.ensures)
