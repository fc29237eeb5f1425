use Rattle.fx_plain.proofs.LeastReady.{least_waits_for_element}
use Rattle.fx_plain.proofs.classes.Classes.least_for_element.Goals as goal

pub returns : goal.returns
returns c =
    rw (← c.self.view_is)
    (least_waits_for_element c.self.inside.of.items c.self.inside.sets c.self.invariant.1 c.args.queue c.args.own.now
    (rw (← c.self.view_is) at c.requires) c.least_for_element.result c.least_for_element.ensures)
