use Rattle.std.proofs.Common.{sym, ap}
use Rattle.std.specs.Prelude.{option_and_then}
use Rattle.fx_term.specs.declared.node.Node.TheVariants as node
use Rattle.fx_model.specs.Waiting.{wait_at}
use Rattle.fx_fiber.specs.Places.{IsEvaluating}
use Rattle.fx_fiber.proofs.Leaves.{leaf_here}
use Rattle.fx_fiber.proofs.machine.Machine.waits_at_queue.Goals as goal

pub returns-in-Offer : goal.returns-in-Offer
returns-in-Offer g c =
    let at : IsEvaluating g.nodes c.args.self.now c.in-Eval.id (node.Offer c.in-Offer.queue c.in-Offer._value) =
    record { sound = c.requires.1.0; focus = c.in-Eval.is; node = rw (← c.requires.0, ← c.in-Offer.is) c.node.ensures.node } in
    sym (ap (option_and_then wait_at) (leaf_here g.nodes c.args.self.now c.in-Eval.id _ at tt))

pub returns-in-Take : goal.returns-in-Take
returns-in-Take g c =
    let at : IsEvaluating g.nodes c.args.self.now c.in-Eval.id (node.Take c.in-Take.queue) =
    record { sound = c.requires.1.0; focus = c.in-Eval.is; node = rw (← c.requires.0, ← c.in-Take.is) c.node.ensures.node } in
    sym (ap (option_and_then wait_at) (leaf_here g.nodes c.args.self.now c.in-Eval.id _ at tt))
