use Rattle.std.proofs.Common.{false, sym, ◌∙◌}
use Rattle.fx_fiber.proofs.Advances.{inside_leaf}
use Rattle.fx_fiber.proofs.QueueSteps.{queue_is_leaf, queue_is_other}
use Rattle.fx_fiber.proofs.Flows.{unknown_first}
use Rattle.fx_fiber.proofs.fiber.flow.sees_first.Goals as goal

pub sees_request-requires-clause-next : goal.sees_request-requires-clause-next
sees_request-requires-clause-next g c =
    let at = c.requires.stands in
    let opened = sym c.is_open.ensures ∙ c.if-not-is_open.false in
    record {
      inside = inside_leaf g.P.Port.theory.code c.args.body.now.machine at.id at.node false
          (record { sound = c.requires.kept.sound; focus = at.stands; node = at.is_there }) (queue_is_leaf at.node at.queue)
          (queue_is_other at.node at.queue);
      opened = opened;
      unknown = unknown_first _ _ at.free opened;
    }
