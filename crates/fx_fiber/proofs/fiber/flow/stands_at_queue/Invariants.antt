use Rattle.fx_fiber.proofs.fiber.flow.stands_at_queue.Given as goal

abbrev pub ghost-is_at_queue : goal.ghost-is_at_queue
ghost-is_at_queue g a = g.nodes
