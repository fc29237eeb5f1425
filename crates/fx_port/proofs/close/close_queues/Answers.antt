use Rattle.fx_port.proofs.close.close_queues.Goals as goal

pub close_row-requires-clause-whole : goal.close_row-requires-clause-whole
close_row-requires-clause-whole g c = rw c.into_row.ensures c.requires.whole
