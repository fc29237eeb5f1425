use Rattle.fx_run.proofs.AgreeingStamps.{stamped_first, stamped_starts, stamped_requests, stamped_asks_nobody, stamped_notes, stamped_sees, stamped_finds}
use Rattle.fx_run.proofs.AgreeingStamps.{stamped_puts, stamped_finds_full, stamped_takes, stamped_finds_empty, stamped_finishes}
use Rattle.fx_run.proofs.laws.ports.calls_keep_the_stamps.Goals as goal

pub returns-clause-first : goal.returns-clause-first
returns-clause-first c = stamped_first

pub returns-clause-start : goal.returns-clause-start
returns-clause-start c = stamped_starts

pub returns-clause-request : goal.returns-clause-request
returns-clause-request c = stamped_requests

pub returns-clause-nobody : goal.returns-clause-nobody
returns-clause-nobody c = stamped_asks_nobody

pub returns-clause-outside : goal.returns-clause-outside
returns-clause-outside c = stamped_notes

pub returns-clause-look : goal.returns-clause-look
returns-clause-look c = stamped_sees

pub returns-clause-peek : goal.returns-clause-peek
returns-clause-peek c = stamped_finds

pub returns-clause-put : goal.returns-clause-put
returns-clause-put c = stamped_puts

pub returns-clause-full : goal.returns-clause-full
returns-clause-full c = stamped_finds_full

pub returns-clause-got : goal.returns-clause-got
returns-clause-got c = stamped_takes

pub returns-clause-empty : goal.returns-clause-empty
returns-clause-empty c = stamped_finds_empty

pub returns-clause-finish : goal.returns-clause-finish
returns-clause-finish c = stamped_finishes
