use Rattle.fx_queue.proofs.Counts.{put_count, got_count}
use Rattle.fx_queue.proofs.laws.puts_are_counted.Goals as goal

pub returns-clause-put : goal.returns-clause-put
returns-clause-put c = put_count

pub returns-clause-got : goal.returns-clause-got
returns-clause-got c = got_count
