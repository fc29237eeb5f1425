use Rattle.fx_counts.proofs.Replays.{IsReplayedTo}
use Rattle.fx_counts.proofs.counting.replay.Given as goal

abbrev pub invariant-loop-place : goal.invariant-loop-place
invariant-loop-place l = IsReplayedTo l.capacity l.queue l.list l.place l.now l.told.items
