use Rattle.std.proofs.Common.{◌-◌, length}
use Rattle.fx_text.specs.Limits.{most_picks}
use Rattle.fx_text.proofs.PicksLaws.{Goes}
use Rattle.fx_text.proofs.schedules.picks.Given as goal

abbrev pub invariant-loop-rest : goal.invariant-loop-rest
invariant-loop-rest l = Goes l.text l.picks.items l.rest

abbrev pub decreases-loop-rest : goal.decreases-loop-rest
decreases-loop-rest l = most_picks - length l.picks.items
