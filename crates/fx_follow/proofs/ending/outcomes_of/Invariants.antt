use Rattle.std.proofs.Common.{◌≡◌, ℕ, ◌<◌, None, length}
use Rattle.std.specs.Prelude.{slice_index_or}
use Rattle.fx_model.specs.Report.{outcome_shown, trace_in}
use Rattle.fx_follow.proofs.ending.outcomes_of.Given as goal

-- so far each one is that of the fiber of its number
abbrev pub invariant-loop-fiber : goal.invariant-loop-fiber
invariant-loop-fiber l =
    (length l.outcomes.items ≡ l.fiber)
    × ((g : ℕ) → g < length l.outcomes.items → slice_index_or l.outcomes.items g None ≡ outcome_shown (trace_in l.fn.report g))
