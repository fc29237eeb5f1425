-- How a reported fiber is at the end.
use Rattle.std.specs.Prelude.{Bool, true, false}
use Rattle.fx_model.specs.declared.fiber_report.State.{State}
use Rattle.fx_model.specs.declared.fiber_report.State.TheVariants.{Ended, Blocked}

abbrev pub is_ended : State → Bool
is_ended Ended = true
is_ended Blocked = false
