-- Reports of a main fiber that is alone and blocked.
use Rattle.std.specs.Prelude.{ℕ, false, None, List, [], ◌∷◌}
use Rattle.fx_term.specs.declared.event.Event.{Event}
use Rattle.fx_model.specs.Report.{ReportView}

-- it showed this, with these stamps; there is no queue, and nobody was requested from outside
abbrev pub blocked_alone : List Event → List ℕ → ReportView
blocked_alone es ts = record { fibers = record { id = 0; parent = None; has_ended = false; trace = es; stamps = ts } ∷ []; left = []; outside = []; late = 0 }
