-- Traces with their stamps and those of the causes, as they are counted by hand.
use Rattle.std.specs.Prelude.{ℕ, [], ◌∷◌}
use Rattle.fx_term.specs.declared.outcome.Outcome.TheVariants as outcome
use Rattle.fx_term.specs.declared.event.Event.{Event}
use Rattle.fx_term.specs.declared.event.Event.TheVariants as event
use Rattle.fx_term.specs.declared.stamped.Stamped.{Stamped}
use Rattle.fx_model.specs.KeptStamps.{AreKept}

abbrev pub at : ℕ → Event → Stamped
at t e = record { event = e; stamp = t }

-- a fiber that starts a child and cancels it, and that child
abbrev pub AreRowsOfACancel : Type 0
AreRowsOfACancel =
    AreKept 0 (at 1 (event.Start 1) ∷ at 2 (event.Request 1) ∷ at 6 (event.Awaited 1) ∷ at 7 (event.Ended (outcome.Succeeded 6)) ∷ []) (0 ∷ 0 ∷ 5 ∷ 0 ∷ [])
    × AreKept 1 (at 3 event.Seen ∷ at 4 event.Cancelled ∷ at 5 (event.Ended outcome.Canceled) ∷ []) (2 ∷ 0 ∷ 0 ∷ [])

-- a fiber that goes on with the first of two children and cancels the other one, and these two
abbrev pub AreRowsOfARace : Type 0
AreRowsOfARace =
    AreKept 0 (at 1 (event.Start 1) ∷ at 2 (event.Start 2) ∷ at 4 (event.First 1)
    ∷ at 5 (event.Joined 2 (outcome.Succeeded 8)) ∷ at 6 (event.Request 1) ∷ at 10 (event.Awaited 1)
    ∷ at 11 (event.Ended (outcome.Succeeded 8)) ∷ []) (0 ∷ 0 ∷ 3 ∷ 3 ∷ 0 ∷ 9 ∷ 0 ∷ [])
    × AreKept 1 (at 7 event.Seen ∷ at 8 event.Cancelled ∷ at 9 (event.Ended outcome.Canceled) ∷ []) (6 ∷ 0 ∷ 0 ∷ [])
    × AreKept 2 (at 3 (event.Ended (outcome.Succeeded 8)) ∷ []) (0 ∷ [])
