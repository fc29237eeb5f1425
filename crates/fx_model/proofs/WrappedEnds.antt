-- How a result leaves the masks, polls and finalizers round it.
use Rattle.std.proofs.Common.{◌≡◌, false, List, [], ◌∷◌, ◌∙◌}
use Rattle.fx_term.specs.declared.done.Done.{Done}
use Rattle.fx_term.specs.Term.{Finished}
use Rattle.fx_mask.specs.Closing.{is_none_closed}
use Rattle.fx_model.specs.Path.{is_open, must_cancel}
use Rattle.fx_model.specs.Row.{Counts, Silent, masked_ends, opened_ends, oncancel_ends}
use Rattle.fx_model.specs.Step.{Runs, row}
use Rattle.fx_model.proofs.Wrapped.{Wrap, Closes, Opens, Cleans, wrapped, closes, open_wrapped, row_wrapped}
use Rattle.fx_model.proofs.ShownRuns.{Reaches, stays, steps, and_then, closed_must}

-- each place inside one of them is closed
abbrev pub AreShut : List Wrap → Type 0
AreShut [] = Unit {0}
AreShut (w ∷ ws) = (is_none_closed (closes (w ∷ ws)) ≡ false) × AreShut ws

-- the same, but for the innermost place
abbrev pub AreShutBelow : List Wrap → Type 0
AreShutBelow [] = Unit {0}
AreShutBelow (w ∷ ws) = AreShut ws

pub shut_place : (w : Wrap) (ws : List Wrap) (v : Done) → AreShut (w ∷ ws) → is_open (wrapped (w ∷ ws) (Finished v)) ≡ false
shut_place w ws v shut = open_wrapped (w ∷ ws) (Finished v) ∙ shut.0

leaves_one : (c : Counts) (w : Wrap) (ws : List Wrap) (v : Done) → must_cancel c.known (wrapped (w ∷ ws) (Finished v)) ≡ false
    → Reaches c (Runs (wrapped (w ∷ ws) (Finished v))) [] c (Runs (wrapped ws (Finished v)))
leaves_one c (Closes r) ws v free = steps {l = Silent} (row free (row_wrapped ws masked_ends))
leaves_one c (Opens r) ws v free = steps {l = Silent} (row free (row_wrapped ws opened_ends))
leaves_one c (Cleans f) ws v free = steps {l = Silent} (row free (row_wrapped ws oncancel_ends))

leaves_shut : (c : Counts) (ws : List Wrap) (v : Done) → AreShut ws → Reaches c (Runs (wrapped ws (Finished v))) [] c (Runs (Finished v))
leaves_shut c [] v shut = stays
leaves_shut c (w ∷ ws) v shut =
    let free = closed_must c.known (wrapped (w ∷ ws) (Finished v)) (shut_place w ws v shut) in
    and_then (leaves_one c w ws v free) (leaves_shut c ws v shut.1)

-- where the fiber may leave the innermost, it leaves all of them silently
pub leaves_all : (c : Counts) (ws : List Wrap) (v : Done) → AreShutBelow ws → must_cancel c.known (wrapped ws (Finished v)) ≡ false
    → Reaches c (Runs (wrapped ws (Finished v))) [] c (Runs (Finished v))
leaves_all c [] v shut free = stays
leaves_all c (w ∷ ws) v shut free = and_then (leaves_one c w ws v free) (leaves_shut c ws v shut)
