-- Which bars are closed.
use Rattle.std.specs.Prelude.{◌≡◌, ◌⊎◌, ℕ, ◌≤◌, true, false, Some, IsSome, List, drop}
use Rattle.fx_term.specs.declared.event.Event.{Event}
use Rattle.fx_order.specs.declared.occurrence.Occurrence.{Occurrence}
use Rattle.fx_picture.specs.declared.bar.Bar.{Bar}
use Rattle.fx_picture.specs.Folds.{sheet_of}
use Rattle.fx_picture.specs.declared.bar.Bar.TheVariants.{Closed}
use Rattle.fx_picture.specs.declared.stood.Stood.{Stood}
use Rattle.fx_picture.specs.Stood.{stood_at, is_told_closed}
use Rattle.fx_picture.specs.Bars.{life_at, bar_at, mask_at, is_end, closes, closing_row}

-- the bar begins at event i of fiber f, which is this
abbrev pub Begins : List Stood → ℕ → ℕ → Event → Bar → Type 0
Begins stood f i e bar = (life_at i ≡ Some bar) ⊎ (bar_at e ≡ Some bar) ⊎ (mask_at stood f i ≡ Some bar)

-- the bar of fiber f that begins at this place of the list ends in some row
abbrev pub IsClosed : List Stood → List Occurrence → ℕ → ℕ → Bar → Type 0
IsClosed stood list f place bar = IsSome (closing_row stood f bar (drop place (sheet_of stood list).drawn))

-- the bar of a closed place has begun at event i of fiber f or before it, and no event from there to this one ends it, but the end of the fiber
pub record IsMasked (stood : List Stood) (f i : ℕ) : Type 0 where
  pub from : ℕ
  pub before : from ≤ i
  pub begins : mask_at stood f from ≡ Some Closed
  pub closed : (k : ℕ) → from ≤ k → k ≤ i → is_told_closed (stood_at stood f k) ≡ true
  pub goes_on : (o : Occurrence) → o.fiber ≡ f → from ≤ o.place → o.place ≤ i → is_end o.event ≡ false → closes stood Closed o ≡ false
