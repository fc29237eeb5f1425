-- What shares a row.
use Rattle.std.specs.Prelude.{◌≡◌, ℕ, zero, suc, ◌<◌, true, Some, List, [], ◌++◌, slice_get}
use Rattle.fx_order.specs.declared.occurrence.Occurrence.{Occurrence}
use Rattle.fx_picture.specs.declared.drawn.Drawn.{Drawn}
use Rattle.fx_picture.specs.declared.stood.Stood.{Stood}
use Rattle.fx_picture.specs.Folds.{is_quiet, in_row}

-- these two of the list stand in one row
pub record SharesRow (list : List Drawn) (i j : ℕ) (x y : Drawn) : Type 0 where
  pub order : i < j
  pub first : slice_get list i ≡ Some x
  pub second : slice_get list j ≡ Some y
  pub row : x.row ≡ y.row

-- they are of a run of one lane without arrows: what that fiber did between them stands in their row too
pub record IsRun (stood : List Stood) (list : List Drawn) (i j : ℕ) (x y : Drawn) : Type 0 where
  pub one_lane : x.event.fiber ≡ y.event.fiber
  pub first_quiet : is_quiet stood x.event ≡ true
  pub second_quiet : is_quiet stood y.event ≡ true
  pub whole : (k : ℕ) (z : Drawn) → i < k → k < j → slice_get list k ≡ Some z → z.event.fiber ≡ x.event.fiber → z.row ≡ x.row

-- the events of so many rows, row by row
abbrev pub events_in : ℕ → List Drawn → List Occurrence
events_in zero list = []
events_in (suc row) list = events_in row list ++ in_row row list
