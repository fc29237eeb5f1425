-- Which events of a picture stand in one row: those of a long run of one lane in which no arrow can begin or end, as a loop makes it.
use Rattle.std.specs.Prelude.{ℕ, suc, ◌==◌, nat_lt, nat_le, Bool, true, false, not, ◌&&◌, List, [], ◌∷◌, ◌++◌, if◌then◌else◌, is_some}
use Rattle.fx_term.specs.declared.event.Event.{Event}
use Rattle.fx_term.specs.declared.event.Event.TheVariants as event
use Rattle.fx_order.specs.declared.occurrence.Occurrence.{Occurrence}
use Rattle.fx_picture.specs.declared.drawn.Drawn.{Drawn}
use Rattle.fx_picture.specs.declared.sheet.Sheet.{Sheet}
use Rattle.fx_picture.specs.declared.stood.Stood.{Stood}
use Rattle.fx_picture.specs.declared.tail.Tail.{Tail}
use Rattle.fx_picture.specs.declared.tail.TheConstants.{LEAST_RUN}
use Rattle.fx_picture.specs.Causes.{has_caused}
use Rattle.fx_picture.specs.Stood.{stood_at, told_cause}

-- what is done to queues and to resources
abbrev pub is_work : Event → Bool
is_work (event.Put q v) = true
is_work (event.Got q v) = true
is_work (event.Refused q) = true
is_work (event.Empty q) = true
is_work (event.Acquired k) = true
is_work (event.Begin k) = true
is_work (event.End k) = true
is_work _ = false

-- an arrow may begin at a put that is told to have caused something, and end at a got that is told to have a cause
abbrev pub is_linked_by : List Stood → Event → Occurrence → Bool
is_linked_by stood (event.Put q v) o = has_caused stood o
is_linked_by stood (event.Got q v) o = is_some (told_cause (stood_at stood o.fiber o.place))
is_linked_by stood _ o = false

abbrev pub is_linked : List Stood → Occurrence → Bool
is_linked stood o = is_linked_by stood o.event o

-- nothing stands in a lane
abbrev pub no_tail : Tail
no_tail = record { run = 0; row = 0 }

-- what stands last in the lane of fiber f is this; what does below one event more, which is quiet or not
abbrev pub next_by : ℕ → Tail → Drawn → Bool → Tail
next_by f t x quiet = if x.event.fiber == f then (record { run = if quiet then suc t.run else 0; row = x.row }) else t

-- the same below a list, of each of which it is said whether it is quiet
abbrev pub tail_by : ℕ → Tail → List Drawn → List Bool → Tail
tail_by f t (x ∷ xs) (quiet ∷ more) = tail_by f (next_by f t x quiet) xs more
tail_by f t _ _ = t

module _ (stood : List Stood) where
  -- an event at which no arrow can begin or end
  abbrev pub is_quiet : Occurrence → Bool
  is_quiet o = not (o.place == 0) && is_work o.event && not (is_linked stood o)

  abbrev pub quiet_at : Drawn → Bool
  quiet_at x = is_quiet x.event

  -- the same, where each is quiet or not as it is told
  abbrev pub next_tail : ℕ → Tail → Drawn → Tail
  next_tail f t x = next_by f t x (quiet_at x)

  abbrev pub tail_from : ℕ → Tail → List Drawn → Tail
  tail_from f t [] = t
  tail_from f t (x ∷ xs) = tail_from f (next_tail f t x) xs

  -- what stands last in the lane of fiber f, where these are drawn
  abbrev pub tail_of : ℕ → List Drawn → Tail
  tail_of f xs = tail_from f no_tail xs

  -- n, and how many quiet events of fiber f come next in its lane
  abbrev pub run_below : ℕ → ℕ → List Occurrence → ℕ
  run_below f n [] = n
  run_below f n (o ∷ os) = if o.fiber == f then (if is_quiet o then run_below f (suc n) os else n) else run_below f n os

  -- the event goes into the row of what stands last in its lane: both are quiet, and of one long run. These events follow it
  abbrev pub joins : Tail → Occurrence → List Occurrence → Bool
  joins t o below = is_quiet o && nat_lt 0 t.run && nat_le LEAST_RUN (run_below o.fiber (suc t.run) below)

-- the events of a picture, each with its row, and how many rows there are
pub record SheetView : Type 0 where
  pub drawn : List Drawn
  pub rows : ℕ

abbrev pub view_sheet : Sheet → SheetView
view_sheet s = record { drawn = s.drawn.items; rows = s.rows }

module _ (stood : List Stood) (above : List Drawn) (rows : ℕ) (o : Occurrence) (below : List Occurrence) where
  abbrev pub joins_above : Bool
  joins_above = joins stood (tail_of stood o.fiber above) o below

  abbrev pub with_row : Drawn
  with_row = record { row = if joins_above then (tail_of stood o.fiber above).row else rows; event = o }

  abbrev pub rows_with : ℕ
  rows_with = if joins_above then rows else suc rows

module _ (stood : List Stood) where
  -- below so many rows, which have these
  abbrev pub sheet_from : List Drawn → ℕ → List Occurrence → SheetView
  sheet_from above rows [] = record { drawn = above; rows = rows }
  sheet_from above rows (o ∷ os) = sheet_from (above ++ with_row stood above rows o os ∷ []) (rows_with stood above rows o os) os

  abbrev pub sheet_of : List Occurrence → SheetView
  sheet_of list = sheet_from [] 0 list

abbrev pub event_of : Drawn → Occurrence
event_of x = x.event

-- the events in a row
abbrev pub in_row : ℕ → List Drawn → List Occurrence
in_row row [] = []
in_row row (x ∷ xs) = if x.row == row then x.event ∷ in_row row xs else in_row row xs
