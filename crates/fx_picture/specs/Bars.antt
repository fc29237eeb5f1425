-- Which bars a picture has beside a lane, and where they end.
use Rattle.std.specs.Prelude.{ℕ, ◌+◌, ◌-◌, ◌*◌, ◌%◌, ◌==◌, ◌++◌, Bool, true, false, not, ◌&&◌, ◌||◌, Option, Some, None, List, [], ◌∷◌, codes}
use Rattle.std.specs.Prelude.{if◌then◌else◌}
use Rattle.fx_term.specs.declared.event.Event.{Event}
use Rattle.fx_term.specs.declared.event.Event.TheVariants as event
use Rattle.fx_order.specs.declared.occurrence.Occurrence.{Occurrence}
use Rattle.fx_report.specs.Text.{number}
use Rattle.fx_picture.specs.declared.drawn.Drawn.{Drawn}
use Rattle.fx_picture.specs.declared.bar.Bar.{Bar}
use Rattle.fx_picture.specs.declared.bar.Bar.TheVariants.{Life, Unwinding, Holding, Closed}
use Rattle.fx_picture.specs.declared.bar.TheConstants.{ASIDE, ASUNDER, ABREAST}
use Rattle.fx_picture.specs.declared.stood.Stood.{Stood}
use Rattle.fx_picture.specs.Stood.{stood_at, is_told_closed, is_told_open}

-- a fiber's life begins at its first event
abbrev pub life_at : ℕ → Option Bar
life_at place = if place == 0 then Some Life else None

-- it unwinds from where it is canceled, and holds a resource from where that is acquired
abbrev pub bar_at : Event → Option Bar
bar_at event.Cancelled = Some Unwinding
bar_at (event.Acquired k) = Some (Holding k)
bar_at _ = None

-- no cancellation acts from event i of fiber f on, the first at a closed place after one that is not told to be at such a place, or after none
abbrev pub is_closed_before : List Stood → ℕ → ℕ → Bool
is_closed_before stood f i = if i == 0 then false else is_told_closed (stood_at stood f (i - 1))

abbrev pub mask_at : List Stood → ℕ → ℕ → Option Bar
mask_at stood f i = if is_told_closed (stood_at stood f i) && not (is_closed_before stood f i) then Some Closed else None

-- its life and its unwinding end with it
abbrev pub is_end : Event → Bool
is_end (event.Ended o) = true
is_end _ = false

-- and a resource is held until its release has ended
abbrev pub is_release : ℕ → Event → Bool
is_release k (event.End j) = j == k
is_release k _ = false

-- and no cancellation acts until its fiber stands at an open place, or ends
abbrev pub closes : List Stood → Bar → Occurrence → Bool
closes stood Life o = is_end o.event
closes stood Unwinding o = is_end o.event
closes stood (Holding k) o = is_release k o.event
closes stood Closed o = is_end o.event || is_told_open (stood_at stood o.fiber o.place)

-- the row of the first of these events of fiber f that closes the bar
abbrev pub closing_row : List Stood → ℕ → Bar → List Drawn → Option ℕ
closing_row stood f bar [] = None
closing_row stood f bar (x ∷ xs) = if (x.event.fiber == f) && closes stood bar x.event then Some x.row else closing_row stood f bar xs

-- where a bar stands whose lane has this middle: resources right of it, those that follow each other beside each other, and closed places left of it
abbrev pub beside : Bar → ℕ → ℕ
beside (Holding k) x = x + ASIDE + (k % ABREAST) * ASUNDER
beside Closed x = x - ASIDE
beside _ x = x

-- the name by which the style means a bar that is closed, or not
abbrev pub bar_class : Bar → Option ℕ → List ℕ
bar_class Life (Some row) = codes "life"
bar_class Life None = codes "life open"
bar_class Unwinding (Some row) = codes "unwinding"
bar_class Unwinding None = codes "unwinding open"
bar_class (Holding k) (Some row) = codes "holding"
bar_class (Holding k) None = codes "holding open"
bar_class Closed (Some row) = codes "masked"
bar_class Closed None = codes "masked open"

abbrev pub bar_words : Bar → List ℕ
bar_words Life = codes "from its first event to its end"
bar_words Unwinding = codes "canceled: its clean-ups run"
bar_words (Holding k) = codes "holds its resource" ++ number k
bar_words Closed = codes "closed: no cancellation acts"
