-- The picture of a report as a tree of elements.
use Rattle.std.specs.Prelude.{ℕ, zero, suc, ◌+◌, ◌/◌, ◌==◌, ◌++◌, Bool, false, Option, Some, None, List, [], ◌∷◌, codes, decimal, length, take}
use Rattle.std.specs.Prelude.{if◌then◌else◌}
use Rattle.fx_model.specs.declared.source.Source.{Source}
use Rattle.fx_model.specs.Report.{FiberReportView}
use Rattle.fx_order.specs.declared.occurrence.Occurrence.{Occurrence}
use Rattle.fx_report.specs.declared.blocked.Blocked.{Blocked}
use Rattle.fx_picture.specs.Handles.{Named}
use Rattle.fx_report.specs.Text.{state_text}
use Rattle.fx_svg.specs.declared.tag.Tag.TheVariants as tag
use Rattle.fx_svg.specs.declared.key.Key.TheVariants as key
use Rattle.fx_svg.specs.Content.{AttributeView, Content, nothing, words, element, both, rendering}
use Rattle.fx_picture.specs.declared.cause.Cause.{Cause}
use Rattle.fx_picture.specs.declared.bar.Bar.{Bar}
use Rattle.fx_picture.specs.declared.drawn.Drawn.{Drawn}
use Rattle.fx_picture.specs.declared.look.TheConstants.{STYLE}
use Rattle.fx_picture.specs.declared.marks.TheConstants.{RADIUS}
use Rattle.fx_picture.specs.declared.layout.TheConstants.{AGAIN, TOP, ABOVE, NEXT_ABOVE, BOTTOM, BELOW, NEXT_BELOW, BASE}
use Rattle.fx_picture.specs.declared.queues.TheConstants.{BESIDE}
use Rattle.fx_picture.specs.declared.picture.TheConstants.{TITLE, DESCRIPTION}
use Rattle.fx_picture.specs.Causes.{cause_of, cause_class}
use Rattle.fx_picture.specs.declared.stood.EventAt.{EventAt}
use Rattle.fx_picture.specs.Stood.{stood_at, told_cause, told_held}
use Rattle.fx_picture.specs.declared.stood.Stood.{Stood}
use Rattle.fx_picture.specs.Folds.{SheetView, sheet_of, in_row}
use Rattle.fx_picture.specs.Bars.{life_at, bar_at, mask_at, closing_row, beside, bar_class, bar_words}
use Rattle.fx_picture.specs.Visits.{queue_at, visit_class, visit_words, count_at, times_words}
use Rattle.fx_picture.specs.Layout.{lane_of, lane_x, row_y, band_y, height}
use Rattle.fx_picture.specs.Labels.{mark_words, fold_words, fiber_words, wait_of, wait_words, count_words}
use Rattle.fx_picture.specs.Elements.{set_to, number_of, label, line, line_with, box}
use Rattle.fx_picture.specs.Legend.{legend}
use Rattle.fx_picture.specs.Look.{event_class, end_class}

-- a line from top to bottom, beside so many rows
abbrev pub upright : List ℕ → ℕ → ℕ → Content
upright class rows lane = line class (lane_x lane) TOP (lane_x lane) (row_y rows + BOTTOM)

-- what a lane is called, so often again, each below some rows more
abbrev pub names_again : ℕ → List ℕ → ℕ → Content
names_again lane ws zero = nothing
names_again lane ws (suc band) = both (names_again lane ws band) (label (codes "again") (lane_x lane) (band_y band) ws)

-- above a lane and beside so many rows
abbrev pub lane_names : ℕ → ℕ → List ℕ → Content
lane_names lane rows ws = both (label (codes "name") (lane_x lane) ABOVE ws) (names_again lane ws (rows / AGAIN))

-- how a fiber is at the end
abbrev pub state_label : ℕ → ℕ → FiberReportView → Content
state_label lane y x = label (end_class x.has_ended) (lane_x lane) y (state_text x.has_ended x.trace)

-- what a fiber waits for
abbrev pub wait_labels : List (List ℕ) → ℕ → ℕ → Source → Content
wait_labels names rows lane source =
    both (label (codes "waits") (lane_x lane) (row_y rows + BELOW) (codes "waits for"))
    (label (codes "waits") (lane_x lane) (row_y rows + NEXT_BELOW) (wait_words names source))

-- what stands below the lane of a fiber: what it waits for, if it waits, or else how it is at the end
abbrev pub foot : List (List ℕ) → ℕ → ℕ → FiberReportView → Option Source → Content
foot names rows lane x None = state_label lane (row_y rows + BELOW) x
foot names rows lane x (Some source) = wait_labels names rows lane source

-- the lane of a fiber, with its name and how it is at the end above it
abbrev pub lane_content : List (List ℕ) → ℕ → ℕ → List Named → List Blocked → FiberReportView → Content
lane_content names rows lane handles blocked x =
    both (upright (codes "lane") rows lane)
    (both (lane_names lane rows (fiber_words handles x))
    (both (state_label lane NEXT_ABOVE x) (foot names rows lane x (wait_of blocked x.id))))

-- that of a queue of this name
abbrev pub queue_lane : ℕ → ℕ → List ℕ → Content
queue_lane rows lane name = both (upright (codes "queue") rows lane) (lane_names lane rows (codes "queue " ++ name))

module _ (names : List (List ℕ)) (rows : ℕ) (handles : List Named) (blocked : List Blocked) where
  abbrev pub lanes_from : ℕ → List FiberReportView → Content
  lanes_from lane [] = nothing
  lanes_from lane (x ∷ xs) = both (lane_content names rows lane handles blocked x) (lanes_from (suc lane) xs)

abbrev pub queue_lanes_from : ℕ → ℕ → List (List ℕ) → Content
queue_lanes_from rows lane [] = nothing
queue_lanes_from rows lane (name ∷ names) = both (queue_lane rows lane name) (queue_lanes_from rows (suc lane) names)

-- where a bar ends beside so many rows
abbrev pub bar_end : ℕ → Option ℕ → ℕ
bar_end rows (Some row) = row_y row
bar_end rows None = row_y rows + BOTTOM

abbrev pub bar_line : Bar → Option ℕ → ℕ → ℕ → ℕ → Content
bar_line bar closing x top bottom = line_with (element tag.Title [] (words (bar_words bar))) (bar_class bar closing) x top x bottom

-- the bar ends in this row
abbrev pub ends_in : ℕ → Option ℕ → Bool
ends_in row None = false
ends_in row (Some closed) = closed == row

module _ (fibers : List FiberReportView) (rows : ℕ) where
  -- the bar that begins at this event; none that ends in the row where it begins
  abbrev pub bar_to : Drawn → Bar → Option ℕ → Content
  bar_to x bar closing =
      if ends_in x.row closing then nothing
      else bar_line bar closing (beside bar (lane_x (lane_of fibers x.event.fiber))) (row_y x.row) (bar_end rows closing)

module _ (stood : List Stood) (fibers : List FiberReportView) (rows : ℕ) where
  -- where these are the events from it on
  abbrev pub bar_of : Drawn → List Drawn → Option Bar → Content
  bar_of x list None = nothing
  bar_of x list (Some bar) = bar_to fibers rows x bar (closing_row stood x.event.fiber bar list)

  -- those that begin at these events
  abbrev pub bars_from : List Drawn → Content
  bars_from [] = nothing
  bars_from (x ∷ xs) =
      both (bar_of x (x ∷ xs) (life_at x.event.place)) (both (bar_of x (x ∷ xs) (bar_at x.event.event))
      (both (bar_of x (x ∷ xs) (mask_at stood x.event.fiber x.event.place)) (bars_from xs)))

module _ (fibers : List FiberReportView) where
  -- the line from the mark of several events of fiber f to that queue, with how many of them are there
  abbrev pub times : ℕ → ℕ → ℕ → ℕ → Content
  times row f q n =
      both (line (codes "visit") (lane_x (lane_of fibers f)) (row_y row) (lane_x (length fibers + q)) (row_y row))
      (label (codes "visited") (lane_x (length fibers + q) + BESIDE) (row_y row + BASE) (times_words n))

  abbrev pub times_of : ℕ → ℕ → List Occurrence → ℕ → Content
  times_of row f list q = if count_at q 0 list == 0 then nothing else times row f q (count_at q 0 list)

  -- those to so many queues
  abbrev pub all_times : ℕ → ℕ → List Occurrence → ℕ → Content
  all_times row f list zero = nothing
  all_times row f list (suc q) = both (all_times row f list q) (times_of row f list q)

-- how many elements a queue holds, on its lane, if that is told
abbrev pub held_label : ℕ → ℕ → Option ℕ → Content
held_label lane row None = nothing
held_label lane row (Some n) = label (codes "holds") (lane_x lane) (row_y row + BASE) (decimal n)

module _ (fibers : List FiberReportView) where
  -- the line from an event to that queue
  abbrev pub visit_line : Drawn → ℕ → Content
  visit_line x q =
      line (visit_class x.event.event) (lane_x (lane_of fibers x.event.fiber)) (row_y x.row) (lane_x (length fibers + q)) (row_y x.row)

module _ (stood : List Stood) (fibers : List FiberReportView) where
  -- what the event does there, and how many elements the queue holds then
  abbrev pub visited : Drawn → ℕ → Content
  visited x q =
      both (label (codes "visited") (lane_x (length fibers + q) + BESIDE) (row_y x.row + BASE) (visit_words x.event.event))
      (held_label (length fibers + q) x.row (told_held (stood_at stood x.event.fiber x.event.place)))

  abbrev pub visit : Drawn → ℕ → Content
  visit x q = both (visit_line fibers x q) (visited x q)

  abbrev pub visit_for : Drawn → Option ℕ → Content
  visit_for x None = nothing
  visit_for x (Some q) = visit x q

  abbrev pub visit_of : Drawn → Content
  visit_of x = visit_for x (queue_at x.event.event)

  -- what the events of a row do at so many queues
  abbrev pub visits_of : ℕ → ℕ → List Occurrence → Content
  visits_of queues row [] = nothing
  visits_of queues row (o ∷ []) = visit_of (record { row = row; event = o })
  visits_of queues row (o ∷ p ∷ os) = all_times fibers row o.fiber (o ∷ p ∷ os) queues

  -- and those of so many rows
  abbrev pub visits_in : ℕ → List Drawn → ℕ → Content
  visits_in queues list zero = nothing
  visits_in queues list (suc row) = both (visits_in queues list row) (visits_of queues row (in_row row list))

module _ (fibers : List FiberReportView) where
  -- an arrow from an event in its row to another
  abbrev pub arrow : Drawn → Drawn → Cause → Content
  arrow x y cause =
      line (cause_class cause) (lane_x (lane_of fibers x.event.fiber)) (row_y x.row) (lane_x (lane_of fibers y.event.fiber)) (row_y y.row)

  abbrev pub arrow_for : Drawn → Drawn → Option Cause → Content
  arrow_for x y None = nothing
  arrow_for x y (Some cause) = arrow x y cause

  -- the arrow from the one to the other, if that stands on it, where this is told to have caused it
  abbrev pub arrow_by : Option EventAt → Drawn → Drawn → Content
  arrow_by told x y = arrow_for x y (cause_of told x.event y.event)

  -- the arrows to y from these
  abbrev pub arrows_to : Option EventAt → Drawn → List Drawn → Content
  arrows_to told y [] = nothing
  arrows_to told y (x ∷ xs) = both (arrow_by told x y) (arrows_to told y xs)

module _ (stood : List Stood) (fibers : List FiberReportView) where
  -- the arrows to these, which stand from this place of the list on, each from those of the list above it
  abbrev pub arrows_from : List Drawn → ℕ → List Drawn → Content
  arrows_from list place [] = nothing
  arrows_from list place (y ∷ ys) =
      both (arrows_to fibers (told_cause (stood_at stood y.event.fiber y.event.place)) y (take place list)) (arrows_from list (suc place) ys)

-- how many the events of a mark are
abbrev pub count_label : ℕ → ℕ → ℕ → Content
count_label lane row n = label (codes "count") (lane_x lane) (row_y row + BASE) (decimal n)

module _ (names : List (List ℕ)) (stood : List Stood) where
  -- what stands in the mark of several events: the words of the events as a title, the box, and how many they are
  abbrev pub fold_inside : ℕ → ℕ → List Occurrence → Content
  fold_inside lane row list =
      both (element tag.Title [] (words (fold_words names stood list))) (both (box (lane_x lane) (row_y row)) (count_label lane row (length list)))

  -- that mark, in its lane and its row
  abbrev pub fold : ℕ → ℕ → List Occurrence → Content
  fold lane row list = element tag.Group (set_to key.Class (codes "fold") ∷ []) (fold_inside lane row list)

module _ (names : List (List ℕ)) (stood : List Stood) (fibers : List FiberReportView) where
  -- the mark of an event in its row, in its fiber's lane, with its words as a title
  abbrev pub mark : ℕ → Occurrence → Content
  mark row o = element tag.Circle
      (set_to key.Class (event_class o.event) ∷ number_of key.CenterX (lane_x (lane_of fibers o.fiber)) ∷ number_of key.CenterY (row_y row)
      ∷ number_of key.Radius RADIUS ∷ []) (element tag.Title [] (words (mark_words names stood o)))

  -- the mark of the events of a row
  abbrev pub mark_of : ℕ → List Occurrence → Content
  mark_of row [] = nothing
  mark_of row (o ∷ []) = mark row o
  mark_of row (o ∷ p ∷ os) = fold names stood (lane_of fibers o.fiber) row (o ∷ p ∷ os)

  -- and those of so many rows
  abbrev pub marks_in : List Drawn → ℕ → Content
  marks_in list zero = nothing
  marks_in list (suc row) = both (marks_in list row) (mark_of row (in_row row list))

abbrev pub arrow_head : Content
arrow_head = element tag.Marker
    (set_to key.Id (codes "head") ∷ set_to key.ViewBox (codes "0 0 8 8") ∷ number_of key.PointX 12 ∷ number_of key.PointY 4 ∷ number_of key.MarkerWidth 8
    ∷ number_of key.MarkerHeight 8 ∷ set_to key.Orient (codes "auto-start-reverse") ∷ [])
    (element tag.Path (set_to key.Way (codes "M0 0L8 4L0 8Z") ∷ []) nothing)

-- what a picture of so many fibers and events has beside what is drawn
abbrev pub head : ℕ → ℕ → Content
head fibers events =
    both (element tag.Title [] (words TITLE.now)) (both (element tag.Description [] (words (count_words fibers events ++ DESCRIPTION.now)))
    (both (element tag.Style [] (words STYLE.now)) arrow_head))

-- the size of a picture with so many lanes and rows
abbrev pub size : ℕ → ℕ → List AttributeView
size lanes rows =
    set_to key.Namespace (codes "http://www.w3.org/2000/svg") ∷ set_to key.Role (codes "img") ∷ number_of key.Width (lane_x lanes)
    ∷ number_of key.Height (height rows) ∷ []

-- the lanes of fibers and queues, and the bars beside them
abbrev pub ground_of : List (List ℕ) → List Stood → List Named → List Blocked → List FiberReportView → SheetView → Content
ground_of names stood handles blocked fibers sheet =
    both (lanes_from names sheet.rows handles blocked 0 fibers)
    (both (queue_lanes_from sheet.rows (length fibers) names) (bars_from stood fibers sheet.rows sheet.drawn))

-- what happens on them
abbrev pub figures_of : List (List ℕ) → List Stood → List FiberReportView → SheetView → Content
figures_of names stood fibers sheet =
    both (visits_in stood fibers (length names) sheet.drawn sheet.rows)
    (both (arrows_from stood fibers sheet.drawn 0 sheet.drawn) (marks_in names stood fibers sheet.drawn sheet.rows))

-- the picture of these fibers with these events, where the script's queues have these names, fibers stood there and are called so, and blocked ones wait for
-- this
abbrev pub drawing : List (List ℕ) → List Stood → List Named → List Blocked → List FiberReportView → SheetView → Content
drawing names stood handles blocked fibers sheet = element tag.Svg (size (length fibers + length names) sheet.rows)
    (both (head (length fibers) (length sheet.drawn))
    (both legend (both (ground_of names stood handles blocked fibers sheet) (figures_of names stood fibers sheet))))

-- with these events from top to bottom
abbrev pub picture : List (List ℕ) → List Stood → List Named → List Blocked → List FiberReportView → List Occurrence → Content
picture names stood handles blocked fibers list = drawing names stood handles blocked fibers (sheet_of stood list)

-- its text
unfoldable pub picture_text : List (List ℕ) → List Stood → List Named → List Blocked → List FiberReportView → List Occurrence → List ℕ
picture_text names stood handles blocked fibers list = rendering (picture names stood handles blocked fibers list)
