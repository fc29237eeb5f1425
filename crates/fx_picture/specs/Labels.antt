-- The words of a picture.
use Rattle.std.specs.Prelude.{ℕ, ◌==◌, Option, Some, None, List, [], ◌∷◌, ◌++◌, codes, decimal, length, if◌then◌else◌}
use Rattle.fx_model.specs.declared.source.Source.{Source}
use Rattle.fx_model.specs.declared.source.Source.TheVariants.{Nothing, Outcome, Either, Room, Element}
use Rattle.fx_model.specs.Report.{FiberReportView}
use Rattle.fx_order.specs.declared.occurrence.Occurrence.{Occurrence}
use Rattle.fx_report.specs.declared.blocked.Blocked.{Blocked}
use Rattle.fx_picture.specs.Handles.{Named, name_of, name_words}
use Rattle.fx_picture.specs.declared.stood.Stood.{Stood}
use Rattle.fx_picture.specs.Stood.{stood_at, stood_words}
use Rattle.fx_report.specs.Text.{number, queue_name, event_text}

-- the line of a trace that has the event, without its end, and where its fiber stood
abbrev pub mark_words : List (List ℕ) → List Stood → Occurrence → List ℕ
mark_words names stood o = decimal o.fiber ++ number o.stamp ++ codes " " ++ event_text names o.event ++ stood_words (stood_at stood o.fiber o.place)

-- those of these events, each with the end of the line before it
abbrev pub line_words : List (List ℕ) → List Stood → List Occurrence → List ℕ
line_words names stood [] = []
line_words names stood (o ∷ os) = codes "\n" ++ mark_words names stood o ++ line_words names stood os

-- how many these events are, and which
abbrev pub fold_words : List (List ℕ) → List Stood → List Occurrence → List ℕ
fold_words names stood list = decimal (length list) ++ codes " events:" ++ line_words names stood list

-- the number of a fiber, and what it is called
abbrev pub fiber_words : List Named → FiberReportView → List ℕ
fiber_words handles x = codes "fiber " ++ decimal x.id ++ name_words (name_of handles x.id)

-- what fiber f waits for, where these are blocked
abbrev pub wait_of : List Blocked → ℕ → Option Source
wait_of [] f = None
wait_of (b ∷ bs) f = if b.wait.fiber == f then Some b.wait.source else wait_of bs f

-- few words for what is waited for, since they stand in a lane
abbrev pub wait_words : List (List ℕ) → Source → List ℕ
wait_words names Nothing = codes "nothing"
wait_words names (Outcome f) = codes "fiber" ++ number f
wait_words names (Either f g) = codes "fiber" ++ number f ++ codes " or" ++ number g
wait_words names (Room q) = codes "room in" ++ queue_name names q
wait_words names (Element q) = codes "one of" ++ queue_name names q

abbrev pub count_words : ℕ → ℕ → List ℕ
count_words fibers events = decimal fibers ++ codes " fibers and " ++ decimal events ++ codes " events. "
