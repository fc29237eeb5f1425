-- The legend of a picture.
use Rattle.std.specs.Prelude.{ℕ, suc, ◌+◌, ◌*◌, List, [], ◌∷◌, codes}
use Rattle.fx_svg.specs.declared.tag.Tag.TheVariants as tag
use Rattle.fx_svg.specs.declared.key.Key.TheVariants as key
use Rattle.fx_svg.specs.Content.{Content, nothing, element, both}
use Rattle.fx_picture.specs.declared.layout.TheConstants.{ROW, BASE}
use Rattle.fx_picture.specs.declared.marks.TheConstants.{RADIUS}
use Rattle.fx_picture.specs.declared.legend.TheConstants.{LEGEND_TOP, LINE_LEFT, MARK, LINE_RIGHT, WORDS}
use Rattle.fx_picture.specs.declared.legend.Entry.{Entry}
use Rattle.fx_picture.specs.Elements.{set_to, number_of, label, line, box}

-- what is shown, by the name by which the style means it, and what that is in words
pub record EntryView : Type 0 where
  pub class : List ℕ
  pub words : List ℕ

abbrev pub view_entry : Entry → EntryView
view_entry e = record { class = e.class.now; words = e.words.now }

abbrev pub legend_y : ℕ → ℕ
legend_y row = LEGEND_TOP + row * ROW

-- the words beside what stands at this height; a mark with its words, and a line with its own
abbrev pub said : ℕ → List ℕ → Content
said y ws = label (codes "said") WORDS (y + BASE) ws

abbrev pub mark_entry : ℕ → EntryView → Content
mark_entry row e =
    both (element tag.Circle
    (set_to key.Class e.class ∷ number_of key.CenterX MARK ∷ number_of key.CenterY (legend_y row) ∷ number_of key.Radius RADIUS ∷ []) nothing)
    (said (legend_y row) e.words)

abbrev pub mark_entries : ℕ → List EntryView → Content
mark_entries row [] = nothing
mark_entries row (e ∷ es) = both (mark_entry row e) (mark_entries (suc row) es)

abbrev pub line_sample : List ℕ → ℕ → Content
line_sample class y = line class LINE_LEFT y LINE_RIGHT y

abbrev pub line_entry : ℕ → EntryView → Content
line_entry row e = both (line_sample e.class (legend_y row)) (said (legend_y row) e.words)

abbrev pub line_entries : ℕ → List EntryView → Content
line_entries row [] = nothing
line_entries row (e ∷ es) = both (line_entry row e) (line_entries (suc row) es)

abbrev pub entry : List ℕ → List ℕ → EntryView
entry class ws = record { class = class; words = ws }

-- the marks, by what an event did, and the lines
abbrev pub marks_of_fibers : List EntryView
marks_of_fibers =
    entry (codes "start") (codes "starts a fiber") ∷ entry (codes "learn") (codes "learns how one ended") ∷ entry (codes "end") (codes "ends")
    ∷ entry (codes "gone") (codes "ends as canceled") ∷ entry (codes "cancel") (codes "requests, or is canceled")
    ∷ entry (codes "seen") (codes "sees a request") ∷ []

abbrev pub marks_of_queues : List EntryView
marks_of_queues =
    entry (codes "put") (codes "puts an element") ∷ entry (codes "got") (codes "takes an element") ∷ entry (codes "none") (codes "finds it full or empty")
    ∷ entry (codes "held") (codes "acquires a resource") ∷ entry (codes "free") (codes "begins, ends its release") ∷ []

abbrev pub lines : List EntryView
lines =
    entry (codes "arrow start") (codes "to what it started") ∷ entry (codes "arrow end") (codes "to who learns of the end")
    ∷ entry (codes "arrow cancel dashed") (codes "to who sees the request")
    ∷ entry (codes "arrow put") (codes "to who takes the element") ∷ entry (codes "life") (codes "a fiber that ends")
    ∷ entry (codes "life open") (codes "one that waits for good") ∷ entry (codes "unwinding") (codes "its clean-ups run")
    ∷ entry (codes "holding") (codes "it holds a resource") ∷ entry (codes "masked") (codes "no cancellation acts") ∷ []

-- the mark of several events
abbrev pub fold_sample : ℕ → Content
fold_sample y = element tag.Group (set_to key.Class (codes "fold") ∷ []) (box MARK y)

abbrev pub fold_entry : ℕ → List ℕ → Content
fold_entry row ws = both (fold_sample (legend_y row)) (said (legend_y row) ws)

-- how many elements a queue holds
abbrev pub held_entry : ℕ → List ℕ → Content
held_entry row ws =
    both (line_sample (codes "queue") (legend_y row))
    (both (label (codes "holds") MARK (legend_y row + BASE) (codes "2")) (said (legend_y row) ws))

-- what is counted
abbrev pub counted : Content
counted = both (fold_entry 20 (codes "so many events of a loop")) (held_entry 21 (codes "so many it holds then"))

abbrev pub legend : Content
legend = element tag.Group (set_to key.Class (codes "legend") ∷ [])
    (both (mark_entries 0 marks_of_fibers) (both (mark_entries 6 marks_of_queues)
    (both (line_entries 11 lines) counted)))
