-- The printed findings, as bytes. Every line ends with LF, and numbers are decimal.
use Rattle.std.specs.Prelude.{ℕ, Option, Some, None, List, ◌++◌, codes, decimal, length}
use Rattle.std.specs.List.{flat_map}
use Rattle.fx_search.specs.declared.ending.Ending.{Ending}
use Rattle.fx_search.specs.declared.ending.Ending.TheVariants.{Exhausted, Limit, Memory}
use Rattle.fx_text.specs.declared.pick.Pick.{Pick}
use Rattle.fx_text.specs.declared.pick.Pick.TheVariants.{Step, Cancel}
use Rattle.fx_report.specs.Text.{line_end, number}
use Rattle.fx_explore.specs.Told.{told_text}
use Rattle.fx_findings.specs.declared.explored.Finding.{Finding}
use Rattle.fx_findings.specs.declared.explored.Explored.{Explored}
use Rattle.fx_findings.specs.Explored.{view_told, schedule_of}

-- a space and the word of a pick
abbrev pub pick_text : Pick → List ℕ
pick_text (Step f) = number f
pick_text (Cancel f) = codes " c" ++ decimal f

-- what stands after the first word is the text of a schedule of these picks
abbrev pub picks_text : List Pick → List ℕ
picks_text ps = flat_map pick_text ps ++ line_end

abbrev pub schedule_line : Option (List Pick) → List ℕ
schedule_line (Some ps) = codes "schedule" ++ picks_text ps
schedule_line None = codes "no schedule" ++ line_end

-- the schedule, the report and an empty line, where the script's queues have these names
abbrev pub finding_text : List (List ℕ) → Finding → List ℕ
finding_text names x = schedule_line (schedule_of x) ++ told_text names (view_told x.told) ++ line_end

abbrev pub ending_text : Ending → List ℕ
ending_text Exhausted = codes "complete"
ending_text Limit = codes "incomplete"
ending_text Memory = codes "incomplete"

-- how many reports there are, and from how many states the search went on
abbrev pub counts_text : ℕ → ℕ → List ℕ
counts_text reports states = codes "explored: " ++ decimal reports ++ codes " reports, " ++ decimal states ++ codes " states, "

abbrev pub last_line : ℕ → ℕ → Ending → List ℕ
last_line reports states ending = counts_text reports states ++ ending_text ending ++ line_end

abbrev pub explored_text : List (List ℕ) → Explored → List ℕ
explored_text names e = flat_map (finding_text names) e.findings.items ++ last_line (length e.findings.items) e.states e.ending
