-- The lines that tell a run step by step, as bytes.
use Rattle.std.specs.Prelude.{ℕ, ◌+◌, Bool, true, false, Option, Some, None, List, [], ◌∷◌, ◌++◌, codes, decimal}
use Rattle.std.specs.Prelude.{slice_get, slice_set, slice_index_or, replicate}
use Rattle.fx_term.specs.declared.event.Event.{Event}
use Rattle.fx_term.specs.declared.node.NodeId.{NodeId}
use Rattle.fx_places.specs.declared.place.FormPlace.{FormPlace}
use Rattle.fx_places.specs.Form.{word_of}
use Rattle.fx_report.specs.Text.{line_end, number, event_text}
use Rattle.fx_plain.specs.declared.passed.PassedPick.{PassedPick}
use Rattle.fx_plain.specs.declared.told.MadeStep.{MadeStep}
use Rattle.fx_plain.specs.declared.told.Told.{Told}
use Rattle.fx_plain.specs.declared.told.Told.TheVariants.{Step, Request, Passed}
use Rattle.fx_plain.specs.PassedPicks.{number_of}
use Rattle.fx_command.specs.Passed.{why_line}

-- where a form stands, and its word
abbrev pub form_text : Option FormPlace → List ℕ
form_text None = codes "-"
form_text (Some place) = decimal place.position.line ++ codes ":" ++ decimal place.position.column ++ codes " " ++ word_of place.form

-- whether a request would be seen there
abbrev pub open_text : Bool → List ℕ
open_text true = codes "open"
open_text false = codes "closed"

-- a space and what a step shows, if it does
abbrev pub shown_text : List (List ℕ) → Option Event → List ℕ
shown_text names None = []
shown_text names (Some e) = codes " " ++ event_text names e

-- the line of a step of this number: its fiber, its form, whether a request would be seen where it stood, and what it shows
abbrev pub step_line : List (List ℕ) → ℕ → Option FormPlace → MadeStep → List ℕ
step_line names n place made =
    decimal n ++ number made.fiber ++ codes " " ++ form_text place ++ codes " " ++ open_text made.is_open ++ shown_text names made.event ++ line_end

-- that of a request, as a schedule has it
abbrev pub request_line : ℕ → ℕ → List ℕ
request_line n f = decimal n ++ codes " c" ++ decimal f ++ line_end

-- that of a pick that is passed over: its place in the schedule, and why. It has no number
abbrev pub passed_line : List (List ℕ) → PassedPick → List ℕ
passed_line names x = codes "pick " ++ decimal x.place ++ codes " is passed over: " ++ why_line names (number_of x.pick) x.why

abbrev pub told_line : List (List ℕ) → ℕ → Option FormPlace → Told → List ℕ
told_line names n place (Step made) = step_line names n place made
told_line names n place (Request f) = request_line n f
told_line names n place (Passed x) = passed_line names x

-- the number of the next step or request
abbrev pub number_after : ℕ → Told → ℕ
number_after n (Step made) = n + 1
number_after n (Request f) = n + 1
number_after n (Passed x) = n

-- a node, or the one before where there is none
abbrev pub last_node : Option NodeId → Option NodeId → Option NodeId
last_node before None = before
last_node before (Some id) = Some id

-- the node of a step, or, if it has none of its own, the last one at which its fiber stood, where fibers stood last at these, by their numbers
abbrev pub node_of : List (Option NodeId) → Told → Option NodeId
node_of stood (Step made) = last_node (slice_index_or stood made.fiber None) made.node
node_of stood (Request f) = None
node_of stood (Passed x) = None

-- where they stand last after it
abbrev pub stood_after : List (Option NodeId) → Told → List (Option NodeId)
stood_after stood (Step made) = slice_set stood made.fiber (node_of stood (Step made))
stood_after stood (Request f) = stood
stood_after stood (Passed x) = stood

-- the place of a node, where the nodes have these
abbrev pub place_of : List FormPlace → Option NodeId → Option FormPlace
place_of places None = None
place_of places (Some id) = slice_get places id.0

-- a line for each, where the script's queues have these names and its nodes these places, fibers stood last at these nodes, and the first step or request has
-- this number
abbrev pub told_text : List (List ℕ) → List FormPlace → List (Option NodeId) → ℕ → List Told → List ℕ
told_text names places stood n [] = []
told_text names places stood n (t ∷ told) =
    told_line names n (place_of places (node_of stood t)) t ++ told_text names places (stood_after stood t) (number_after n t) told

-- of a run from its beginning, where the script can have so many fibers
abbrev pub steps_text : List (List ℕ) → List FormPlace → ℕ → List Told → List ℕ
steps_text names places fibers told = told_text names places (replicate fibers None) 1 told
