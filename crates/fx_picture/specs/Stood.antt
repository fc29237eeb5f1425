-- What is told of fibers as they showed their events, and the words for that.
use Rattle.std.specs.Prelude.{ℕ, ◌-◌, ◌==◌, Bool, true, false, not, Option, Some, None, List, [], ◌∷◌, ◌++◌, codes, decimal, if◌then◌else◌}
use Rattle.fx_text.specs.declared.position.Position.{Position}
use Rattle.fx_picture.specs.declared.stood.EventAt.{EventAt}
use Rattle.fx_picture.specs.declared.stood.Stood.{Stood}

-- what is told of event i of fiber f, where this is told of all events: of each fiber in the order of its trace
abbrev pub stood_at : List Stood → ℕ → ℕ → Option Stood
stood_at [] f i = None
stood_at (s ∷ stood) f i = if s.fiber == f then (if i == 0 then Some s else stood_at stood f (i - 1)) else stood_at stood f i

-- the place is told to be closed, so that a request would not be seen there; or open
abbrev pub is_told_closed : Option Stood → Bool
is_told_closed None = false
is_told_closed (Some s) = not s.is_open

abbrev pub is_told_open : Option Stood → Bool
is_told_open None = false
is_told_open (Some s) = s.is_open

-- the event that is told to have caused this one, and how many elements its queue is told to hold after it
abbrev pub told_cause : Option Stood → Option EventAt
told_cause None = None
told_cause (Some s) = s.cause

abbrev pub told_held : Option Stood → Option ℕ
told_held None = None
told_held (Some s) = s.held

-- the line and the column of a form, if they are known
abbrev pub position_words : Option Position → List ℕ
position_words None = []
position_words (Some p) = codes " at " ++ decimal p.line ++ codes ":" ++ decimal p.column

-- a word where a request would not be seen
abbrev pub open_words : Bool → List ℕ
open_words true = []
open_words false = codes " closed"

-- how many elements its queue holds then
abbrev pub held_words : Option ℕ → List ℕ
held_words None = []
held_words (Some n) = codes " holds " ++ decimal n

abbrev pub stood_words : Option Stood → List ℕ
stood_words None = []
stood_words (Some s) = position_words s.position ++ open_words s.is_open ++ held_words s.held
