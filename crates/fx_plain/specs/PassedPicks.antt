-- The picks of a schedule that make no step and no request in the run that it chooses, and what is told of them.
use Rattle.std.specs.Prelude.{◌≡◌, ℕ, ◌+◌, ◌<◌, ◌≤◌, true, is_some, Option, Some, None, List, [], ◌∷◌, length}
use Rattle.fx_term.specs.Script.{ScriptView, total}
use Rattle.fx_report.specs.Waits.{IsAtQueueBelow}
use Rattle.fx_text.specs.declared.pick.Pick.{Pick}
use Rattle.fx_text.specs.declared.pick.Pick.TheVariants as pick
use Rattle.fx_plain.specs.declared.passed.Why.{Why}
use Rattle.fx_plain.specs.declared.passed.Why.TheVariants.{NoFiber, NotStarted, Ended, Waits}
use Rattle.fx_plain.specs.declared.passed.PassedOver.{PassedOver}
use Rattle.fx_plain.specs.WholeMachine.{WholeMachine, Move, opening, outcome_of}
use Rattle.fx_plain.specs.Chosen.{IsChosen}
use Rattle.fx_plain.specs.Chosen as chosen
use Rattle.fx_plain.specs.Waits.{source_of_fiber}

-- the number in a pick
abbrev pub number_of : Pick → ℕ
number_of (pick.Step f) = f
number_of (pick.Cancel f) = f

-- a pick that a run passes over: its place in the schedule, the pick, and the whole machine as it is there
pub record Skipped : Type 0 where
  pub place : ℕ
  pub pick : Pick
  pub machine : WholeMachine

-- The picks that a run passes over, in the order of the schedule, whose first pick has this place: just those that are neither a step nor a request of it.
-- A pick that makes a step without an event is none of them, nor is a request for a fiber that was requested before, that has ended or that never starts;
-- the steps after the last pick are no picks
abbrev pub passed_over : {s : ScriptView} {ps : List Pick} {m last : WholeMachine} {vs : List Move} → ℕ → IsChosen s ps m vs last → List Skipped
passed_over place (chosen.step made rest) = passed_over (place + 1) rest
passed_over place (chosen.no_step {f = f} {m = m} cannot rest) =
    record { place = place; pick = pick.Step f; machine = m } ∷ passed_over (place + 1) rest
passed_over place (chosen.request below rest) = passed_over (place + 1) rest
passed_over place (chosen.no_request {f = f} {m = m} past rest) =
    record { place = place; pick = pick.Cancel f; machine = m } ∷ passed_over (place + 1) rest
passed_over place (chosen.least is made rest) = []
passed_over place (chosen.halts none) = []

-- The reason is so of that number in the whole machine. No two are so of one number in a machine to which a run leads: a fiber that has started has a number of
-- the script's, and one that has ended has no leaf
abbrev pub IsWhy : ScriptView → WholeMachine → ℕ → Why → Type 0
IsWhy s m f NoFiber = total s ≤ f
IsWhy s m f NotStarted = (f < total s) × (m.fibers f ≡ None)
IsWhy s m f Ended = is_some (outcome_of m f) ≡ true
IsWhy s m f (Waits source) = source_of_fiber (m.fibers f) ≡ Some source

-- so many are passed over, and this is the first of them
pub record TellsFirst (s : ScriptView) (first : Skipped) (count : ℕ) (told : PassedOver) : Type 0 where
  pub count_is : told.count ≡ count
  pub place_is : told.first.place ≡ first.place
  pub pick_is : told.first.pick ≡ first.pick
  pub why : IsWhy s first.machine (number_of first.pick) told.first.why

-- What is told of the picks that are passed over: nothing where there are none, and else how many there are, and the first of them. So it refuses a count
-- that is not theirs, the last one told as the first, a reason that is not so where that pick stands, and any word where all picks fit
abbrev pub IsToldOf : ScriptView → List Skipped → Option PassedOver → Type 0
IsToldOf s [] None = Unit {0}
IsToldOf s (x ∷ xs) (Some told) = TellsFirst s x (length (x ∷ xs)) told
IsToldOf s _ _ = ⊥

-- it is told of the picks that the run passes over which they choose
pub record TellsPassed (s : ScriptView) (ps : List Pick) (told : Option PassedOver) : Type 0 where
  pub moves : List Move
  pub last : WholeMachine
  pub chosen : IsChosen s ps (opening s) moves last
  pub tells : IsToldOf s (passed_over 1 chosen) told

-- what is waited for by the reason is at no queue but the first so many
abbrev pub IsWhyAtQueueBelow : ℕ → Why → Type 0
IsWhyAtQueueBelow queues (Waits source) = IsAtQueueBelow queues source
IsWhyAtQueueBelow queues _ = Unit {0}
