-- What there is to tell of the run that picks choose, step by step, and what is told of it.
use Rattle.std.specs.Prelude.{◌≡◌, ℕ, ◌+◌, ◌==◌, Bool, false, if◌then◌else◌, Option, Some, None, IfSome, MatchOption, List, [], ◌∷◌, ◌++◌}
use Rattle.fx_term.specs.declared.node.Node.{Node}
use Rattle.fx_term.specs.declared.event.Event.{Event}
use Rattle.fx_term.specs.declared.event.Event.TheVariants as event
use Rattle.fx_term.specs.QueuesNamed.{NamesQueueBelow}
use Rattle.fx_term.specs.Script.{ScriptView}
use Rattle.fx_term.specs.Term.{Term}
use Rattle.fx_model.specs.Row.{Label, Silent, Shows, Learns, Starts}
use Rattle.fx_model.specs.Step.{leaf_at}
use Rattle.fx_fiber.specs.NodePlaces.{is_open_at, IsPlaceOf, HasNoNode}
use Rattle.fx_text.specs.declared.pick.Pick.{Pick}
use Rattle.fx_text.specs.declared.pick.Pick.TheVariants as pick
use Rattle.fx_plain.specs.declared.passed.PassedPick.{PassedPick}
use Rattle.fx_plain.specs.declared.told.MadeStep.{MadeStep}
use Rattle.fx_plain.specs.declared.told.Told.{Told}
use Rattle.fx_plain.specs.declared.told.Told.TheVariants.{Step, Request, Passed}
use Rattle.fx_plain.specs.WholeMachine.{StartedFiber, WholeMachine, Move, Steps, Requests, opening}
use Rattle.fx_plain.specs.Chosen.{IsChosen}
use Rattle.fx_plain.specs.Chosen as chosen
use Rattle.fx_plain.specs.PassedPicks.{Skipped, number_of, IsWhy, IsWhyAtQueueBelow}

-- a move of the run, with the whole machine before it; or a pick that it passes over
pub data Happening : Type 0 where
  Moves : WholeMachine → Move → Happening
  Passes : Skipped → Happening

-- all moves of the run that picks choose, of which the first has this place in the schedule, also those after the last pick, and between them the picks that
-- are passed over
abbrev pub happenings : {s : ScriptView} {ps : List Pick} {m last : WholeMachine} {vs : List Move} → ℕ → IsChosen s ps m vs last → List Happening
happenings place (chosen.step {f = f} {l = l} {m = m} made rest) = Moves m (Steps f l) ∷ happenings (place + 1) rest
happenings place (chosen.no_step {f = f} {m = m} cannot rest) =
    Passes (record { place = place; pick = pick.Step f; machine = m }) ∷ happenings (place + 1) rest
happenings place (chosen.request {f = f} {m = m} below rest) = Moves m (Requests f) ∷ happenings (place + 1) rest
happenings place (chosen.no_request {f = f} {m = m} past rest) =
    Passes (record { place = place; pick = pick.Cancel f; machine = m }) ∷ happenings (place + 1) rest
happenings place (chosen.least {f = f} {l = l} {m = m} is made rest) = Moves m (Steps f l) ∷ happenings place rest
happenings place (chosen.halts none) = []

-- what a step shows, by its label
abbrev pub shown_by : Label → Option Event
shown_by Silent = None
shown_by (Shows e) = Some e
shown_by (Learns f o e) = Some e
shown_by (Starts f b) = Some (event.Start f)

-- the fiber of whose end a step learns, by its label
abbrev pub learned_by : Label → Option ℕ
learned_by (Learns f o e) = Some f
learned_by _ = None

-- whether the place is open where a fiber stands, so that a request is seen there; and the leaf
abbrev pub is_open_of : Option StartedFiber → Bool
is_open_of None = false
is_open_of (Some x) = is_open_at x.progress

abbrev pub leaf_of : Option StartedFiber → Option Term
leaf_of None = None
leaf_of (Some x) = leaf_at x.progress

-- a step of fiber f with this label: whose it is, at which node of the code it stood, with some numbers for its names, whether that place was open, what the
-- step shows, and of whose end it learns
pub record TellsStep (nodes : List Node) (m : WholeMachine) (f : ℕ) (l : Label) (told : MadeStep) : Type 0 where
  pub fiber : told.fiber ≡ f
  pub node : MatchOption told.node (HasNoNode (leaf_of (m.fibers f))) (λ id. (numbers : List ℕ) × IsPlaceOf nodes numbers (leaf_of (m.fibers f)) id)
  pub is_open : told.is_open ≡ is_open_of (m.fibers f)
  pub event : told.event ≡ shown_by l
  pub learned : told.learned ≡ learned_by l

-- a pick that is passed over: its place, what it is, and a reason that is so where it stands
pub record TellsSkipped (s : ScriptView) (x : Skipped) (told : PassedPick) : Type 0 where
  pub place : told.place ≡ x.place
  pub pick : told.pick ≡ x.pick
  pub why : IsWhy s x.machine (number_of x.pick) told.why

module _ (nodes : List Node) (s : ScriptView) where
  -- So it refuses a step that is told as a pick that was passed over, and the other way round
  abbrev pub IsTold : Happening → Told → Type 0
  IsTold (Moves m (Steps f l)) (Step told) = TellsStep nodes m f l told
  IsTold (Moves m (Requests f)) (Request g) = g ≡ f
  IsTold (Passes x) (Passed told) = TellsSkipped s x told
  IsTold _ _ = ⊥

  -- one after the other, with none left out
  abbrev pub AreTold : List Happening → List Told → Type 0
  AreTold [] [] = Unit {0}
  AreTold (x ∷ xs) (t ∷ ts) = IsTold x t × AreTold xs ts
  AreTold _ _ = ⊥

  -- it is told of the run that the picks choose
  pub record TellsRun (ps : List Pick) (told : List Told) : Type 0 where
    pub moves : List Move
    pub last : WholeMachine
    pub chosen : IsChosen s ps (opening s) moves last
    pub tells : AreTold (happenings 1 chosen) told

-- the steps and requests that are told, as picks
abbrev pub picks_told : List Told → List Pick
picks_told [] = []
picks_told (Step made ∷ told) = pick.Step made.fiber ∷ picks_told told
picks_told (Request f ∷ told) = pick.Cancel f ∷ picks_told told
picks_told (Passed x ∷ told) = picks_told told

-- the events that are told of fiber f
abbrev pub one_shown : Option Event → List Event
one_shown None = []
one_shown (Some e) = e ∷ []

abbrev pub events_told : ℕ → List Told → List Event
events_told f [] = []
events_told f (Step made ∷ told) = (if made.fiber == f then one_shown made.event else []) ++ events_told f told
events_told f (Request g ∷ told) = events_told f told
events_told f (Passed x ∷ told) = events_told f told

-- what is told names no queue but the first so many
abbrev pub IsToldAtQueueBelow : ℕ → Told → Type 0
IsToldAtQueueBelow queues (Step made) = IfSome made.event (NamesQueueBelow queues)
IsToldAtQueueBelow queues (Request f) = Unit {0}
IsToldAtQueueBelow queues (Passed x) = IsWhyAtQueueBelow queues x.why
