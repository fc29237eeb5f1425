-- What is told on the way of the run that picks choose, a pick or a step at a time.
use Rattle.std.specs.Prelude.{◌≡◌, ℕ, ◌+◌, ◌<◌, ◌==◌, false, if◌then◌else◌, Option, Some, None, MatchOption, option_and_then, List, [], ◌∷◌, ◌++◌, length}
use Rattle.std.specs.Prelude.{slice_get}
use Rattle.fx_term.specs.declared.node.Node.{Node}
use Rattle.fx_term.specs.declared.event.Event.{Event}
use Rattle.fx_term.specs.declared.event.Event.TheVariants as event
use Rattle.fx_term.specs.Script.{ScriptView}
use Rattle.fx_model.specs.Row.{Label}
use Rattle.fx_model.specs.Step.{leaf_at}
use Rattle.fx_model.specs.Waiting.{wait_at}
use Rattle.fx_model.specs.declared.source.Source.{Source}
use Rattle.fx_model.specs.declared.source.Source.TheVariants.{Either}
use Rattle.fx_fiber.specs.Fiber.{progress}
use Rattle.fx_fiber.specs.NodePlaces.{is_open_at, IsPlaceOf, HasNoNode}
use Rattle.fx_text.specs.declared.pick.Pick.{Pick}
use Rattle.fx_text.specs.declared.pick.Pick.TheVariants as pick
use Rattle.fx_plain.specs.declared.passed.Why.{Why}
use Rattle.fx_plain.specs.declared.started.BeforeStep.{BeforeStep}
use Rattle.fx_plain.specs.declared.told.MadeStep.{MadeStep}
use Rattle.fx_plain.specs.declared.told.Told.{Told}
use Rattle.fx_plain.specs.declared.told.Told.TheVariants.{Step}
use Rattle.fx_plain.specs.declared.plain_machine.PlainMachine.{PlainMachine}
use Rattle.fx_plain.specs.Started.{StartedView}
use Rattle.fx_plain.specs.WholeMachine.{WholeMachine, Move, Steps, Requests, opening, can_step_in}
use Rattle.fx_plain.specs.Chosen.{ChosenStep, IsChosen}
use Rattle.fx_plain.specs.PlainMachine.{able_count, StandsForRun}
use Rattle.fx_plain.specs.TakenPick.{Takes}
use Rattle.fx_plain.specs.TakenPick as takes
use Rattle.fx_plain.specs.ToldRun.{Happening, Moves, Passes, happenings, TellsStep, IsTold, AreTold}

-- what happens where a pick of this place is taken
abbrev pub happening : {s : ScriptView} {m m' : WholeMachine} {p : Pick} {why : Option Why} → ℕ → Takes s m p why m' → Happening
happening {m = m} place (takes.step {f = f} {l = l} made) = Moves m (Steps f l)
happening {m = m} place (takes.no_step {f = f} cannot why) = Passes (record { place = place; pick = pick.Step f; machine = m })
happening {m = m} place (takes.request {f = f} below) = Moves m (Requests f)
happening {m = m} place (takes.no_request {f = f} past) = Passes (record { place = place; pick = pick.Cancel f; machine = m })

-- what is told with a step more, if one was made
abbrev pub with_step : Option MadeStep → List Told → List Told
with_step None told = told
with_step (Some made) told = told ++ Step made ∷ []

-- how many events a fiber has shown before a step, where it stands, and what it waits for there, if it can
pub record IsBeforeStep {J : Type 0} (nodes : List Node) (x : StartedView J) (before : BeforeStep) : Type 0 where
  pub shown : before.shown ≡ length x.fiber.trace
  pub node : MatchOption before.node (HasNoNode (leaf_at (progress nodes x.fiber))) (IsPlaceOf nodes x.fiber.registers (leaf_at (progress nodes x.fiber)))
  pub is_open : before.is_open ≡ is_open_at (progress nodes x.fiber)
  pub waits : before.waits ≡ option_and_then wait_at (leaf_at (progress nodes x.fiber))

-- the event at this place of a fiber's trace, if it has started
abbrev pub shown_at : {J : Type 0} → Option (StartedView J) → ℕ → Option Event
shown_at None place = None
shown_at (Some x) place = slice_get x.fiber.trace place

-- of two fibers that are waited for, the one that was found to have ended, as a `first` says: the left one, or the right one
abbrev pub found_of : Option Source → ℕ → Option ℕ
found_of (Some (Either f g)) side = Some (if side == 0 then f else g)
found_of _ side = None

-- the fiber of whose end a step learns that shows this, where its fiber waited for that
abbrev pub learned_of : Option Source → Option Event → Option ℕ
learned_of waits (Some (event.Joined f o)) = Some f
learned_of waits (Some (event.Awaited f)) = Some f
learned_of waits (Some (event.First side)) = found_of waits side
learned_of waits _ = None

-- what is told of a step of fiber f, which stood so before it, and which shows this
abbrev pub made_step : ℕ → BeforeStep → Option Event → MadeStep
made_step f before e = record { fiber = f; node = before.node; is_open = before.is_open; event = e; learned = learned_of before.waits e }

-- how a fiber stood before a step, if it has started
abbrev pub IsBeforeStepAt : {J : Type 0} → List Node → Option (StartedView J) → BeforeStep → Type 0
IsBeforeStepAt nodes None before = Unit {0}
IsBeforeStepAt nodes (Some x) before = IsBeforeStep nodes x before

module _ {J : Type 0} (nodes : List Node) where
  -- a fiber makes a step that a schedule makes, which is told; or it cannot step, which leaves one fiber less able, and nothing is told
  pub data TriesAndTells (s : ScriptView) (m : WholeMachine) (f : ℕ) (p p' : PlainMachine J) : Option MadeStep → Type 0 where
    steps : {l : Label} {m' : WholeMachine} {told : MadeStep} → ChosenStep s m f l m' → StandsForRun nodes s p' m' → TellsStep nodes m f l told
        → TriesAndTells s m f p p' (Some told)
    waits : can_step_in s m f ≡ false → StandsForRun nodes s p' m → able_count p'.world.classes < able_count p.world.classes
        → TriesAndTells s m f p p' None

  -- the pick of this place is taken, and what happens is told
  pub record IsTakenAndTold (s : ScriptView) (m : WholeMachine) (place : ℕ) (pick : Pick) (told : Told) (p' : PlainMachine J) : Type 0 where
    pub machine : WholeMachine
    pub why : Option Why
    pub takes : Takes s m pick why machine
    pub stands : StandsForRun nodes s p' machine
    pub tells : IsTold nodes s (happening place takes) told

  -- It stands for a whole machine on the way of the run that picks choose, so many of which are taken, and so far all is told: whatever run those choose from
  -- here that are left, all choose one in which this comes first
  pub record IsToldWay (s : ScriptView) (all : List Pick) (taken : ℕ) (left : List Pick) (told : List Told) (p : PlainMachine J) : Type 0 where
    pub machine : WholeMachine
    pub stands : StandsForRun nodes s p machine
    pub so_far : List Happening
    pub on : (vs : List Move) (last : WholeMachine) (c : IsChosen s left machine vs last)
        → (ws : List Move) × (d : IsChosen s all (opening s) ws last) × (happenings 1 d ≡ so_far ++ happenings (taken + 1) c)
    pub tells : AreTold nodes s so_far told
