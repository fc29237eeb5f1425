-- All fibers of a script as code holds them, and the whole machine that they and their world stand for.
use Rattle.std.specs.Prelude.{◌≡◌, ℕ, ◌<◌, false, if◌then◌else◌, Option, Some, None, option_map, option_and_then, List, [], length, map, slice_index}
use Rattle.std.specs.Prelude.{slice_index_or}
use Rattle.std.specs.List.{filter_map, sum_by}
use Rattle.fx_term.specs.declared.node.Node.{Node}
use Rattle.fx_term.specs.Queue.{values_put}
use Rattle.fx_term.specs.Script.{ScriptView}
use Rattle.fx_model.specs.Row.{Label}
use Rattle.fx_model.specs.Origin.{origin_of}
use Rattle.fx_fiber.specs.Fiber.{progress}
use Rattle.fx_fiber.specs.declared.stepped.Stepped.{Stepped}
use Rattle.fx_fiber.specs.MakesStep.{DoesStep}
use Rattle.fx_fiber.specs.Bursts.{Bursts}
use Rattle.fx_fiber.specs.QueueSteps.{StandsAtQueue, is_due}
use Rattle.fx_model.specs.Step.{has_ended}
use Rattle.fx_model.specs.Report.{FiberReportView}
use Rattle.fx_text.specs.declared.pick.Pick.{Pick}
use Rattle.fx_report.specs.declared.wait.Wait.{Wait}
use Rattle.fx_plain.specs.Started.{StartedView, FlowsFrom, reported, wait_of}
use Rattle.fx_plain.specs.declared.plain_machine.PlainMachine.{PlainMachine}
use Rattle.fx_plain.specs.MachineStamps.{MachineStamps}
use Rattle.fx_plain.specs.WholeMachine.{WholeMachine, Move, can_step_in, IsWholeMachineRun}
use Rattle.fx_plain.specs.Chosen.{ChosenStep, LeastSteps}
use Rattle.fx_plain.specs.declared.class.Class.{Class}
use Rattle.fx_plain.specs.Classes.{awaited}
use Rattle.fx_plain.specs.ClassSets.{class_at, is_able}
use Rattle.fx_model.specs.declared.source.Source.{Source}
use Rattle.fx_plain.specs.World.{WorldView, HeldFiber, is_ready_in, StandsFor, HasStamps}
use Rattle.fx_plain.specs.PlainCalls.{PortView, plain_theory}
use Rattle.fx_plain.specs.WorldClasses.{TellsWhoSteps}
use Rattle.fx_plain.specs.OnTheWay.{IsOnTheWay}
use Rattle.fx_plain.specs.declared.passed.Why.{Why}
use Rattle.fx_plain.specs.TakenPick.{Takes}

-- how many are able
abbrev pub able_count : List Class → ℕ
able_count classes = sum_by (λ k. if is_able k then 1 else 0) classes

-- no fiber is ready
abbrev pub Halts : {J : Type 0} → PlainMachine J → Type 0
Halts p = (f : ℕ) → is_ready_in p.world f ≡ false

module _ {J : Type 0} (nodes : List Node) where
  -- a fiber that has started
  abbrev pub held : StartedView J → HeldFiber
  held x = record {
    parent = x.parent;
    origin = origin_of nodes x.fiber.port.beginning;
    trace = x.fiber.trace;
    counts = x.fiber.counts;
    progress = progress nodes x.fiber;
  }

  -- what is reported of those that have started
  abbrev pub all_reported : List (Option (StartedView J)) → List FiberReportView
  all_reported fibers = filter_map (option_map (reported nodes)) fibers

  -- what those wait for that have started
  abbrev pub all_waits : List (Option (StartedView J)) → List Wait
  all_waits fibers = filter_map (option_and_then (wait_of nodes)) fibers

  -- the fibers by number
  abbrev pub all_held : PlainMachine J → List (Option HeldFiber)
  all_held p = map (option_map held) p.fibers.items

  -- the fiber with this number, if it has started, has a port of that number, which counts what the fiber puts into each queue
  abbrev pub IsNumbered : ℕ → Option (StartedView J) → Type 0
  IsNumbered f None = Unit {0}
  IsNumbered f (Some x) = (x.fiber.port.number ≡ f) × ((q : ℕ) → slice_index x.fiber.port.put_counts q ≡ length (values_put q x.fiber.trace))

  -- these are the stamp that the fiber with this number began with, and those of its trace; one that has not started has none
  abbrev pub HasStampsAt : MachineStamps → ℕ → Option (StartedView J) → Type 0
  HasStampsAt stamps f None = stamps.trace f ≡ []
  HasStampsAt stamps f (Some x) = (x.fiber.port.beginning.stamp ≡ stamps.began f) × (x.fiber.stamps ≡ stamps.trace f)

  -- a fiber has started at the place, and has not ended
  abbrev pub IsGoingAt : Option (StartedView J) → Type 0
  IsGoingAt None = ⊥
  IsGoingAt (Some x) = has_ended (progress nodes x.fiber) ≡ false

  -- the fiber of the place made a step with this answer, or waits, and stands there as before
  pub record StepsAt (old : Option (StartedView J)) (world : WorldView) (answer : Stepped PortView WorldView) (new : Option (StartedView J))
      (world' : WorldView) : Type 0 where
    pub before : StartedView J
    pub after : StartedView J
    pub from : old ≡ Some before
    pub to : new ≡ Some after
    pub does : DoesStep (plain_theory nodes) before.fiber world answer after.fiber world'
    pub parent : after.parent ≡ before.parent
    pub number : after.fiber.port.number ≡ before.fiber.port.number
    pub beginning : after.fiber.port.beginning ≡ before.fiber.port.beginning

  -- the fiber of the place made a burst of at most so many steps, and stands there as before
  pub record BurstsAt (most : ℕ) (old : Option (StartedView J)) (world : WorldView) (new : Option (StartedView J)) (world' : WorldView) : Type 0 where
    pub before : StartedView J
    pub after : StartedView J
    pub from : old ≡ Some before
    pub to : new ≡ Some after
    pub n : ℕ
    pub does : Bursts (plain_theory nodes) most n before.fiber world after.fiber world'
    pub parent : after.parent ≡ before.parent

  -- the fiber of the place stands at an `offer` or a `take`, and cancellation is not due there
  abbrev pub IsAtQueue : Option (StartedView J) → Type 0
  IsAtQueue None = ⊥
  IsAtQueue (Some x) = StandsAtQueue nodes x.fiber.focus (is_due x.fiber)

  -- the fiber of the place made the steps of a flow, which came to this, and stands there as before
  pub record FlowsAt (old : Option (StartedView J)) (world : WorldView) (wait : Option Source) (new : Option (StartedView J)) (world' : WorldView) : Type 0
    where
      pub before : StartedView J
      pub after : StartedView J
      pub from : old ≡ Some before
      pub to : new ≡ Some after
      pub does : FlowsFrom nodes before.fiber world wait after.fiber world'
      pub parent : after.parent ≡ before.parent
      pub number : after.fiber.port.number ≡ before.fiber.port.number
      pub beginning : after.fiber.port.beginning ≡ before.fiber.port.beginning

  -- it stands for that whole machine, to which some run leads
  pub record StandsForRun (s : ScriptView) (p : PlainMachine J) (m : WholeMachine) : Type 0 where
    pub moves : List Move
    pub run : IsWholeMachineRun s moves m
    pub stands : StandsFor s p.world (all_held p) m
    pub tells : TellsWhoSteps s p.world m
    pub numbered : (f : ℕ) → IsNumbered f (slice_index_or p.fibers.items f None)
    pub stamps : HasStamps s p.world m.stamps
    pub stamped : (f : ℕ) → HasStampsAt m.stamps f (slice_index_or p.fibers.items f None)

  -- it stands for some
  abbrev pub StandsForSome : PlainMachine J → Type 0
  StandsForSome p = (s : ScriptView) × (m : WholeMachine) × StandsForRun s p m

  -- it stands for a whole machine on the way of the run that picks choose
  pub record IsUnderWay (s : ScriptView) (all left : List Pick) (p : PlainMachine J) : Type 0 where
    pub machine : WholeMachine
    pub stands : StandsForRun s p machine
    pub way : IsOnTheWay s all left machine

  -- fiber f makes steps that a schedule makes, none or more, each with the world as it was, which lead from one whole machine to another
  pub data GoesOn (s : ScriptView) (f : ℕ) (m : WholeMachine) (p : PlainMachine J) : WholeMachine → PlainMachine J → Type 0 where
    stays : {p' : PlainMachine J} → StandsForRun s p' m → p'.world ≡ p.world → GoesOn s f m p m p'
    goes : {l : Label} {n n' : WholeMachine} {q p' : PlainMachine J} → GoesOn s f m p n q → ChosenStep s n f l n' → StandsForRun s p' n'
        → p'.world ≡ q.world → GoesOn s f m p n' p'

  -- a step of fiber f that a schedule makes, which leaves no note that it waits; or that fiber cannot step, and it is noted what it waits for, so that one
  -- fiber less is able
  pub data Tries (s : ScriptView) (m : WholeMachine) (f : ℕ) (p p' : PlainMachine J) : Type 0 where
    steps : {l : Label} {m' : WholeMachine} → ChosenStep s m f l m' → StandsForRun s p' m' → awaited (class_at p'.world.classes f) ≡ None → Tries s m f p p'
    waits : {source : Source} → can_step_in s m f ≡ false → StandsForRun s p' m → able_count p'.world.classes < able_count p.world.classes
        → awaited (class_at p'.world.classes f) ≡ Some source → Tries s m f p p'

  -- it goes on by steps of the least fiber that can make one, each time; where there was none, one fiber less is able
  pub record GoesByLeast (s : ScriptView) (m : WholeMachine) (p p' : PlainMachine J) : Type 0 where
    pub count : ℕ
    pub machine : WholeMachine
    pub steps : LeastSteps s m count machine
    pub stands : StandsForRun s p' machine
    pub fewer : count ≡ 0 → able_count p'.world.classes < able_count p.world.classes

  -- it stands for what the pick makes of the whole machine, which is passed over if there is a reason
  pub record IsTaken (s : ScriptView) (m : WholeMachine) (pick : Pick) (why : Option Why) (p' : PlainMachine J) : Type 0 where
    pub machine : WholeMachine
    pub takes : Takes s m pick why machine
    pub stands : StandsForRun s p' machine
