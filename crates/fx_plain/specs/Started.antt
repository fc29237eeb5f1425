-- A fiber that has started: who started it, and what it is, also where only its report is kept.
use Rattle.std.specs.Prelude.{◌≡◌, ℕ, ◌<◌, true, Option, Some, None, option_map, option_and_then, List}
use Rattle.fx_term.specs.declared.node.Node.{Node}
use Rattle.fx_term.specs.Stamped.{events_in, stamps_in}
use Rattle.fx_model.specs.Step.{has_ended, leaf_at}
use Rattle.fx_model.specs.Waiting.{wait_at}
use Rattle.fx_model.specs.Report.{FiberReportView}
use Rattle.fx_model.specs.declared.source.Source.{Source}
use Rattle.fx_fiber.specs.Fiber.{FiberView, progress}
use Rattle.fx_fiber.specs.Flows.{FlowsAndStops, FlowsAndWaits}
use Rattle.fx_report.specs.declared.wait.Wait.{Wait}
use Rattle.fx_plain.specs.declared.started.Ended.{Ended}
use Rattle.fx_plain.specs.declared.started.Stage.{Stage}
use Rattle.fx_plain.specs.declared.started.Stage.TheVariants.{Going, Over}
use Rattle.fx_plain.specs.PlainCalls.{PortView, plain_theory}
use Rattle.fx_plain.specs.World.{WorldView}

-- a fiber that has started, and who started it, of the code of this brand
pub record StartedView (J : Type 0) : Type 0 where
  pub parent : Option ℕ
  pub fiber : FiberView PortView

-- the fiber of a stage
abbrev pub fiber_of : {J : Type 0} → Stage J → FiberView PortView
fiber_of (Going fiber) = fiber
fiber_of (Over kept) = kept.was.value

-- what is kept of a fiber is what is told of it, and it has ended
pub record IsKeptOf {J : Type 0} (nodes : List Node) (kept : Ended J) (fiber : FiberView PortView) : Type 0 where
  pub id : kept.id ≡ fiber.port.number
  pub trace : events_in kept.trace.items ≡ fiber.trace
  pub stamps : stamps_in kept.trace.items ≡ fiber.stamps
  pub over : has_ended (progress nodes fiber) ≡ true

-- a stage that keeps only what is told keeps that
abbrev pub IsKeptWell : {J : Type 0} → List Node → Stage J → Type 0
IsKeptWell nodes (Going fiber) = Unit {0}
IsKeptWell nodes (Over kept) = IsKeptOf nodes kept kept.was.value

-- what a fiber does in a flow that comes to this: it makes a step or more, or waits for that then
abbrev pub FlowsFrom : List Node → FiberView PortView → WorldView → Option Source → FiberView PortView → WorldView → Type 0
FlowsFrom nodes old world None new world' = (n : ℕ) × (0 < n) × FlowsAndStops (plain_theory nodes) old world n new world'
FlowsFrom nodes old world (Some source) new world' =
    (n : ℕ) × (flows : FlowsAndWaits (plain_theory nodes) n old world new world') × (flows.wait ≡ source)

module _ {J : Type 0} (nodes : List Node) where
  -- what is reported of a fiber
  abbrev pub reported : StartedView J → FiberReportView
  reported x = record {
    id = x.fiber.port.number;
    parent = x.parent;
    has_ended = has_ended (progress nodes x.fiber);
    trace = x.fiber.trace;
    stamps = x.fiber.stamps;
  }

  -- that it waits, if its leaf is one that can wait
  abbrev pub wait_of : StartedView J → Option Wait
  wait_of x = option_map (λ source. record { fiber = x.fiber.port.number; source = source }) (option_and_then wait_at (leaf_at (progress nodes x.fiber)))
