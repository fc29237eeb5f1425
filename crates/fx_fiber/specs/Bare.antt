-- A fiber without its port.
use Rattle.std.specs.Prelude.{◌≡◌, ℕ, List, Option}
use Rattle.fx_term.specs.declared.node.Node.{Node}
use Rattle.fx_term.specs.declared.begin.Begin.{Begin}
use Rattle.fx_term.specs.declared.event.Event.{Event}
use Rattle.fx_term.specs.declared.stamped.Stamped.{Stamped}
use Rattle.fx_term.specs.Stamped.{events_in, stamps_in}
use Rattle.fx_mask.specs.Closing.{Closing}
use Rattle.fx_frames.specs.declared.frame.Frame.{Frame}
use Rattle.fx_model.specs.Row.{Counts, Label}
use Rattle.fx_model.specs.Step.{Progress}
use Rattle.fx_model.specs.Run.{IsRun, events}
use Rattle.fx_model.specs.Origin.{origin_of}
use Rattle.fx_fiber.specs.declared.machine.focus.Focus.{Focus}
use Rattle.fx_fiber.specs.declared.machine.unwound.Unwound.{Unwound}
use Rattle.fx_fiber.specs.declared.machine.Machine.{Machine}
use Rattle.fx_fiber.specs.Machine.{counts_of, progress_at}
use Rattle.fx_fiber.specs.Fiber.{FiberView}

-- the nodes of its code, its number, its trace and the stamps of that, what it keeps beside its term, and where it stands
pub record BareView : Type 0 where
  pub nodes : List Node
  pub id : ℕ
  pub trace : List Event
  pub stamps : List ℕ
  pub counts : Counts
  pub registers : List ℕ
  pub frames : List Frame
  pub closed : List Closing
  pub cleanups : Option Unwound
  pub focus : Focus

-- the one with this number, trace and machine
abbrev pub bare_at : List Node → ℕ → List Stamped → Machine → BareView
bare_at nodes id trace s = record {
  nodes = nodes;
  id = id;
  trace = events_in trace;
  stamps = stamps_in trace;
  counts = counts_of s;
  registers = s.registers;
  frames = s.frames;
  closed = s.masks.regions;
  cleanups = s.cleanups;
  focus = s.focus;
}

-- the fiber of this number without its port
abbrev pub bare_of : {P : Type 0} → List Node → ℕ → FiberView P → BareView
bare_of nodes id f = record {
  nodes = nodes;
  id = id;
  trace = f.trace;
  stamps = f.stamps;
  counts = f.counts;
  registers = f.registers;
  frames = f.frames;
  closed = f.closed;
  cleanups = f.cleanups;
  focus = f.focus;
}

-- how far it is
abbrev pub reached : BareView → Progress
reached b = progress_at b.nodes b.registers b.frames b.closed b.cleanups b.focus

-- the trace is the events of a run from what the fiber began with, which leads to where it is
pub record HasOwnRun (nodes : List Node) (trace : List Event) (counts : Counts) (progress : Progress) : Type 0 where
  pub begin : Begin
  pub labels : List Label
  pub run : IsRun (origin_of nodes begin) labels counts progress
  pub traced : events labels ≡ trace
