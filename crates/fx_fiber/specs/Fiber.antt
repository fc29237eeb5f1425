-- What a fiber names, and what it keeps.
use Rattle.std.specs.Prelude.{◌≡◌, ℕ, ◌+◌, ◌^◌, ◌<◌, ◌≤◌, nat_lt, Bool, Option, None, List, []}
use Rattle.fx_term.specs.declared.node.Node.{Node}
use Rattle.fx_term.specs.declared.begin.Begin.{Begin}
use Rattle.fx_term.specs.declared.event.Event.{Event}
use Rattle.fx_term.specs.declared.stamped.Stamped.{Stamped}
use Rattle.fx_term.specs.Stamped.{events_in, stamps_in}
use Rattle.fx_mask.specs.Closing.{Closing}
use Rattle.fx_frames.specs.declared.frame.Frame.{Frame}
use Rattle.fx_model.specs.Row.{Counts, range_of, Label}
use Rattle.fx_model.specs.Step.{Progress, Runs, has_ended}
use Rattle.fx_model.specs.Run.{first_counts, IsRun, events, shown}
use Rattle.fx_model.specs.Origin.{Origin, origin_of}
use Rattle.fx_fiber.specs.Deed.{AreDeeds}
use Rattle.fx_fiber.specs.StampedDeed.{StampedDeed, deeds_of}
use Rattle.fx_fiber.specs.StampedRun.{AreStamped, last_of}
use Rattle.fx_model.specs.Work.{work_left}
use Rattle.fx_model.specs.Scopes.{IsProgressScopedOver}
use Rattle.fx_model.specs.NeedLeft.{need_left}
use Rattle.fx_model.specs.declared.source.Source.{Source}
use Rattle.fx_fiber.specs.declared.machine.focus.Focus.{Focus}
use Rattle.fx_fiber.specs.declared.machine.unwound.Unwound.{Unwound}
use Rattle.fx_fiber.specs.declared.machine.Machine.{Machine}
use Rattle.fx_fiber.specs.Machine.{counts_of, progress_at, progress_of}
use Rattle.fx_fiber.specs.Sound.{IsSoundMachine}
use Rattle.fx_fiber.specs.Theory.{Theory}

-- a fiber: its port, its trace and the stamps of that, what it keeps beside its term, where it stands, and what it last registered for and has not
-- yielded since
pub record FiberView (P : Type 0) : Type 0 where
  pub port : P
  pub trace : List Event
  pub stamps : List ℕ
  pub counts : Counts
  pub registers : List ℕ
  pub frames : List Frame
  pub closed : List Closing
  pub cleanups : Option Unwound
  pub focus : Focus
  pub source : Option Source

-- the fiber with this port, trace and machine, which last registered for that
abbrev pub fiber_at : {P : Type 0} → P → List Stamped → Machine → Option Source → FiberView P
fiber_at p trace s source = record {
  port = p;
  trace = events_in trace;
  stamps = stamps_in trace;
  counts = counts_of s;
  registers = s.registers;
  frames = s.frames;
  closed = s.masks.regions;
  cleanups = s.cleanups;
  focus = s.focus;
  source = source;
}

-- its clock: the stamp of its last event, or of its start where it has shown none
abbrev pub clock : {P S : Type 0} → Theory P S → FiberView P → ℕ
clock theory f = last_of (theory.facts f.port).beginning.stamp f.stamps

-- how far it is
abbrev pub progress : {P : Type 0} → List Node → FiberView P → Progress
progress nodes f = progress_at nodes f.registers f.frames f.closed f.cleanups f.focus

-- the fiber is as it was, but may have entered contexts
pub record IsUnchanged {P : Type 0} (nodes : List Node) (old new : FiberView P) : Type 0 where
  pub port : new.port ≡ old.port
  pub trace : new.trace ≡ old.trace
  pub stamps : new.stamps ≡ old.stamps
  pub counts : new.counts ≡ old.counts
  pub progress_is : progress nodes new ≡ progress nodes old

-- the fiber is before its first step, and begins so
pub record IsAtFirst {P : Type 0} (nodes : List Node) (b : Origin) (f : FiberView P) : Type 0 where
  pub trace : f.trace ≡ []
  pub stamps : f.stamps ≡ []
  pub counts : f.counts ≡ first_counts b
  pub progress_is : progress nodes f ≡ Runs b.term
  pub source : f.source ≡ None

-- The trace is that of a run from what the fiber began with, which leads to where it is; each event's stamp is one more than the greater of the one before it
-- and that of its cause; and the port agrees with the deeds of that run
pub record IsLawful (nodes : List Node) (begin : Begin) (agrees : List StampedDeed → Type 0) (trace : List Event) (stamps : List ℕ) (counts : Counts)
    (progress : Progress) : Type 0 where
  pub labels : List Label
  pub run : IsRun (origin_of nodes begin) labels counts progress
  pub traced : events labels ≡ trace
  pub deeds : List StampedDeed
  pub are_deeds : AreDeeds nodes labels (deeds_of deeds)
  pub causes : List ℕ
  pub stamped : AreStamped nodes begin.stamp (shown labels) stamps causes deeds
  pub agreed : agrees deeds

-- a number that a fiber can have: it fits a word
abbrev pub is_fiber_number : ℕ → Bool
is_fiber_number f = nat_lt f (2 ^ 32)

-- what a fiber's parts keep: they are sound, lawful, its masks, resources and puts can be counted, its names are bound and those of fibers stand for numbers of
-- fibers, its range has room for all that it can start and holds no number from the total on, its port knows whether it has ended, and the numbers that
-- are left, and its clock is the last stamp
pub record IsKept {P S : Type 0} (theory : Theory P S) (port : P) (trace : List Stamped) (clock : ℕ) (s : Machine) : Type 0 where
  pub sound : IsSoundMachine theory.code s
  pub lawful : IsLawful theory.code (theory.facts port).beginning (theory.agrees port) (events_in trace) (stamps_in trace) (counts_of s)
      (progress_of theory.code s)
  pub clocked : clock ≡ last_of (theory.facts port).beginning.stamp (stamps_in trace)
  pub countable : s.masks.entries + s.acquired + (theory.facts port).puts + work_left (progress_of theory.code s) < 2 ^ 63
  pub scoped : IsProgressScopedOver is_fiber_number (progress_of theory.code s)
  pub room : s.next + need_left (progress_of theory.code s) ≤ s.end
  pub word : s.end < 2 ^ 32
  pub within : s.end ≤ theory.total
  pub ended : (theory.facts port).has_finished ≡ has_ended (progress_of theory.code s)
  pub numbers : (theory.facts port).range ≡ range_of (counts_of s)
