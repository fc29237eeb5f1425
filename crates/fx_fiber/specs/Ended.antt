-- What is kept of a fiber that has ended.
use Rattle.std.specs.Prelude.{◌≡◌, ℕ, ◌<◌, true, List, [], None}
use Rattle.fx_term.specs.declared.node.Node.{Node}
use Rattle.fx_term.specs.declared.event.Event.{Event}
use Rattle.fx_term.specs.Stamped.{events_in, stamps_in}
use Rattle.fx_model.specs.Row.{Counts}
use Rattle.fx_model.specs.Scopes.{IsProgressScopedOver}
use Rattle.fx_model.specs.Step.{HasEnded}
use Rattle.fx_fiber.specs.declared.bare.Kept.{Kept}
use Rattle.fx_fiber.specs.declared.bare.Kept.TheVariants.{Standing, Over}
use Rattle.fx_fiber.specs.declared.ended.Counted.{Counted}
use Rattle.fx_fiber.specs.declared.ended.Ended.{Ended}
use Rattle.fx_fiber.specs.declared.machine.focus.Focus.TheVariants as focus
use Rattle.fx_fiber.specs.Bare.{BareView, bare_at}
use Rattle.fx_fiber.specs.Fiber.{FiberView, IsLawful, is_fiber_number, progress}
use Rattle.fx_fiber.specs.Machine.{progress_of}
use Rattle.fx_fiber.specs.Sound.{IsSoundMachine}
use Rattle.fx_fiber.specs.Theory.{Theory}

abbrev pub id_of : Ended → ℕ
id_of e = e.id

abbrev pub trace_of : Ended → List Event
trace_of e = events_in e.trace.items

abbrev pub stamps_of : Ended → List ℕ
stamps_of e = stamps_in e.trace.items

abbrev pub counted : Counted → Counts
counted c = record { masks = c.masks; acquired = c.acquired; next = c.next; end = c.end; known = c.known }

abbrev pub counts_in : Ended → Counts
counts_in e = counted e.counted

-- the fiber of this code without its port: there are no contexts left, and no names in scope
abbrev pub ended_bare : List Node → Ended → BareView
ended_bare nodes e = record {
  nodes = nodes;
  id = e.id;
  trace = events_in e.trace.items;
  stamps = stamps_in e.trace.items;
  counts = counts_in e;
  registers = [];
  frames = [];
  closed = [];
  cleanups = None;
  focus = focus.Ended e.outcome;
}

-- the fiber with this port
abbrev pub ended_fiber : {P : Type 0} → P → Ended → FiberView P
ended_fiber port e = record {
  port = port;
  trace = events_in e.trace.items;
  stamps = stamps_in e.trace.items;
  counts = counts_in e;
  registers = [];
  frames = [];
  closed = [];
  cleanups = None;
  focus = focus.Ended e.outcome;
  source = None;
}

-- what is kept of a fiber without its port is that fiber
abbrev pub bare_in : List Node → Kept → BareView
bare_in nodes (Standing b) = bare_at nodes b.value.id b.value.trace.items b.value.machine
bare_in nodes (Over e) = ended_bare nodes e

-- where a fiber has not given its machine back, that is sound, and its names are bound
abbrev pub IsKeptSound : List Node → Kept → Type 0
IsKeptSound nodes (Standing b) = IsSoundMachine nodes b.value.machine × IsProgressScopedOver is_fiber_number (progress_of nodes b.value.machine)
IsKeptSound nodes (Over e) = Unit {0}

-- what is kept and the port are those of a fiber of this theory that has ended: they agree as its two parts do
pub record IsEnded {P S : Type 0} (theory : Theory P S) (port : P) (e : Ended) : Type 0 where
  pub id : id_of e ≡ (theory.facts port).number
  pub below : id_of e < theory.total
  pub lawful : IsLawful theory.code (theory.facts port).beginning (theory.agrees port) (trace_of e) (stamps_of e) (counts_in e) (HasEnded e.outcome)
  pub finished : (theory.facts port).has_finished ≡ true

-- the fiber has come to what is kept
pub record IsEndOf {P : Type 0} (nodes : List Node) (f : FiberView P) (e : Ended) : Type 0 where
  pub trace : trace_of e ≡ f.trace
  pub stamps : stamps_of e ≡ f.stamps
  pub counts : counts_in e ≡ f.counts
  pub ended : progress nodes f ≡ HasEnded e.outcome
