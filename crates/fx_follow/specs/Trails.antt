-- The steps of a fiber, one after the other, with where it stood before each one that shows an event, and of whose end it learned there.
use Rattle.std.specs.Prelude.{◌≡◌, ℕ, false, Option, Some, None, MatchOption, All, List, [], ◌∷◌, ◌++◌}
use Rattle.fx_term.specs.declared.node.Node.{Node}
use Rattle.fx_term.specs.declared.node.NodeId.{NodeId}
use Rattle.fx_term.specs.declared.outcome.Outcome.{Outcome}
use Rattle.fx_term.specs.Lists.{Among}
use Rattle.fx_model.specs.Origin.{Origin}
use Rattle.fx_model.specs.Outside.{Outside, can_step}
use Rattle.fx_model.specs.Report.{FiberReportView}
use Rattle.fx_model.specs.Row.{Counts, Label, Silent, Learns, Starts}
use Rattle.fx_model.specs.Run.{first_counts, events}
use Rattle.fx_model.specs.Step.{Progress, Runs, Step, has_ended, leaf_at}
use Rattle.fx_fiber.specs.Fiber.{FiberView, progress, IsAtFirst}
use Rattle.fx_fiber.specs.NodePlaces.{is_open_at, IsPlaceOf, HasNoNode}
use Rattle.fx_fiber.specs.PortFacts.{Facts}
use Rattle.fx_plain.specs.ToldRun.{learned_by}
use Rattle.fx_follow.specs.declared.stand.Stand.{Stand}

-- that is the node where a fiber stands that is so far: one of the code, with some numbers for its names; or none, where its place has none of its own
abbrev pub IsNodeAt : List Node → Progress → Option NodeId → Type 0
IsNodeAt nodes p here = MatchOption here (HasNoNode (leaf_at p)) (λ id. (numbers : List ℕ) × IsPlaceOf nodes numbers (leaf_at p) id)

-- the last node at which a fiber stood that stands here now: the one here, or, where its place has none of its own, the last one before
abbrev pub last_node_after : Option NodeId → Option NodeId → Option NodeId
last_node_after before None = before
last_node_after before (Some id) = Some id

-- What is told of a step with this label, of a fiber that is so far, and stood last at that node before: the node where it stands; that one or, where the
-- place has none of its own, the one before; whether the place is open; and of whose end the step learns
pub record IsStandAt (nodes : List Node) (p : Progress) (before : Option NodeId) (l : Label) (stand : Stand) : Type 0 where
  pub node : IsNodeAt nodes p stand.node
  pub last_node : stand.last_node ≡ last_node_after before stand.node
  pub is_open : stand.is_open ≡ is_open_at p
  pub learned : stand.learned ≡ learned_by l

-- What is told of a step with this label from there, if it shows an event, of a fiber whose last node is the one before it and the other one after it. Of a
-- silent step nothing is told, but it is made at some place, too, whose node counts
abbrev pub TellsStep : List Node → Progress → Option NodeId → Label → List Stand → Option NodeId → Type 0
TellsStep nodes p before Silent stands after = (stands ≡ []) × (here : Option NodeId) × IsNodeAt nodes p here × (after ≡ last_node_after before here)
TellsStep nodes p before l stands after = (stand : Stand) × (stands ≡ stand ∷ []) × IsStandAt nodes p before l stand × (after ≡ stand.last_node)

-- from these counts, this progress and this last node the steps with these labels lead to those, and that is told of them
abbrev pub LeadsTelling : List Node → Counts → Progress → Option NodeId → List Label → List Stand → Counts → Progress → Option NodeId → Type 0
LeadsTelling nodes c p before [] stands d q after = (stands ≡ []) × (d ≡ c) × (q ≡ p) × (after ≡ before)
LeadsTelling nodes c p before (l ∷ ls) stands d q after =
    (e : Counts) × (m : Progress) × (last : Option NodeId) × (here : List Stand) × (rest : List Stand) × Step c p l e m
    × TellsStep nodes p before l here last × (stands ≡ here ++ rest) × LeadsTelling nodes e m last ls rest d q after

-- a fiber that begins so comes there by the steps with these labels, and that is told of them; before the first one it had stood at no node
abbrev pub IsRunTelling : List Node → Origin → List Label → List Stand → Counts → Progress → Type 0
IsRunTelling nodes b ls stands d q = (last : Option NodeId) × LeadsTelling nodes (first_counts b) (Runs b.term) None ls stands d q last

-- a step that learns how a fiber ended learns what these outcomes say
abbrev pub LearnsFrom : (ℕ → Option Outcome) → Label → Type 0
LearnsFrom outcome (Learns g o e) = outcome g ≡ Some o
LearnsFrom outcome _ = Unit {0}

-- the child is before its first step, has that number, and begins so
pub record IsChild (nodes : List Node) (g : ℕ) (b : Origin) (child : FiberView Facts) : Type 0 where
  pub number : child.port.number ≡ g
  pub first : IsAtFirst nodes b child

-- each of these fibers is before its first step
abbrev pub AreAtFirst : List Node → List (FiberView Facts) → Type 0
AreAtFirst nodes fibers = (f : FiberView Facts) → Among f fibers → (b : Origin) × IsAtFirst nodes b f

-- the fiber that a step starts is one of these
abbrev pub StartsOneOf : List Node → List (FiberView Facts) → Label → Type 0
StartsOneOf nodes children (Starts g b) = (child : FiberView Facts) × Among child children × IsChild nodes g b child
StartsOneOf nodes children _ = Unit {0}

-- A fiber that began so came to where it is by steps that learn what these outcomes say and start these fibers, and that is told of them. That is the last
-- node at which it stood before one of them
pub record IsTrail (nodes : List Node) (outcome : ℕ → Option Outcome) (b : Origin) (f : FiberView Facts) (last : Option NodeId) (stands : List Stand)
    (children : List (FiberView Facts)) : Type 0 where
  pub labels : List Label
  pub leads : LeadsTelling nodes (first_counts b) (Runs b.term) None labels stands f.counts (progress nodes f) last
  pub trace : events labels ≡ f.trace
  pub learnt : All (LearnsFrom outcome) labels
  pub starts : All (StartsOneOf nodes children) labels
  pub begun : AreAtFirst nodes children

-- Where the fibers see this outside themselves at the end, it has come to the end that the report tells of fiber x: it has shown the whole trace, has ended
-- or not, and cannot step
pub record IsWhole (nodes : List Node) (o : Outside) (x : FiberReportView) (f : FiberView Facts) : Type 0 where
  pub trace : f.trace ≡ x.trace
  pub state : has_ended (progress nodes f) ≡ x.has_ended
  pub unable : can_step o x.id f.counts (progress nodes f) ≡ false
