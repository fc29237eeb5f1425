-- What a fiber has beside its port before its first step.
use Rattle.std.specs.Prelude.{◌≡◌, ℕ, None, List, []}
use Rattle.fx_term.specs.declared.node.Node.{Node}
use Rattle.fx_term.specs.declared.begin.Begin.{Begin}
use Rattle.fx_model.specs.Step.{Runs}
use Rattle.fx_model.specs.Run.{first_counts}
use Rattle.fx_model.specs.Origin.{origin_of}
use Rattle.fx_fiber.specs.Machine.{counts_of, progress_of}
use Rattle.fx_fiber.specs.Sound.{IsSoundMachine}
use Rattle.fx_fiber.specs.declared.machine.Machine.{Machine}
use Rattle.fx_fiber.specs.declared.fiber.body.Body.{Body}

-- the machine of a fiber that begins so, before its first step
pub record IsFirstMachine (nodes : List Node) (begin : Begin) (s : Machine) : Type 0 where
  pub sound : IsSoundMachine nodes s
  pub counts : counts_of s ≡ first_counts (origin_of nodes begin)
  pub progress : progress_of nodes s ≡ Runs (origin_of nodes begin).term

-- with these numbers for the names in scope
abbrev pub with_registers : List ℕ → Machine → Machine
with_registers ns s = record s { registers = ns }

abbrev pub with_slots : List ℕ → Body → Body
with_slots ns b = record b { machine = with_registers ns b.machine }

-- that of a fiber with this number: it has shown nothing, its clock is the stamp that it begins with, and it registered for nothing
pub record IsFirstBody (nodes : List Node) (id : ℕ) (begin : Begin) (b : Body) : Type 0 where
  pub number : b.id ≡ id
  pub trace : b.trace.items ≡ []
  pub clock : b.clock ≡ begin.stamp
  pub machine : IsFirstMachine nodes begin b.machine
  pub source : b.source ≡ None
