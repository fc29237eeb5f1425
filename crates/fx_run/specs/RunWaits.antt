-- What the fibers wait for that are blocked at the end of a run on threads, and where they stand.
use Rattle.std.specs.Prelude.{◌≡◌, ℕ, Option, Some, MatchOption, option_and_then, option_map, List, map, All, Contains}
use Rattle.std.specs.List.{filter_map}
use Rattle.fx_term.specs.declared.node.Node.{Node}
use Rattle.fx_model.specs.Step.{Progress, leaf_at}
use Rattle.fx_model.specs.Report.{ReportView}
use Rattle.fx_model.specs.Waiting.{wait_at}
use Rattle.fx_model.specs.declared.source.Source.{Source}
use Rattle.fx_fiber.specs.Bare.{BareView, reached}
use Rattle.fx_fiber.specs.NodePlaces.{IsPlaceOf, HasNoNode}
use Rattle.fx_report.specs.declared.blocked.Blocked.{Blocked}
use Rattle.fx_report.specs.declared.wait.Wait.{Wait}
use Rattle.fx_report.specs.Waits.{blocked_in, waits_in}

-- those that the report has as blocked, in its order and no others, each with what its leaf waits for where its run has come to
pub record AreWaitsAt (progress : ℕ → Progress) (r : ReportView) (waits : List Wait) : Type 0 where
  pub blocked : map (λ (w : Wait). w.fiber) waits ≡ blocked_in r
  pub sources : All (λ (w : Wait). option_and_then wait_at (leaf_at (progress w.fiber)) ≡ Some w.source) waits

-- where its run has come to its fiber stands at that node, with some numbers for the names of the node; or its leaf is of no node
abbrev pub StandsAt : List Node → (ℕ → Progress) → Blocked → Type 0
StandsAt nodes progress b = MatchOption b.node (HasNoNode (leaf_at (progress b.wait.fiber)))
    (λ id. (numbers : List ℕ) × IsPlaceOf nodes numbers (leaf_at (progress b.wait.fiber)) id)

pub record AreBlockedAt (nodes : List Node) (progress : ℕ → Progress) (r : ReportView) (blocked : List Blocked) : Type 0 where
  pub waits : AreWaitsAt progress r (waits_in blocked)
  pub stand : All (StandsAt nodes progress) blocked

-- what a fiber waits for where it stands, if it stands where one can wait; and those that do, in this order
abbrev pub wait_of : BareView → Option Wait
wait_of x = option_map (λ (w : Source). record { fiber = x.id; source = w }) (option_and_then wait_at (leaf_at (reached x)))

abbrev pub all_waits : List BareView → List Wait
all_waits bares = filter_map wait_of bares

-- it is this fiber, which stands at that node, with what the names of the node stand for there; or one of these fibers
pub record StandsAs (x : BareView) (b : Blocked) : Type 0 where
  pub fiber : b.wait.fiber ≡ x.id
  pub node : MatchOption b.node (HasNoNode (leaf_at (reached x))) (IsPlaceOf x.nodes x.registers (leaf_at (reached x)))

abbrev pub StandsAmong : List BareView → Blocked → Type 0
StandsAmong bares b = (x : BareView) × Contains bares x × StandsAs x b
