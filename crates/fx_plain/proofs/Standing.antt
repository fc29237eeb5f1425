-- Where the blocked fibers of a machine stand that has halted is told rightly.
use Rattle.std.proofs.Common.{◌≡◌, ℕ, Option, Some, None, List, refl, sym, ◌∙◌, ap, subst}
use Rattle.std.specs.Prelude.{MatchOption}
use Rattle.std.proofs.lemmas.Option.{none-some}
use Rattle.fx_term.specs.declared.node.Node.{Node}
use Rattle.fx_term.specs.Script.{ScriptView}
use Rattle.fx_term.specs.Term.{Term}
use Rattle.fx_model.specs.Step.{leaf_at}
use Rattle.fx_fiber.specs.Fiber.{progress}
use Rattle.fx_fiber.specs.NodePlaces.{IsPlaceOf, HasNoNode}
use Rattle.fx_fiber.proofs.NodePlaces.{with_some_numbers}
use Rattle.fx_report.specs.declared.blocked.Blocked.{Blocked}
use Rattle.fx_plain.specs.Started.{StartedView}
use Rattle.fx_plain.specs.declared.plain_machine.PlainMachine.{PlainMachine}
use Rattle.fx_plain.specs.WholeMachine.{StartedFiber, WholeMachine}
use Rattle.fx_plain.specs.World.{HeldFiber}
use Rattle.fx_plain.specs.PlainMachine.{StandsForRun}
use Rattle.fx_plain.specs.ToldRun.{leaf_of}
use Rattle.fx_plain.specs.Standing.{IsNodeAt, StandsIn, StandsAt}
use Rattle.fx_plain.specs.Waits.{source_of_fiber}
use Rattle.fx_plain.proofs.ToldSteps.{is_held}

module _ {J : Type 0} (nodes : List Node) (s : ScriptView) (p : PlainMachine J) (m : WholeMachine) (so : StandsForRun nodes s p m) where
  -- one that waits for something has started
  pub stands_so : (b : Blocked) → source_of_fiber (m.fibers b.wait.fiber) ≡ Some b.wait.source → StandsIn nodes p b → StandsAt nodes m b
  stands_so b waits here = by_fiber (m.fibers b.wait.fiber) refl
    where
      by_fiber : (z : Option StartedFiber) → m.fibers b.wait.fiber ≡ z → StandsAt nodes m b
      by_fiber None at = absurd (none-some b.wait.source (ap source_of_fiber (sym at) ∙ waits))
      by_fiber (Some x) at =
          let v = is_held nodes s p m b.wait.fiber x so at in
          let far : progress nodes v.view.fiber ≡ x.progress = ap (λ (h : HeldFiber). h.progress) v.is in
          subst (λ (leaf : Option Term). MatchOption b.node (HasNoNode leaf) (λ id. (numbers : List ℕ) × IsPlaceOf nodes numbers leaf id))
          (ap leaf_at far ∙ sym (ap leaf_of at))
          (with_some_numbers nodes v.view.fiber.registers (leaf_at (progress nodes v.view.fiber)) b.node
          (subst (λ (z : Option (StartedView J)). IsNodeAt nodes z b.node) v.at here))
