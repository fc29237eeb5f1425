-- What the fibers of a run are at names no queue but those that the script's term names, and so does what they wait for.
use Rattle.std.proofs.Common.{◌≡◌, ℕ, Option, Some, None, List, [], ◌∷◌, refl, sym, ◌∙◌, ap}
use Rattle.std.proofs.lemmas.Option.{none-some}
use Rattle.fx_term.specs.QueuesNamed.{NamesQueuesBelow}
use Rattle.fx_term.specs.Script.{ScriptView}
use Rattle.fx_model.specs.Row.{Label}
use Rattle.fx_model.specs.declared.source.Source.{Source}
use Rattle.fx_model.proofs.QueueNames.{ProgressNamesBelow, LabelNamesBelow, step_names}
use Rattle.fx_report.specs.Waits.{IsAtQueueBelow}
use Rattle.fx_report.proofs.BlockedFibers.{source_named}
use Rattle.fx_plain.specs.WholeMachine.{StartedFiber, WholeMachine, Move, Steps, Requests, opening, FiberSteps, WholeMachineLeads, IsWholeMachineRun}
use Rattle.fx_plain.specs.Waits.{source_of_fiber}
use Rattle.fx_plain.proofs.WholeMachineSteps.{Comes, itself, child, other, comes}
use Rattle.fx_plain.proofs.RangesKept.{opened_at}

module _ (n : ℕ) where
  -- each fiber that has started
  abbrev pub AreNamed : WholeMachine → Type 0
  AreNamed m = (f : ℕ) (x : StartedFiber) → m.fibers f ≡ Some x → ProgressNamesBelow n x.progress

  pub step_named : (s : ScriptView) (m : WholeMachine) (f : ℕ) (l : Label) (m' : WholeMachine) → FiberSteps s m f l m' → AreNamed m → AreNamed m'
  step_named s m f l m' st named h y e =
      by_origin (comes m f st.fiber st.counts st.progress l h y (sym (ap (λ (k : WholeMachine). k.fibers h) st.after) ∙ e))
    where
      stepped_names : ProgressNamesBelow n st.progress × LabelNamesBelow n l
      stepped_names = step_names n st.step (named f st.fiber st.started)

      by_origin : Comes m f st.fiber l st.counts st.progress h y → ProgressNamesBelow n y.progress
      by_origin (itself same is) = rw is stepped_names.0
      by_origin (child {b = b} ne label is) = rw is (rw label at stepped_names.1)
      by_origin (other ne at) = named h y at

  leads_named : (s : ScriptView) (m : WholeMachine) (vs : List Move) (last : WholeMachine) → WholeMachineLeads s m vs last → AreNamed m → AreNamed last
  leads_named s m [] last r named = rw r named
  leads_named s m (Steps f l ∷ vs) last r named = leads_named s r.0 vs last r.2 (step_named s m f l r.0 r.1 named)
  leads_named s m (Requests f ∷ vs) last r named = leads_named s r.0 vs last r.2 (rw r.1.1 (λ h y e. named h y e))

  pub run_named : (s : ScriptView) (vs : List Move) (last : WholeMachine) → NamesQueuesBelow n s.term → IsWholeMachineRun s vs last → AreNamed last
  run_named s vs last term r = leads_named s (opening s) vs last r (λ f x e. let o = opened_at s f x e in rw o.1 term)

  -- so what a fiber waits for
  pub named_source : (z : Option StartedFiber) (w : Source) → ((x : StartedFiber) → z ≡ Some x → ProgressNamesBelow n x.progress)
      → source_of_fiber z ≡ Some w → IsAtQueueBelow n w
  named_source None w named e = absurd (none-some w e)
  named_source (Some x) w named e = source_named n x.progress w (named x refl) e
