-- The labels of a fiber's steps go on as a run of the whole machine does; one that has ended has shown that last.
use Rattle.std.proofs.Common.{◌≡◌, ℕ, Option, Some, None, List, [], ◌∷◌, ◌++◌, refl, sym, ◌∙◌, ap, append-nil, append_assoc, inl, inr}
use Rattle.std.proofs.lemmas.Bool.{cases_eq}
use Rattle.std.proofs.lemmas.Option.{none-some}
use Rattle.fx_term.specs.declared.outcome.Outcome.{Outcome}
use Rattle.fx_term.specs.Script.{ScriptView}
use Rattle.fx_model.specs.Row.{Label}
use Rattle.fx_model.specs.Run.{events}
use Rattle.fx_model.specs.LawfulReport.{EndsWith}
use Rattle.fx_model.proofs.OutcomeLaws.{run_stops}
use Rattle.fx_text.specs.declared.pick.Pick.{Pick}
use Rattle.fx_plain.specs.WholeMachine.{StartedFiber, WholeMachine, Move, FiberSteps, outcome_of_fiber, outcome_of}
use Rattle.fx_plain.specs.Chosen.{IsChosen}
use Rattle.fx_plain.specs.Chosen as chosen
use Rattle.fx_plain.proofs.WholeMachineSteps.{still_itself}
use Rattle.fx_plain.proofs.FamilyKept.{labels_of_fiber, labels_of}
use Rattle.fx_plain.proofs.HistoriesKept.{labels_of_other}
use Rattle.fx_plain.proofs.LawfulRuns.{IsKept, step_keeps, request_keeps}

-- the labels of fiber g in the one machine are the first of those in the other
pub record GoesOn (m last : WholeMachine) (g : ℕ) : Type 0 where
  pub more : List Label
  pub is : labels_of last g ≡ labels_of m g ++ more

pub goes_on_by : (a b c : WholeMachine) (g : ℕ) → GoesOn a b g → GoesOn b c g → GoesOn a c g
goes_on_by a b c g first next = record {
  more = first.more ++ next.more;
  is = next.is ∙ ap (λ (ls : List Label). ls ++ next.more) first.is ∙ append_assoc (labels_of a g) first.more next.more;
}

module _ (s : ScriptView) where
  pub own_label : (m : WholeMachine) (f : ℕ) (l : Label) (m' : WholeMachine) → FiberSteps s m f l m' → labels_of m' f ≡ labels_of m f ++ l ∷ []
  own_label m f l m' st =
      ap (λ (n : WholeMachine). labels_of n f) st.after ∙ ap labels_of_fiber (still_itself m f st.fiber st.counts st.progress l)
      ∙ ap (λ (o : Option StartedFiber). labels_of_fiber o ++ l ∷ []) (sym st.started)

  pub step_goes_on : (m : WholeMachine) (f : ℕ) (l : Label) (m' : WholeMachine) → FiberSteps s m f l m' → IsKept s m → (g : ℕ) → GoesOn m m' g
  step_goes_on m f l m' st k g = elim (cases_eq g f) [
    | inl same ↦ record { more = l ∷ []; is = rw same (own_label m f l m' st) }
    | inr other ↦ record {
      more = [];
      is =
          ap (λ (n : WholeMachine). labels_of n g) st.after
          ∙ labels_of_other s m f st.fiber st.counts st.progress st.started k.ranges k.histories l st.step g other ∙ sym (append-nil (labels_of m g));
    }
  ]

  pub chosen_goes_on : {ps : List Pick} {m last : WholeMachine} {vs : List Move} → IsChosen s ps m vs last → IsKept s m → (g : ℕ) → GoesOn m last g
  chosen_goes_on {last = last} (chosen.step {f = f} {l = l} {m = m} {m' = m'} made rest) k g =
      goes_on_by m m' last g (step_goes_on m f l m' made.steps k g) (chosen_goes_on rest (step_keeps s m f l m' made.steps k) g)
  chosen_goes_on (chosen.no_step cannot rest) k g = chosen_goes_on rest k g
  chosen_goes_on (chosen.request {f = f} {m = m} below rest) k g =
      let on = chosen_goes_on rest (request_keeps s m f below k) g in record { more = on.more; is = on.is }
  chosen_goes_on (chosen.no_request past rest) k g = chosen_goes_on rest k g
  chosen_goes_on {last = last} (chosen.least {f = f} {l = l} {m = m} {m' = m'} is made rest) k g =
      goes_on_by m m' last g (step_goes_on m f l m' made.steps k g) (chosen_goes_on rest (step_keeps s m f l m' made.steps k) g)
  chosen_goes_on (chosen.halts {m = m} none) k g = record { more = []; is = sym (append-nil (labels_of m g)) }

  pub ended_last : (m : WholeMachine) (g : ℕ) (o : Outcome) → IsKept s m → outcome_of m g ≡ Some o → EndsWith (events (labels_of m g)) o
  ended_last m g o k e = by_fiber (m.fibers g) refl
    where
      by_fiber : (z : Option StartedFiber) → m.fibers g ≡ z → EndsWith (events (labels_of m g)) o
      by_fiber None is = absurd (none-some o (sym (ap outcome_of_fiber is) ∙ e))
      by_fiber (Some y) is = rw is (run_stops y.origin y.labels y.counts y.progress o (k.family.runs g y is) (sym (ap outcome_of_fiber is) ∙ e)).ends
