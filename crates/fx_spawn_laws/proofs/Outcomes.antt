-- What the run of an unrequested fiber comes to: the outcome that its labels show at the end, or none.
use Rattle.std.proofs.Common.{◌≡◌, ℕ, Bool, true, false, Option, Some, None, List, ◌∷◌, refl, ◌∙◌, ap}
use Rattle.std.specs.Prelude.{◌&&◌, ◌||◌}
use Rattle.std.proofs.lemmas.Bool.{or_right}
use Rattle.fx_term.specs.declared.outcome.Outcome.{Outcome}
use Rattle.fx_term.specs.declared.node.Arg.TheVariants.{Number}
use Rattle.fx_term.specs.declared.done.Done.TheVariants.{Val, Err}
use Rattle.fx_term.specs.declared.outcome.Outcome.TheVariants.{Succeeded, Errored}
use Rattle.fx_term.specs.declared.event.Event.TheVariants as event
use Rattle.fx_term.specs.Term.{Term, Pure, Raise, Never, Finished}
use Rattle.fx_term.specs.Script.{ScriptView}
use Rattle.fx_model.specs.Path.{leaf, is_open, must_cancel}
use Rattle.fx_model.specs.Row.{Counts, Label, Silent, Shows}
use Rattle.fx_model.specs.Step.{Progress, Runs, HasEnded, leaf_at}
use Rattle.fx_model.specs.Run.{events}
use Rattle.fx_model.specs.Outside.{leaf_can_step, can_step}
use Rattle.fx_model.specs.Report.{ReportView, outcome_shown, is_requested_in, final_outside}
use Rattle.fx_model.proofs.ComputedSteps.{Next, next}
use Rattle.fx_spawn_laws.proofs.HaltingRuns.{LeftWaits, answers, RunsToHalt, goes_to, stays}

module _ (s : ScriptView) (r : ReportView) (f : ℕ) where
  -- each run from here that sees no request and goes on to where the fiber cannot step shows this outcome, or none
  abbrev pub ComesTo : Counts → Progress → Option Outcome → Type 0
  ComesTo c p v = (ls : List Label) → RunsToHalt s r f c p ls → outcome_shown (events ls) ≡ v

  -- the next step, whatever the queues are
  abbrev pub NextIs : Counts → Progress → Next → Type 0
  NextIs c p n = (room : ℕ → Bool) (front : ℕ → Option ℕ) → next (answers s r room front) c p ≡ Some n

  abbrev pub CanStep : Counts → Progress → Type 0
  CanStep c p = can_step (final_outside s r) f c p ≡ true

  -- a fiber whose leaf does not wait can step
  pub can_by_leaf : (c : Counts) (t : Term) → leaf_can_step (final_outside s r) (leaf t) ≡ true → CanStep c (Runs t)
  can_by_leaf c t e = or_right (must_cancel c.known t || (is_open t && is_requested_in r f)) (leaf_can_step (final_outside s r) (leaf t)) e

  -- a step that shows no end
  pub after_step : (c : Counts) (p : Progress) (n : Next) (v : Option Outcome) → CanStep c p → LeftWaits s r (leaf_at p) → NextIs c p n
      → ((ls : List Label) → outcome_shown (events (n.label ∷ ls)) ≡ outcome_shown (events ls)) → ComesTo n.counts n.progress v → ComesTo c p v
  after_step c p n v can left is quiet later ls run =
      let g = goes_to s r f c p ls n run can left is in ap (λ (ms : List Label). outcome_shown (events ms)) g.is ∙ quiet g.labels ∙ later g.labels g.rest

  -- the last step
  pub at_end : (c : Counts) (p : Progress) (n : Next) (o : Outcome) → CanStep c p → LeftWaits s r (leaf_at p) → NextIs c p n
      → ((ls : List Label) → outcome_shown (events (n.label ∷ ls)) ≡ Some o) → ComesTo c p (Some o)
  at_end c p n o can left is shows ls run =
      let g = goes_to s r f c p ls n run can left is in ap (λ (ms : List Label). outcome_shown (events ms)) g.is ∙ shows g.labels

  -- none
  pub where_it_waits : (c : Counts) (p : Progress) → can_step (final_outside s r) f c p ≡ false
      → ((room : ℕ → Bool) (front : ℕ → Option ℕ) → next (answers s r room front) c p ≡ None) → LeftWaits s r (leaf_at p) → ComesTo c p None
  where_it_waits c p cannot none left ls run = ap (λ (ms : List Label). outcome_shown (events ms)) (stays s r f c p ls run cannot none left)

  -- a value, and an error
  pub pure_comes : (c : Counts) → c.known ≡ false → (n : ℕ) → ComesTo c (Runs (Pure (Number n))) (Some (Succeeded n))
  pure_comes c free n =
      after_step c (Runs (Pure (Number n))) (record { label = Silent; counts = c; progress = Runs (Finished (Val n)) }) (Some (Succeeded n))
      (can_by_leaf c (Pure (Number n)) refl) tt (λ room front. rw free refl) (λ ls. refl)
      (at_end c (Runs (Finished (Val n))) (record { label = Shows (event.Ended (Succeeded n)); counts = c; progress = HasEnded (Succeeded n) }) (Succeeded n)
      (can_by_leaf c (Finished (Val n)) refl) tt (λ room front. rw free refl) (λ ls. refl))

  pub raise_comes : (c : Counts) → c.known ≡ false → (n : ℕ) → ComesTo c (Runs (Raise (Number n))) (Some (Errored n))
  raise_comes c free n =
      after_step c (Runs (Raise (Number n))) (record { label = Silent; counts = c; progress = Runs (Finished (Err n)) }) (Some (Errored n))
      (can_by_leaf c (Raise (Number n)) refl) tt (λ room front. rw free refl) (λ ls. refl)
      (at_end c (Runs (Finished (Err n))) (record { label = Shows (event.Ended (Errored n)); counts = c; progress = HasEnded (Errored n) }) (Errored n)
      (can_by_leaf c (Finished (Err n)) refl) tt (λ room front. rw free refl) (λ ls. refl))

  -- a fiber at `never` that nobody requests stays there
  pub never_comes : is_requested_in r f ≡ false → (c : Counts) → c.known ≡ false → ComesTo c (Runs Never) None
  never_comes quiet c free = where_it_waits c (Runs Never) (rw (quiet, free) refl) (λ room front. rw free refl) tt
