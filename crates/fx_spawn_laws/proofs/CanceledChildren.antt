-- The runs of two leaves that end in no way but as canceled.
use Rattle.std.proofs.Common.{◌≡◌, ℕ, true, false, Some, List, [], ◌∷◌, refl, ap}
use Rattle.fx_term.specs.declared.outcome.Outcome.TheVariants as outcome
use Rattle.fx_term.specs.Term.{Canceled, Never}
use Rattle.fx_model.specs.Row.{Counts, Label, known_canceled}
use Rattle.fx_model.specs.Row as row
use Rattle.fx_model.specs.Origin.{Origin}
use Rattle.fx_model.specs.Step.{Progress, Runs, Unwinds, HasEnded, Step}
use Rattle.fx_model.specs.Step as step
use Rattle.fx_model.specs.Run.{first_counts, Leads}
use Rattle.fx_model.specs.Outside.{Outside, outcome_at, can_step}
use Rattle.fx_model.proofs.OutcomeLaws.{no_step_after_end}
use Rattle.fx_model.proofs.Paths.{no_context}

module _ (o : Outside) (f : ℕ) where
  after_end : (c d : Counts) (q : Progress) (ls : List Label) → Leads c (HasEnded outcome.Canceled) ls d q → outcome_at q ≡ Some outcome.Canceled
  after_end c d q [] h = ap outcome_at h.1
  after_end c d q (l ∷ ls) h = absurd (no_step_after_end outcome.Canceled h.2 refl)

  -- a fiber that unwinds with no clean-up
  unwinds : (c d : Counts) (q : Progress) (ls : List Label) → Leads c (Unwinds []) ls d q → can_step o f d q ≡ false
      → outcome_at q ≡ Some outcome.Canceled
  unwinds c d q [] h unable = absurd (let e : can_step o f c (Unwinds []) ≡ false = rw (h.0, h.1) at unable in cc)
  unwinds c d q (l ∷ ls) h unable = by_step h.2 h.3
    where
      by_step : {e : Counts} {m : Progress} {l : Label} → Step c (Unwinds []) l e m → Leads e m ls d q → outcome_at q ≡ Some outcome.Canceled
      by_step step.unwound rest = after_end c d q ls rest

  -- `canceled`
  pub canceled_ends : (b : Origin) (d : Counts) (q : Progress) (ls : List Label) → Leads (first_counts b) (Runs Canceled) ls d q
      → can_step o f d q ≡ false → outcome_at q ≡ Some outcome.Canceled
  canceled_ends b d q [] h unable = absurd (let e : can_step o f (first_counts b) (Runs Canceled) ≡ false = rw (h.0, h.1) at unable in cc)
  canceled_ends b d q (l ∷ ls) h unable = by_step h.2 h.3
    where
      by_step : {e : Counts} {m : Progress} {l : Label} → Step (first_counts b) (Runs Canceled) l e m → Leads e m ls d q
          → outcome_at q ≡ Some outcome.Canceled
      by_step (step.cancelled must) rest = unwinds (first_counts b) d q ls rest unable
      by_step (step.seen free open_here) rest = absurd cc
      by_step (step.row free r) rest = absurd cc

  -- `never`, of a fiber that knows that it is canceled
  known_ends : (b : Origin) (d : Counts) (q : Progress) (ls : List Label) → Leads (known_canceled (first_counts b)) (Runs Never) ls d q
      → can_step o f d q ≡ false → outcome_at q ≡ Some outcome.Canceled
  known_ends b d q [] h unable = absurd (let e : can_step o f (known_canceled (first_counts b)) (Runs Never) ≡ false = rw (h.0, h.1) at unable in cc)
  known_ends b d q (l ∷ ls) h unable = by_step h.2 h.3
    where
      by_step : {e : Counts} {m : Progress} {l : Label} → Step (known_canceled (first_counts b)) (Runs Never) l e m → Leads e m ls d q
          → outcome_at q ≡ Some outcome.Canceled
      by_step (step.cancelled must) rest = unwinds (known_canceled (first_counts b)) d q ls rest unable
      by_step (step.seen free open_here) rest = absurd cc
      by_step (step.row free r) rest = absurd cc

  -- of one that is requested
  pub requested_ends : o.is_requested f ≡ true → (b : Origin) (d : Counts) (q : Progress) (ls : List Label) → Leads (first_counts b) (Runs Never) ls d q
      → can_step o f d q ≡ false → outcome_at q ≡ Some outcome.Canceled
  requested_ends asked b d q [] h unable =
      absurd (let e : can_step o f (first_counts b) (Runs Never) ≡ false = rw (h.0, h.1) at unable in let k : o.is_requested f ≡ true = asked in cc)
  requested_ends asked b d q (l ∷ ls) h unable = by_step h.2 h.3
    where
      by_step : {e : Counts} {m : Progress} {l : Label} → Step (first_counts b) (Runs Never) l e m → Leads e m ls d q
          → outcome_at q ≡ Some outcome.Canceled
      by_step (step.cancelled must) rest = absurd cc
      by_step (step.seen free open_here) rest = known_ends b d q ls rest unable
      by_step (step.row free (row.inside g e k r)) rest = absurd (no_context g _ _ refl e)
