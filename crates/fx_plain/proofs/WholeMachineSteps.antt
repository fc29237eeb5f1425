-- Where the fibers of a whole machine come from after a step, and what a step leaves as it was.
use Rattle.std.proofs.Common.{◌≡◌, ℕ, Bool, true, Some, None, refl, sym, ◌∙◌, ap, inl, inr}
use Rattle.std.proofs.lemmas.Bool.{cases_eq}
use Rattle.std.proofs.lemmas.Option.{none-some, same_Some}
use Rattle.fx_term.specs.declared.outcome.Outcome.{Outcome}
use Rattle.fx_term.specs.declared.event.Event.TheVariants as event
use Rattle.fx_model.specs.Row.{Counts, Label, Silent, Shows, Learns, Starts}
use Rattle.fx_model.specs.Origin.{Origin}
use Rattle.fx_model.specs.Step.{Progress, HasEnded, Step}
use Rattle.fx_model.specs.Outside.{outcome_at}
use Rattle.fx_model.proofs.OutcomeLaws.{no_step_after_end}
use Rattle.fx_term.specs.Maps.{with_at}
use Rattle.fx_plain.specs.WholeMachine.{StartedFiber, WholeMachine, begun, fibers_after, stepped, moved, requested_after, requested_from_outside}
use Rattle.fx_term.proofs.MapLaws.{at_that, at_other}
use Rattle.fx_plain.proofs.Maps.{at_itself}

-- a fiber after a step of fiber f: that one itself, the one that it started, or another one
pub data Comes (m : WholeMachine) (f : ℕ) (x : StartedFiber) (l : Label) (d : Counts) (q : Progress) (h : ℕ) (y : StartedFiber) : Type 0 where
  itself : h ≡ f → y ≡ stepped x l d q → Comes m f x l d q h y
  child : {b : Origin} → (h ≡ f → ⊥) → l ≡ Starts h b → y ≡ begun (Some f) b → Comes m f x l d q h y
  other : (h ≡ f → ⊥) → m.fibers h ≡ Some y → Comes m f x l d q h y

module _ (m : WholeMachine) (f : ℕ) (x : StartedFiber) (d : Counts) (q : Progress) where
  comes_of_other : (l : Label) (h : ℕ) (y : StartedFiber) → (h ≡ f → ⊥) → fibers_after f l m.fibers h ≡ Some y → Comes m f x l d q h y
  comes_of_other Silent h y ne e = other ne e
  comes_of_other (Shows v) h y ne e = other ne e
  comes_of_other (Learns g o v) h y ne e = other ne e
  comes_of_other (Starts g b) h y ne e = elim (cases_eq h g) [
    | inl same ↦ child {b = b} ne (ap (λ (k : ℕ). Starts k b) (sym same)) (sym (same_Some _ _ (sym (at_that g (Some (begun (Some f) b)) m.fibers h same) ∙ e)))
    | inr apart ↦ other ne (sym (at_other g (Some (begun (Some f) b)) m.fibers h apart) ∙ e)
  ]

  pub comes : (l : Label) (h : ℕ) (y : StartedFiber) → (moved m f x l d q).fibers h ≡ Some y → Comes m f x l d q h y
  comes l h y e = elim (cases_eq h f) [
    | inl same ↦ itself same (sym (same_Some _ _ (sym (at_that f (Some (stepped x l d q)) (fibers_after f l m.fibers) h same) ∙ e)))
    | inr apart ↦ comes_of_other l h y apart (sym (at_other f (Some (stepped x l d q)) (fibers_after f l m.fibers) h apart) ∙ e)
  ]

  -- the fiber that is started has not started yet
  abbrev pub IsFresh : Label → Type 0
  IsFresh (Starts g b) = m.fibers g ≡ None
  IsFresh _ = Unit {0}

  after_other : (l : Label) (h : ℕ) (y : StartedFiber) → IsFresh l → m.fibers h ≡ Some y → fibers_after f l m.fibers h ≡ Some y
  after_other Silent h y fresh e = e
  after_other (Shows v) h y fresh e = e
  after_other (Learns g o v) h y fresh e = e
  after_other (Starts g b) h y fresh e = at_other g (Some (begun (Some f) b)) m.fibers h (λ same. none-some y (sym fresh ∙ ap m.fibers (sym same) ∙ e)) ∙ e

  pub still_itself : (l : Label) → (moved m f x l d q).fibers f ≡ Some (stepped x l d q)
  still_itself l = at_itself f (Some (stepped x l d q)) (fibers_after f l m.fibers)

  pub still_other : (l : Label) (h : ℕ) (y : StartedFiber) → (h ≡ f → ⊥) → IsFresh l → m.fibers h ≡ Some y → (moved m f x l d q).fibers h ≡ Some y
  still_other l h y ne fresh e = at_other f (Some (stepped x l d q)) (fibers_after f l m.fibers) h ne ∙ after_other l h y fresh e

  pub child_is_there : (g : ℕ) (b : Origin) → (g ≡ f → ⊥) → (moved m f x (Starts g b) d q).fibers g ≡ Some (begun (Some f) b)
  child_is_there g b ne =
      at_other f (Some (stepped x (Starts g b) d q)) (fibers_after f (Starts g b) m.fibers) g ne ∙ at_itself g (Some (begun (Some f) b)) m.fibers

  after_none : (l : Label) (n : ℕ) → ((g : ℕ) (b : Origin) → l ≡ Starts g b → n ≡ g → ⊥) → m.fibers n ≡ None → fibers_after f l m.fibers n ≡ None
  after_none Silent n ne e = e
  after_none (Shows v) n ne e = e
  after_none (Learns g o v) n ne e = e
  after_none (Starts g b) n ne e = at_other g (Some (begun (Some f) b)) m.fibers n (ne g b refl) ∙ e

  -- a fiber that has not started, and is not started, has not started
  pub still_none : (l : Label) (n : ℕ) → (n ≡ f → ⊥) → ((g : ℕ) (b : Origin) → l ≡ Starts g b → n ≡ g → ⊥) → m.fibers n ≡ None
      → (moved m f x l d q).fibers n ≡ None
  still_none l n ne started e = at_other f (Some (stepped x l d q)) (fibers_after f l m.fibers) n ne ∙ after_none l n started e

-- a fiber that has started goes on: from what it began with, by who started it, and as it ended
pub record GoesOn (m' : WholeMachine) (h : ℕ) (y : StartedFiber) : Type 0 where
  pub fiber : StartedFiber
  pub at : m'.fibers h ≡ Some fiber
  pub origin : fiber.origin ≡ y.origin
  pub parent : fiber.parent ≡ y.parent
  pub ended : (o : Outcome) → y.progress ≡ HasEnded o → fiber.progress ≡ HasEnded o

-- what was started, requested and ended stays so
pub record Grows (m m' : WholeMachine) : Type 0 where
  pub fibers : (h : ℕ) (y : StartedFiber) → m.fibers h ≡ Some y → GoesOn m' h y
  pub requested : (h : ℕ) → m.requested h ≡ true → m'.requested h ≡ true

pub with_true : (g : ℕ) (requested : ℕ → Bool) (h : ℕ) → requested h ≡ true → with_at g true requested h ≡ true
with_true g requested h e = elim (cases_eq h g) [ inl same ↦ at_that g true requested h same | inr apart ↦ at_other g true requested h apart ∙ e ]

requests_stay : (l : Label) (requested : ℕ → Bool) (h : ℕ) → requested h ≡ true → requested_after l requested h ≡ true
requests_stay (Shows (event.Request g)) requested h e = with_true g requested h e
requests_stay _ requested h e = e

pub step_grows : (m : WholeMachine) (f : ℕ) (x : StartedFiber) (l : Label) (d : Counts) (q : Progress) → m.fibers f ≡ Some x → Step x.counts x.progress l d q
    → IsFresh m f x d q l → Grows m (moved m f x l d q)
step_grows m f x l d q at s fresh = record {
  fibers = λ h y e. elim (cases_eq h f) [
    | inl same ↦ by_same h y same (same_Some x y (sym at ∙ ap m.fibers (sym same) ∙ e))
    | inr apart ↦ record { fiber = y; at = still_other m f x d q l h y apart fresh e; origin = refl; parent = refl; ended = λ o p. p }
  ];
  requested = λ h e. requests_stay l m.requested h e;
}
  where
    by_same : (h : ℕ) (y : StartedFiber) → h ≡ f → x ≡ y → GoesOn (moved m f x l d q) h y
    by_same h y same e = record {
      fiber = stepped x l d q;
      at = ap (moved m f x l d q).fibers same ∙ still_itself m f x d q l;
      origin = ap (λ (z : StartedFiber). z.origin) e;
      parent = ap (λ (z : StartedFiber). z.parent) e;
      ended = λ o p. absurd (no_step_after_end o s (ap outcome_at (ap (λ (z : StartedFiber). z.progress) e ∙ p)));
    }

pub request_grows : (m : WholeMachine) (f : ℕ) → Grows m (requested_from_outside f m)
request_grows m f = record {
  fibers = λ h y e. record { fiber = y; at = e; origin = refl; parent = refl; ended = λ o p. p };
  requested = λ h e. with_true f m.requested h e;
}
