-- Nobody waits for an outcome that has come.
use Rattle.std.proofs.Common.{◌≡◌, ℕ, Bool, true, false, Option, Some, refl, ◌∙◌, ap, inl, inr}
use Rattle.std.specs.Prelude.{◌==◌, ◌||◌, if◌then◌else◌, is_some}
use Rattle.std.proofs.lemmas.Bool.{cases_eq, eqb-false}
use Rattle.fx_term.specs.declared.outcome.Outcome as outcome
use Rattle.fx_model.specs.declared.source.Source.TheVariants.{Outcome, Either}
use Rattle.fx_plain.specs.declared.class.Class.{Class}
use Rattle.fx_plain.specs.declared.class.Class.TheVariants.{Unstarted, Able, Waits, Over}
use Rattle.fx_term.specs.Maps.{with_at}
use Rattle.fx_plain.specs.Classes.{class_requested, waits_for_end, class_at_end, requested_classes, ended_classes, outcome_has_come, AwaitWhatIsToCome}
use Rattle.fx_term.proofs.MapLaws.{at_that, at_other}

same_come : (outcomes outcomes' : ℕ → Option outcome.Outcome) → ((g : ℕ) → outcomes' g ≡ outcomes g) → (k : Class)
    → outcome_has_come outcomes' k ≡ outcome_has_come outcomes k
same_come outcomes outcomes' same (Waits (Outcome g)) = ap is_some (same g)
same_come outcomes outcomes' same (Waits (Either g h)) = rw (same g, same h) refl
same_come outcomes outcomes' same _ = refl

-- outcomes and classes that are the same for each fiber serve as well
pub same_awaited : (outcomes outcomes' : ℕ → Option outcome.Outcome) (class class' : ℕ → Class) → ((g : ℕ) → outcomes' g ≡ outcomes g)
    → ((f : ℕ) → class' f ≡ class f) → AwaitWhatIsToCome outcomes class → AwaitWhatIsToCome outcomes' class'
same_awaited outcomes outcomes' class class' same same_class to_come f =
    same_come outcomes outcomes' same (class' f) ∙ ap (outcome_has_come outcomes) (same_class f) ∙ to_come f

module _ (outcomes : ℕ → Option outcome.Outcome) (class : ℕ → Class) (to_come : AwaitWhatIsToCome outcomes class) (f : ℕ) where
  -- one fiber comes into a class that does not wait for an outcome that has come
  pub moved_awaited : (k : Class) → outcome_has_come outcomes k ≡ false → AwaitWhatIsToCome outcomes (with_at f k class)
  moved_awaited k e g = elim (cases_eq g f) [
    | inl same ↦ ap (outcome_has_come outcomes) (at_that f k class g same) ∙ e
    | inr apart ↦ ap (outcome_has_come outcomes) (at_other f k class g apart) ∙ to_come g
  ]

  requested_come : (k : Class) → outcome_has_come outcomes k ≡ false → outcome_has_come outcomes (class_requested k) ≡ false
  requested_come (Waits w) e = refl
  requested_come Able e = refl
  requested_come Unstarted e = refl
  requested_come Over e = refl

  pub requested_awaited : AwaitWhatIsToCome outcomes (requested_classes f class)
  requested_awaited = moved_awaited (class_requested (class f)) (requested_come (class f) (to_come f))

  module _ (o : outcome.Outcome) where
    abbrev outcomes' : ℕ → Option outcome.Outcome
    outcomes' = with_at f (Some o) outcomes

    other_come : (g : ℕ) → (g == f) ≡ false → is_some (outcomes' g) ≡ is_some (outcomes g)
    other_come g e = ap is_some (at_other f (Some o) outcomes g (eqb-false g f e))

    -- who does not wait for this end waits for the same as before
    others_come : (k : Class) → waits_for_end f k ≡ false → outcome_has_come outcomes' k ≡ outcome_has_come outcomes k
    others_come (Waits (Outcome g)) e = other_come g e
    others_come (Waits (Either g h)) e = by_tests (g == f) (h == f) refl refl e
      where
        by_tests : (a b : Bool) → (g == f) ≡ a → (h == f) ≡ b → (a || b) ≡ false
            → outcome_has_come outcomes' (Waits (Either g h)) ≡ outcome_has_come outcomes (Waits (Either g h))
        by_tests false false p q e = rw (other_come g p, other_come h q) refl
        by_tests true b p q e = absurd cc
        by_tests false true p q e = absurd cc
    others_come _ e = refl

    at_end_come : (k : Class) → outcome_has_come outcomes k ≡ false → outcome_has_come outcomes' (class_at_end f k) ≡ false
    at_end_come k e = by_test (waits_for_end f k) refl
      where
        by_test : (b : Bool) → waits_for_end f k ≡ b → outcome_has_come outcomes' (if b then Able else k) ≡ false
        by_test true is = refl
        by_test false is = others_come k is ∙ e

    -- the fiber ended, and those that waited for it are able
    pub ended_awaited : AwaitWhatIsToCome outcomes' (ended_classes f class)
    ended_awaited g = elim (cases_eq g f) [
      | inl same ↦ ap (outcome_has_come outcomes') (at_that f Over (λ h. class_at_end f (class h)) g same)
      | inr apart ↦ ap (outcome_has_come outcomes') (at_other f Over (λ h. class_at_end f (class h)) g apart) ∙ at_end_come (class g) (to_come g)
    ]
