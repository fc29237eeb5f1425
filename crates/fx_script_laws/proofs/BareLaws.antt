-- The laws of terms that can be put for one another where nothing closes their place.
use Rattle.std.proofs.Common.{◌≡◌, ℕ, Bool, true, false, ◌&&◌, Option, List, [], ◌∷◌, refl, sym, ◌∙◌, ap, subst, arith}
use Rattle.fx_term.specs.Term.{Term, Canceled, Let, put}
use Rattle.fx_term.specs.Need.{need}
use Rattle.fx_mask.specs.Closing.{Closing, Seal, is_none_closed}
use Rattle.fx_model.specs.Path.{Context, closed_along, cleanup_terms, must_cancel}
use Rattle.fx_model.specs.Row.{Counts, Label}
use Rattle.fx_model.specs.Step.{Progress, Runs}
use Rattle.fx_model.specs.MaskLaws.{forced_after}
use Rattle.fx_laws.specs.Everywhere.{placed, Place, InTerm, InCleanup}
use Rattle.fx_laws.proofs.Placed.{must_placed}
use Rattle.fx_laws.proofs.SamePlaces.{IsSamePlace, same_whole}
use Rattle.fx_script_laws.specs.Cover.{Cover, Bare, Sealed, Masks, is_bare, has_seal, AreClosedBy, IsCoveredBy}
use Rattle.fx_script_laws.specs.Filled.{none_bound}
use Rattle.fx_script_laws.specs.Interchange.{CanComeTo, ComeToTheSameAt, AreInterchangeableWhere}
use Rattle.fx_script_laws.proofs.PutNeeds.{put_need}
use Rattle.fx_script_laws.proofs.AtClosedPlaces.{AreEndsOfStops, interchangeable_where}
use Rattle.fx_script_laws.proofs.ClosedLaws.{sealed_along}
use Rattle.fx_script_laws.proofs.StepsAtPlace.{canceled_too}

nothing_closes : (s : Cover) (cs : List Closing) → is_bare s ≡ true → AreClosedBy s cs → cs ≡ []
nothing_closes Bare cs bare h = h
nothing_closes Sealed cs bare h = absurd cc
nothing_closes (Masks n) cs bare h = absurd cc

-- a term whose first leaf is `canceled`, with nothing round that which closes a place or is to be cleaned up, and that leaf alone
data CancelsAtOnce : Term → Term → Type 0 where
  bound : (x : Option ℕ) (a : Term) → need a ≡ 0 → CancelsAtOnce (Let x Canceled a) Canceled
  forced : (a : Term) → need a ≡ 0 → CancelsAtOnce (forced_after Canceled a) Canceled

cancels_put : (x n : ℕ) (t u : Term) → none_bound x ≡ false → CancelsAtOnce t u → CancelsAtOnce (put x n t) (put x n u)
cancels_put x n t u free (bound y a none) = bound y (put x n a) (let e = put_need x n a in omega arith)
cancels_put x n t u free (forced a none) = forced (put x n a) (let e = put_need x n a in omega arith)

cancels_need : (t u : Term) → CancelsAtOnce t u → need t ≡ need u
cancels_need t u (bound x a none) = omega (arith, none)
cancels_need t u (forced a none) = omega (arith, none)

same_place : (t u : Term) → CancelsAtOnce t u → IsSamePlace t u
same_place t u (bound x a none) = record { closed = λ outer. refl; leaf_is = refl; clean = refl }
same_place t u (forced a none) = record { closed = λ outer. refl; leaf_is = refl; clean = refl }

cancels : (fs : List Context) → closed_along [] fs ≡ [] → (known : Bool) → must_cancel known (placed fs Canceled) ≡ true
cancels fs bare true = must_placed true fs Canceled ∙ ap (λ (cs : List Closing). is_none_closed cs && true) bare
cancels fs bare false = must_placed false fs Canceled ∙ ap (λ (cs : List Closing). is_none_closed cs && true) bare

module _ {Ends : Counts → Progress → Type 0} (ends : AreEndsOfStops Ends) where
  one_comes : (c : Counts) (ls : List Label) (t u : Term) → must_cancel c.known t ≡ true → must_cancel c.known u ≡ true → cleanup_terms t ≡ cleanup_terms u
      → CanComeTo Ends c (Runs t) ls → CanComeTo Ends c (Runs u) ls
  one_comes c ls t u must must' clean h =
      subst (λ (ms : List Label). CanComeTo Ends c (Runs u) ms) h.shown_is
      (canceled_too ends c h.counts h.progress t u must must' clean h.labels h.run h.ends)

  cancels_come : (s : Cover) (place : Place) → is_bare s ≡ true → IsCoveredBy s place → (t u : Term) → CancelsAtOnce t u → u ≡ Canceled
      → ComeToTheSameAt Ends place t u
  cancels_come s (InTerm fs) bare at t u pair is c ls =
      let whole = same_whole fs (same_place t u pair) in
      let must' : must_cancel c.known (placed fs u) ≡ true =
      ap (λ (x : Term). must_cancel c.known (placed fs x)) is ∙ cancels fs (nothing_closes s (closed_along [] fs) bare at) c.known in
      let must = whole.must c.known ∙ must' in (
        one_comes c ls (placed fs t) (placed fs u) must must' whole.clean,
        one_comes c ls (placed fs u) (placed fs t) must' must (sym whole.clean),
      )
  cancels_come s (InCleanup k rest fs) bare at t u pair is c ls =
      let none = nothing_closes s (closed_along (Seal ∷ []) fs) bare at in
      let sealed : has_seal [] ≡ true = subst (λ (cs : List Closing). has_seal cs ≡ true) none (sealed_along fs (Seal ∷ []) refl) in
      absurd cc

second_is : (t u : Term) → CancelsAtOnce t u → u ≡ Canceled
second_is t u (bound x a none) = refl
second_is t u (forced a none) = refl

both_cancel : (t u : Term) → CancelsAtOnce t u → AreInterchangeableWhere is_bare none_bound t u
both_cancel =
    interchangeable_where is_bare none_bound CancelsAtOnce cancels_put cancels_need
    (λ Ends ends s place bare at t u pair. cancels_come ends s place bare at t u pair (second_is t u pair))

pub canceled_before : (x : Option ℕ) (a : Term) → need a ≡ 0 → AreInterchangeableWhere is_bare none_bound (Let x Canceled a) Canceled
canceled_before x a none = both_cancel (Let x Canceled a) Canceled (bound x a none)

pub canceled_forced : (a : Term) → need a ≡ 0 → AreInterchangeableWhere is_bare none_bound (forced_after Canceled a) Canceled
canceled_forced a none = both_cancel (forced_after Canceled a) Canceled (forced a none)
