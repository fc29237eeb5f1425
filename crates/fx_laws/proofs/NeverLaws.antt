-- `never`, and what would come after it.
use Rattle.std.proofs.Common.{◌≡◌, ℕ, Bool, true, not, Option, None, List, [], ◌∷◌, ◌++◌, refl, sym, ◌∙◌, subst}
use Rattle.fx_term.specs.declared.node.Arg.TheVariants.{Number}
use Rattle.fx_term.specs.Term.{Term, Pure, Never, Let}
use Rattle.fx_model.specs.Path.{Context, CleanupTerm, LetIn, HandleIn, is_open}
use Rattle.fx_model.specs.Row.{Counts, Label, Row, inside}
use Rattle.fx_model.specs.Step.{Progress, CleansUp, Step}
use Rattle.fx_model.specs.MaskLaws.{forced_after}
use Rattle.fx_model.proofs.Paths.{no_context}
use Rattle.fx_laws.specs.Everywhere.{placed, Place, InTerm, InCleanup, come_to, ShowTheSameEverywhere}
use Rattle.fx_laws.proofs.Placed.{placed_append, result_placed, RowOfPlaced, moves_in, result_in, row_of_placed}
use Rattle.fx_laws.proofs.Views.{View, IsMatched, stays}
use Rattle.fx_laws.proofs.SamePlaces.{IsSamePlace, same_turned, Moves, by_row, by_end, place_matched}
use Rattle.fx_laws.proofs.Shut.{cleaning, ShutStep, moves_at, result_at, cleanup_is_shut}
use Rattle.fx_laws.proofs.SameHere.{AreSameHere}
use Rattle.fx_laws.proofs.Showing.{showing, everywhere}

never_has_no_row : {k : Bool} {c d : Counts} {l : Label} {u : Term} → Row k c Never l d u → ⊥
never_has_no_row (inside f e g r) = no_context f _ _ refl e

pub never_has_no_rule : {k : Bool} {c d : Counts} {l : Label} {x u : Term} {fs : List Context} → RowOfPlaced k c fs x l d u → x ≡ Never → ⊥
never_has_no_rule {k} {c} (moves_in {w = w} {l = l} {d = d} r) at = never_has_no_row (subst (λ (z : Term). Row k c z l d w) at r)
never_has_no_rule (result_in {w = w}) at = cc

never_moves : {c d : Counts} {l : Label} {q : Progress} {x : Term} (fs : List Context) → Moves c x l d q → x ≡ placed fs Never → ⊥
never_moves {c} {x = x} fs (by_row {u = u} {l = l} {d = d} free r) at =
    never_has_no_rule (row_of_placed fs Never (subst (λ (z : Term). Row (not (is_open x)) c z l d u) at r)) refl
never_moves fs (by_end {w = w} free f k) at = let e = (result_placed fs Never w (sym f ∙ at)).1 in cc

-- in a clean-up it has no step
never_cleans : {c d : Counts} {l : Label} {q : Progress} {t : Term} (k : Option ℕ) (rest : List CleanupTerm) (fs : List Context)
    → t ≡ placed fs Never → Step c (CleansUp k t rest) l d q → ⊥
never_cleans {c} {d} {l} {q} k rest fs at s =
    one ((cleanup_is_shut k fs rest).only c d l Never q tt (subst (λ (z : Term). Step c (CleansUp k z rest) l d q) at s)) refl
  where
    one : {l : Label} {d : Counts} {q : Progress} {x : Term} → ShutStep (cleaning k fs rest) c x l d q → x ≡ Never → ⊥
    one (moves_at {u = u} {l = l} {d = d} r) is = never_has_no_row (subst (λ (z : Term). Row true c z l d u) is r)
    one (result_at {w = w}) is = cc

module _ (v : View) (k : Option ℕ) (rest : List CleanupTerm) (fs gs : List Context) where
  cleans_no_more : {p : Progress} (c : Counts) → IsMatched v c (CleansUp k (placed fs (placed gs Never)) rest) c p
  cleans_no_more c [] d q h = stays v
  cleans_no_more c (l ∷ ls) d q h = absurd (never_cleans k rest (fs ++ gs) (sym (placed_append fs gs Never)) h.2)

-- what it can show a term shows too that stands at the same place
pub never_matches : (v : View) (place : Place) {t : Term} → IsSamePlace Never t → (c : Counts) → IsMatched v c (come_to place Never) c (come_to place t)
never_matches v (InTerm fs) same = place_matched v fs same (λ c d e l ls q r m after. absurd (never_moves fs m refl))
never_matches v (InCleanup k rest fs) same = cleans_no_more v k rest fs []

never_alone : (v : View) (place : Place) (gs : List Context) → IsSamePlace (placed gs Never) Never → AreSameHere v place (placed gs Never) Never
never_alone v (InTerm fs) gs same c = (
  place_matched v fs same (λ c d e l ls q r m after. absurd (never_moves (fs ++ gs) m (sym (placed_append fs gs Never)))) c,
  never_matches v (InTerm fs) (same_turned same) c,
)
never_alone v (InCleanup k rest fs) gs same c =
    (cleans_no_more v k rest fs gs c, never_matches v (InCleanup k rest fs) (same_turned same) c)

pub never_is_last : (t : Term) → ShowTheSameEverywhere (Let None Never t) Never
never_is_last t = everywhere (Let None Never t) Never (λ place. never_alone showing place (LetIn None t ∷ [])
    (record { closed = λ outer. refl; leaf_is = refl; clean = refl }))

pub forced_never_is_last : (t : Term) → ShowTheSameEverywhere (forced_after Never t) Never
forced_never_is_last t =
    everywhere (forced_after Never t) Never
    (λ place. never_alone showing place (LetIn None t ∷ HandleIn None (Pure (Number 0)) ∷ [])
    (record { closed = λ outer. refl; leaf_is = refl; clean = refl }))
