-- Two terms at the same place, each with one row, of which the same is shown.
use Rattle.std.proofs.Common.{◌≡◌, ℕ, Bool, true, false, not, Option, List, ◌∷◌, refl, sym, ◌∙◌, ap, subst}
use Rattle.fx_term.specs.declared.done.Done.{Done}
use Rattle.fx_term.specs.Term.{Term, Finished}
use Rattle.fx_model.specs.Path.{Context, CleanupTerm, is_open, must_cancel}
use Rattle.fx_model.specs.Row.{Counts, Label, Row}
use Rattle.fx_model.specs.Step.{Progress, Runs, CleansUp, Step, row}
use Rattle.fx_model.specs.Run.{Leads}
use Rattle.fx_laws.specs.Everywhere.{placed, Place, InTerm, InCleanup}
use Rattle.fx_laws.proofs.Placed.{result_placed, row_placed, RowOfPlaced, moves_in, result_in, row_of_placed}
use Rattle.fx_laws.proofs.Views.{View, HasRun, IsMatched, step_first}
use Rattle.fx_laws.proofs.SamePlaces.{IsSamePlace, same_turned, same_whole, Moves, by_row, by_end, place_matched}
use Rattle.fx_laws.proofs.Forced.{IsForced, IsOnlyRow, cleans_only, forced_both}
use Rattle.fx_laws.proofs.OnlyRows.{only_placed}
use Rattle.fx_laws.proofs.SameHere.{AreSameHere}

-- with any counts the term has this row and no other
pub record LeadsBy (label : Counts → Label) (after : Counts → Counts) (t : Term) (next : Counts → Term) : Type 0 where
  pub there : (k : Bool) (c : Counts) → Row k c t (label c) (after c) (next c)
  pub only : (k : Bool) (c d : Counts) (l : Label) (w : Term) → Row k c t l d w → (l ≡ label c) × (d ≡ after c) × (w ≡ next c)
  pub going : (w : Done) → t ≡ Finished w → ⊥

module _ (v : View) (fs : List Context) {label : Counts → Label} {after : Counts → Counts} where
  one_way : {t t' : Term} {u u' : Counts → Term} → LeadsBy label after t u → LeadsBy label after t' u' → IsSamePlace t t'
      → ((b c : Counts) → IsMatched v c (Runs (placed fs (u b))) c (Runs (placed fs (u' b))))
      → (c : Counts) → IsMatched v c (Runs (placed fs t)) c (Runs (placed fs t'))
  one_way {t} {t'} {u} {u'} s s' same next = place_matched v fs same (λ c d e l ls q r m rest. one c m refl e ls r rest)
    where
      inner : (c : Counts) {k : Bool} {d : Counts} {x y : Term} {l : Label} → RowOfPlaced k c fs x l d y → x ≡ t
          → must_cancel c.known (placed fs t') ≡ false → (e : Counts) (ls : List Label) (r : Progress) → Leads d (Runs y) ls e r
          → HasRun v c (Runs (placed fs t')) (v.of (l ∷ ls))
      inner c {k} {d} {l = l} (moves_in {w = y} h) at free e ls r rest =
          let o = s.only k c d l y (subst (λ (z : Term). Row k c z l d y) at h) in
          let go : Leads (after c) (Runs (placed fs (u c))) ls e r = rw (sym o.1, sym o.2) rest in
          let start : Step c (Runs (placed fs t')) (label c) (after c) (Runs (placed fs (u' c))) =
          row free (row_placed fs (s'.there (not (is_open (placed fs t'))) c)) in
          rw o.0 (step_first v ls start (next c (after c) ls e r go))
      inner c (result_in {w = w}) at free e ls r rest = absurd (s.going w (sym at))

      one : (c : Counts) {d : Counts} {x : Term} {l : Label} {q : Progress} → Moves c x l d q → x ≡ placed fs t → (e : Counts) (ls : List Label) (r : Progress)
          → Leads d q ls e r → HasRun v c (Runs (placed fs t')) (v.of (l ∷ ls))
      one c {d} {x} {l} (by_row {u = y} free k) at e ls r rest =
          let here : Row (not (is_open x)) c (placed fs t) l d y = subst (λ (z : Term). Row (not (is_open x)) c z l d y) at k in
          let free' = sym ((same_whole fs same).must c.known) ∙ ap (must_cancel c.known) (sym at) ∙ free in
          inner c (row_of_placed fs t here) refl free' e ls r rest
      one c (by_end {w = w} free f k) at e ls r rest = absurd (s.going w (result_placed fs t w (sym f ∙ at)).1)

only_by : {label : Counts → Label} {after : Counts → Counts} {t : Term} {u : Counts → Term} → LeadsBy label after t u → (c : Counts)
    → IsOnlyRow c t (label c) (after c) (u c)
only_by s c = record { there = s.there true c; only = λ m e w r. s.only true c e m w r; going = s.going }

cleans_by : (k : Option ℕ) (rest : List CleanupTerm) (fs : List Context) {label : Counts → Label} {after : Counts → Counts} {t : Term} {u : Counts → Term}
    → LeadsBy label after t u → (c : Counts) → IsForced c (CleansUp k (placed fs t) rest) (label c) (after c) (CleansUp k (placed fs (u c)) rest)
cleans_by k rest fs s c = cleans_only k rest (only_placed fs (only_by s c))

pub both_step : (v : View) (place : Place) {label : Counts → Label} {after : Counts → Counts} {t t' : Term} {u u' : Counts → Term} → LeadsBy label after t u
    → LeadsBy label after t' u' → IsSamePlace t t' → ((b : Counts) → AreSameHere v place (u b) (u' b)) → AreSameHere v place t t'
both_step v (InTerm fs) s s' same next c =
    (one_way v fs s s' same (λ b d. (next b d).0) c, one_way v fs s' s (same_turned same) (λ b d. (next b d).1) c)
both_step v (InCleanup k rest fs) {after = after} s s' same next c =
    forced_both v refl (cleans_by k rest fs s c) (cleans_by k rest fs s' c) (next c (after c))
