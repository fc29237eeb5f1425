-- Terms that run where nothing is canceled: in a clean-up, or at a place that stays closed.
use Rattle.std.proofs.Common.{◌≡◌, ℕ, Bool, true, false, not, Option, List, [], ◌∷◌, refl, sym, ◌∙◌, ap, subst}
use Rattle.fx_term.specs.declared.done.Done.{Done}
use Rattle.fx_term.specs.declared.done.Done.TheVariants.{Val, Err}
use Rattle.fx_term.specs.Term.{Term, Finished}
use Rattle.fx_model.specs.Path.{Context, CleanupTerm, is_open}
use Rattle.fx_model.specs.Row.{Counts, Label, Row}
use Rattle.fx_model.specs.Step.{Progress, Runs, CleansUp, Step}
use Rattle.fx_model.specs.Step as step
use Rattle.fx_model.specs.Run.{Leads}
use Rattle.fx_model.proofs.ShownRuns.{closed_must, never_canceled, closed_row}
use Rattle.fx_laws.specs.Everywhere.{placed}
use Rattle.fx_laws.proofs.Placed.{result_placed, row_placed, RowOfPlaced, moves_in, result_in, row_of_placed}
use Rattle.fx_laws.proofs.Views.{View, HasRun, IsMatched, stays, step_like}
use Rattle.fx_laws.proofs.Inside.{RowsAreFollowed, ResultsAreResults}

-- a step is a row of the term, unless that is a result
pub data ShutStep (at : Term → Progress) (c : Counts) : Term → Label → Counts → Progress → Type 0 where
  moves_at : {t u : Term} {l : Label} {d : Counts} → Row true c t l d u → ShutStep at c t l d (at u)
  result_at : {l : Label} {d : Counts} {q : Progress} {w : Done} → ShutStep at c (Finished w) l d q

-- so it is for each term that fits there
pub record IsShut (at : Term → Progress) (Fits : Term → Type 0) : Type 0 where
  pub does : (c d : Counts) (l : Label) (t u : Term) → Fits t → Row true c t l d u → Step c (at t) l d (at u)
  pub only : (c d : Counts) (l : Label) (t : Term) (q : Progress) → Fits t → Step c (at t) l d q → ShutStep at c t l d q

module _ (at : Term → Progress) (fs : List Context) (whole : Term → Progress) (is : (t : Term) → at t ≡ whole (placed fs t)) where
  row_shut : {c d : Counts} {l : Label} (t : Term) {x y : Term} → RowOfPlaced true c fs x l d y → x ≡ t → ShutStep at c t l d (whole y)
  row_shut {c} t (moves_in {w = w} {l = l} {d = d} r) e =
      subst (λ (q : Progress). ShutStep at c t l d q) (is w) (moves_at (subst (λ (z : Term). Row true c z l d w) e r))
  row_shut {c} {d} {l} t {y = y} (result_in {w = w}) e = subst (λ (z : Term). ShutStep at c z l d (whole y)) e result_at

abbrev pub Always : Term → Type 0
Always t = Unit {0}

-- in a clean-up
abbrev pub cleaning : Option ℕ → List Context → List CleanupTerm → Term → Progress
cleaning k fs rest t = CleansUp k (placed fs t) rest

only_clean : (k : Option ℕ) (fs : List Context) (rest : List CleanupTerm) {c d : Counts} {l : Label} (t : Term) {x : Term} {q : Progress}
    → Step c (CleansUp k x rest) l d q → x ≡ placed fs t → ShutStep (cleaning k fs rest) c t l d q
only_clean k fs rest {c} {d} {l} t (step.cleans {t' = y} r) at =
    row_shut (cleaning k fs rest) fs (λ z. CleansUp k z rest) (λ z. refl) t (row_of_placed fs t (subst (λ (z : Term). Row true c z l d y) at r)) refl
only_clean k fs rest t (step.finalizer_ends {v = w}) at = rw ((result_placed fs t w at).1) result_at
only_clean k fs rest t (step.release_ends {v = w}) at = rw ((result_placed fs t w at).1) result_at

pub cleanup_is_shut : (k : Option ℕ) (fs : List Context) (rest : List CleanupTerm) → IsShut (cleaning k fs rest) Always
cleanup_is_shut k fs rest =
    record { does = λ c d l t u fits r. step.cleans (row_placed fs r); only = λ c d l t q fits s. only_clean k fs rest t s refl }

-- at a place that is closed
module _ (fs : List Context) where
  abbrev pub running : Term → Progress
  running t = Runs (placed fs t)

  abbrev pub IsClosedThere : Term → Type 0
  IsClosedThere t = is_open (placed fs t) ≡ false

  does_run : (c d : Counts) (l : Label) (t u : Term) → IsClosedThere t → Row true c t l d u → Step c (running t) l d (running u)
  does_run c d l t u closed r =
      step.row (closed_must c.known (placed fs t) closed)
      (subst (λ (b : Bool). Row (not b) c (placed fs t) l d (placed fs u)) (sym closed) (row_placed fs r))

  only_run : {c d : Counts} {l : Label} (t : Term) {x : Term} {q : Progress} → IsClosedThere t → Step c (Runs x) l d q → x ≡ placed fs t
      → ShutStep running c t l d q
  only_run {c} t {x} closed (step.cancelled must) at = absurd (never_canceled c.known x (ap is_open at ∙ closed) must)
  only_run t closed (step.seen free opened) at = absurd (let p = ap is_open at ∙ closed in cc)
  only_run {c} {d} {l} t {x} closed (step.row {t' = y} free r) at =
      row_shut running fs Runs (λ z. refl) t
      (row_of_placed fs t (subst (λ (z : Term). Row true c z l d y) at (closed_row (ap is_open at ∙ closed) r))) refl
  only_run t closed (step.succeeds {n = n} free) at = rw ((result_placed fs t (Val n) at).1) result_at
  only_run t closed (step.errs {n = n} free) at = rw ((result_placed fs t (Err n) at).1) result_at

  pub run_is_shut : IsShut running IsClosedThere
  run_is_shut = record { does = does_run; only = λ c d l t q closed s. only_run t closed s refl }

module _ (v : View) (Near : Counts → Counts → Type 0) (Same : Term → Term → Type 0) (rows : RowsAreFollowed v Near Same)
    (results : ResultsAreResults v Near Same) (at at' : Term → Progress) (Fits Fits' : Term → Type 0) (shut : IsShut at Fits) (shut' : IsShut at' Fits')
    (fits : (t t' : Term) → Same t t' → Fits t × Fits' t')
    (ends : (c c' : Counts) → Near c c' → (w : Done) → IsMatched v c (at (Finished w)) c' (at' (Finished w))) where
  pub shut_matched : (c c' : Counts) (t t' : Term) → Near c c' → Same t t' → IsMatched v c (at t) c' (at' t')
  shut_matched c c' t t' near same [] d q h = stays v
  shut_matched c c' t t' near same (l ∷ ls) d q h =
      by_step (shut.only c h.0 l t h.1 (fits t t' same).0 h.2) refl h.3 h (λ e e' w w' n s k. shut_matched e e' w w' n s ls d q k)
    where
      by_step : {x : Term} {m : Progress} {e : Counts} {l : Label} → ShutStep at c x l e m → x ≡ t → Leads e m ls d q → Leads c (at t) (l ∷ ls) d q
          → ((e e' : Counts) (w w' : Term) → Near e e' → Same w w' → Leads e (at w) ls d q → HasRun v e' (at' w') (v.of ls))
          → HasRun v c' (at' t') (v.of (l ∷ ls))
      by_step (moves_at {u = u} {l = l} {d = e} r) is rest whole more =
          let f = rows true c c' e l t t' u near same (subst (λ (z : Term). Row true c z l e u) is r) in
          step_like v ls f.seen_is (shut'.does c' f.counts f.label t' f.term (fits t t' same).1 f.row) (more e f.counts u f.term f.near f.same rest)
      by_step {l = l} (result_at {w = w}) is rest whole more =
          let is' : t' ≡ Finished w = results w t' (subst (λ (y : Term). Same y t') (sym is) same) in
          let long : Leads c (at (Finished w)) (l ∷ ls) d q = subst (λ (z : Term). Leads c (at z) (l ∷ ls) d q) (sym is) whole in
          subst (λ (z : Term). HasRun v c' (at' z) (v.of (l ∷ ls))) (sym is') (ends c c' near w (l ∷ ls) d q long)
