-- Two terms of which each makes the rows of the other, in two lists of contexts.
use Rattle.std.proofs.Common.{◌≡◌, Bool, true, false, not, List, [], ◌∷◌, refl, sym, ◌∙◌, ap, subst}
use Rattle.fx_term.specs.declared.done.Done.{Done}
use Rattle.fx_term.specs.declared.done.Done.TheVariants.{Val, Err}
use Rattle.fx_term.specs.Term.{Term, Finished}
use Rattle.fx_model.specs.Path.{Context, cleanup_terms, is_open, must_cancel}
use Rattle.fx_model.specs.Row.{Counts, Label, known_canceled, Row}
use Rattle.fx_model.specs.Step.{Progress, Runs, Unwinds, Step, cancelled, seen, row, succeeds, errs}
use Rattle.fx_model.specs.Run.{Leads}
use Rattle.fx_laws.specs.Everywhere.{placed}
use Rattle.fx_laws.proofs.Placed.{result_placed, row_placed, RowOfPlaced, moves_in, result_in, row_of_placed}
use Rattle.fx_laws.proofs.Views.{View, HasRun, IsMatched, stays, step_first, step_like}

module _ (v : View) (Near : Counts → Counts → Type 0) (Same : Term → Term → Type 0) where
  -- of a row of the second fiber, at counts that go with the first one's, the same is seen
  pub record RowIsFollowed (k : Bool) (c' : Counts) (t' : Term) (l : Label) (d : Counts) (u : Term) : Type 0 where
    pub label : Label
    pub counts : Counts
    pub term : Term
    pub row : Row k c' t' label counts term
    pub seen_is : v.of (label ∷ []) ≡ v.of (l ∷ [])
    pub near : Near d counts
    pub same : Same u term

  abbrev pub RowsAreFollowed : Type 0
  RowsAreFollowed =
      (k : Bool) (c c' d : Counts) (l : Label) (t t' u : Term) → Near c c' → Same t t' → Row k c t l d u → RowIsFollowed k c' t' l d u

  abbrev pub ResultsAreResults : Type 0
  ResultsAreResults = (w : Done) (t' : Term) → Same (Finished w) t' → t' ≡ Finished w

  -- cancellation acts on both wholes or on neither, and what comes after it, and after a result, is matched
  module _ (rows : RowsAreFollowed) (results : ResultsAreResults) (fs gs : List Context)
      (knows : (c c' : Counts) → Near c c' → Near (known_canceled c) (known_canceled c'))
      (must : (c c' : Counts) (t t' : Term) → Near c c' → Same t t' → must_cancel c.known (placed fs t) ≡ must_cancel c'.known (placed gs t'))
      (opened : (t t' : Term) → Same t t' → is_open (placed fs t) ≡ is_open (placed gs t'))
      (cancels : (c c' : Counts) (t t' : Term) → Near c c' → Same t t'
      → IsMatched v c (Unwinds (cleanup_terms (placed fs t))) c' (Unwinds (cleanup_terms (placed gs t'))))
      (ends : (c c' : Counts) → Near c c' → (w : Done) → IsMatched v c (Runs (placed fs (Finished w))) c' (Runs (placed gs (Finished w)))) where
    result_matched : (c c' : Counts) (t t' : Term) → Near c c' → Same t t' → (w : Done) → t ≡ Finished w
        → IsMatched v c (Runs (placed fs t)) c' (Runs (placed gs t'))
    result_matched c c' t t' near same w is =
        let is' : t' ≡ Finished w = results w t' (subst (λ (y : Term). Same y t') is same) in
        rw (is, is') (ends c c' near w)

    row_matched : (c c' : Counts) (t t' : Term) (ls : List Label) (e : Counts) (q : Progress) {x y : Term} {l : Label} {d : Counts} → Near c c' → Same t t'
        → RowOfPlaced (not (is_open (placed fs t))) c fs x l d y → x ≡ t → must_cancel c.known (placed fs t) ≡ false
        → Leads c (Runs (placed fs t)) (l ∷ ls) e q
        → ((d' : Counts) (w w' : Term) → Near d d' → Same w w' → Leads d (Runs (placed fs w)) ls e q → HasRun v d' (Runs (placed gs w')) (v.of ls))
        → Leads d (Runs y) ls e q → HasRun v c' (Runs (placed gs t')) (v.of (l ∷ ls))
    row_matched c c' t t' ls e q {l = l} {d = d} near same (moves_in {t = x} {w = w} r) at free whole more rest =
        let closed : not (is_open (placed fs t)) ≡ not (is_open (placed gs t')) = ap not (opened t t' same) in
        let r1 : Row (not (is_open (placed gs t'))) c x l d w = subst (λ (k : Bool). Row k c x l d w) closed r in
        let here : Row (not (is_open (placed gs t'))) c t l d w = subst (λ (z : Term). Row (not (is_open (placed gs t'))) c z l d w) at r1 in
        let f = rows (not (is_open (placed gs t'))) c c' d l t t' w near same here in
        step_like v ls f.seen_is (row (sym (must c c' t t' near same) ∙ free) (row_placed gs f.row)) (more f.counts w f.term f.near f.same rest)
    row_matched c c' t t' ls e q {l = l} near same (result_in {w = w}) at free whole more rest =
        result_matched c c' t t' near same w (sym at) (l ∷ ls) e q whole

    pub inside_matched : (c c' : Counts) (t t' : Term) → Near c c' → Same t t' → IsMatched v c (Runs (placed fs t)) c' (Runs (placed gs t'))
    inside_matched c c' t t' near same [] d q h = stays v
    inside_matched c c' t t' near same (l ∷ ls) d q h = by_step h.2 refl h.3 h (λ e e' w w' n s k. inside_matched e e' w w' n s ls d q k)
      where
        by_step : {x : Term} {m : Progress} {e : Counts} {l : Label} → Step c (Runs x) l e m → x ≡ placed fs t → Leads e m ls d q
            → Leads c (Runs (placed fs t)) (l ∷ ls) d q
            → ((e e' : Counts) (w w' : Term) → Near e e' → Same w w' → Leads e (Runs (placed fs w)) ls d q → HasRun v e' (Runs (placed gs w')) (v.of ls))
            → HasRun v c' (Runs (placed gs t')) (v.of (l ∷ ls))
        by_step {x} (cancelled m) at rest whole more =
            let m' : must_cancel c'.known (placed gs t') ≡ true = sym (must c c' t t' near same) ∙ ap (must_cancel c.known) (sym at) ∙ m in
            let go = subst (λ (y : Term). Leads c (Unwinds (cleanup_terms y)) ls d q) at rest in
            step_first v ls (cancelled m') (cancels c c' t t' near same ls d q go)
        by_step {x} (seen free open_here) at rest whole more =
            let f : must_cancel c'.known (placed gs t') ≡ false = sym (must c c' t t' near same) ∙ ap (must_cancel c.known) (sym at) ∙ free in
            let o : is_open (placed gs t') ≡ true = sym (opened t t' same) ∙ ap is_open (sym at) ∙ open_here in
            let go = subst (λ (y : Term). Leads (known_canceled c) (Runs y) ls d q) at rest in
            step_first v ls (seen f o) (more (known_canceled c) (known_canceled c') t t' (knows c c' near) same go)
        by_step {x} {e = e} {l = l} (row {t' = y} free r) at rest whole more =
            let here : Row (not (is_open (placed fs t))) c (placed fs t) l e y = subst (λ (z : Term). Row (not (is_open z)) c z l e y) at r in
            row_matched c c' t t' ls d q near same (row_of_placed fs t here) refl (ap (must_cancel c.known) (sym at) ∙ free) whole
            (λ d' w w' n s k. more e d' w w' n s k) rest
        by_step {l = l} (succeeds {n = n} free) at rest whole more =
            result_matched c c' t t' near same (Val n) (result_placed fs t (Val n) at).1 (l ∷ ls) d q whole
        by_step {l = l} (errs {n = n} free) at rest whole more =
            result_matched c c' t t' near same (Err n) (result_placed fs t (Err n) at).1 (l ∷ ls) d q whole
