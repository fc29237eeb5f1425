-- Fibers that have come to a result.
use Rattle.std.proofs.Common.{◌≡◌, Bool, false, List, ◌∷◌, refl, sym, ◌∙◌, ap}
use Rattle.fx_term.specs.declared.done.Done.{Done}
use Rattle.fx_term.specs.declared.outcome.Outcome.{Outcome}
use Rattle.fx_term.specs.Term.{Term, Finished}
use Rattle.fx_model.specs.Path.{must_cancel}
use Rattle.fx_model.specs.Row.{Counts, Label}
use Rattle.fx_model.specs.Step.{Progress, Runs, HasEnded, Step, succeeds, errs}
use Rattle.fx_model.specs.Run.{Leads}
use Rattle.fx_model.proofs.Paths.{result_has_no_row}
use Rattle.fx_laws.proofs.Views.{View, HasRun, IsMatched, step_first}
use Rattle.fx_laws.proofs.SamePlaces.{Moves, by_row, by_end, wholes_matched}
use Rattle.fx_laws.proofs.Forced.{AreMatched, ended_matched, unwound_both}

ends_too : {c c' d : Counts} {t : Term} {l : Label} {o : Outcome} → must_cancel c'.known t ≡ false → Step c (Runs t) l d (HasEnded o)
    → Step c' (Runs t) l c' (HasEnded o)
ends_too free (succeeds f) = succeeds free
ends_too free (errs f) = errs free

module _ (v : View) (w : Done) where
  abbrev KnowTheSame : Counts → Counts → Type 0
  KnowTheSame c c' = c.known ≡ c'.known

  result_moves : (c c' d e : Counts) (l : Label) (q r : Progress) (ls : List Label) → KnowTheSame c c' → Moves c (Finished w) l d q → Leads d q ls e r
      → HasRun v c' (Runs (Finished w)) (v.of (l ∷ ls))
  result_moves c c' d e l q r ls near (by_row free k) after = absurd (result_has_no_row k refl)
  result_moves c c' d e l q r ls near (by_end {o = o} free f k) after =
      let free' = ap (λ (b : Bool). must_cancel b (Finished w)) (sym near) ∙ free in
      step_first v ls (ends_too free' k) (ended_matched v d c' o ls e r after)

  pub results_matched : (c c' : Counts) → c.known ≡ c'.known → IsMatched v c (Runs (Finished w)) c' (Runs (Finished w))
  results_matched =
      wholes_matched v KnowTheSame (λ c c' e. refl) (Finished w) (Finished w) (λ c c' e. ap (λ (b : Bool). must_cancel b (Finished w)) e) refl
      (λ c c' e. (unwound_both v c c').0) result_moves

  pub results_both : (c c' : Counts) → c.known ≡ c'.known → AreMatched v c (Runs (Finished w)) c' (Runs (Finished w))
  results_both c c' e = (results_matched c c' e, results_matched c' c (sym e))
