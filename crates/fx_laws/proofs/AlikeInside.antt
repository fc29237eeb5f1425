-- Alike terms at places that nothing round them closes.
use Rattle.std.proofs.Common.{◌≡◌, ℕ, List, [], ◌++◌, refl, sym, ◌∙◌, ap}
use Rattle.fx_term.specs.declared.done.Done.{Done}
use Rattle.fx_term.specs.Term.{Term, Finished}
use Rattle.fx_mask.specs.Closing.{Closing, is_none_closed}
use Rattle.fx_model.specs.Path.{Context, CleanupTerm, closed_along, closed_regions, cleanup_terms, is_open, must_cancel}
use Rattle.fx_model.specs.Row.{Counts}
use Rattle.fx_model.specs.Step.{Runs, Unwinds}
use Rattle.fx_model.proofs.Alike.{Alike}
use Rattle.fx_model.proofs.AlikePaths.{leaf_alike, AreCleanupTerms, cleanups_alike, closed_alike}
use Rattle.fx_model.proofs.AlikePaths as alike
use Rattle.fx_laws.specs.Everywhere.{placed}
use Rattle.fx_laws.proofs.Placed.{around, cleanups_placed, open_placed, must_placed}
use Rattle.fx_laws.proofs.Views.{View, IsMatched}
use Rattle.fx_laws.proofs.Inside.{inside_matched}
use Rattle.fx_laws.proofs.AlikeFibers.{AreShifted, shifted_known, alike_rows, alike_results}
use Rattle.fx_laws.proofs.Unwinding.{AreSameBefore, last, finalizer, release, unwinding_matched}

alike_before : {v : View} {low low' : ℕ} {us vs xs ys : List CleanupTerm} → AreCleanupTerms low low' xs ys
    → AreSameBefore v (Alike low low') us vs (xs ++ us) (ys ++ vs)
alike_before alike.none = last
alike_before (alike.finalizer s p) = finalizer s (alike_before p)
alike_before (alike.release s p) = release refl refl s (alike_before p)

module _ (v : View) (low low' : ℕ) (fs gs : List Context) (us vs : List CleanupTerm) (opens : closed_along [] fs ≡ []) (opens' : closed_along [] gs ≡ [])
    (cleans : (xs : List CleanupTerm) → around fs xs ≡ xs ++ us) (cleans' : (xs : List CleanupTerm) → around gs xs ≡ xs ++ vs)
    (tail : (c c' : Counts) → AreShifted low low' c c' → IsMatched v c (Unwinds us) c' (Unwinds vs))
    (ends : (c c' : Counts) → AreShifted low low' c c' → (w : Done) → IsMatched v c (Runs (placed fs (Finished w))) c' (Runs (placed gs (Finished w)))) where
  open_too : (t t' : Term) → Alike low low' t t' → is_open (placed fs t) ≡ is_open (placed gs t')
  open_too t t' s =
      let inner = closed_alike low low' [] [] (λ r h. refl) (λ r h. refl) refl s in
      open_placed fs t ∙ ap (λ (cs : List Closing). is_none_closed (closed_regions cs t)) opens ∙ inner
      ∙ sym (open_placed gs t' ∙ ap (λ (cs : List Closing). is_none_closed (closed_regions cs t')) opens')

  must_too : (c c' : Counts) (t t' : Term) → AreShifted low low' c c' → Alike low low' t t'
      → must_cancel c.known (placed fs t) ≡ must_cancel c'.known (placed gs t')
  must_too c c' t t' near s =
      let p = must_placed c.known fs t in
      let q = must_placed c'.known gs t' in
      let o = sym (open_placed fs t) ∙ open_too t t' s ∙ open_placed gs t' in
      let l = leaf_alike low low' s in
      let k : c'.known ≡ c.known = ap (λ (e : Counts). e.known) near.is in
      cc

  cancels_too : (c c' : Counts) (t t' : Term) → AreShifted low low' c c' → Alike low low' t t'
      → IsMatched v c (Unwinds (cleanup_terms (placed fs t))) c' (Unwinds (cleanup_terms (placed gs t')))
  cancels_too c c' t t' near s =
      let left : cleanup_terms (placed fs t) ≡ cleanup_terms t ++ us = cleanups_placed fs t ∙ cleans (cleanup_terms t) in
      let right : cleanup_terms (placed gs t') ≡ cleanup_terms t' ++ vs = cleanups_placed gs t' ∙ cleans' (cleanup_terms t') in
      rw (left, right)
      (unwinding_matched v (AreShifted low low') (Alike low low') (alike_rows v low low') (alike_results low low') us vs tail
      (alike_before (cleanups_alike low low' s)) c c' near)

  pub alike_matched : (c c' : Counts) (t t' : Term) → AreShifted low low' c c' → Alike low low' t t'
      → IsMatched v c (Runs (placed fs t)) c' (Runs (placed gs t'))
  alike_matched =
      inside_matched v (AreShifted low low') (Alike low low') (alike_rows v low low')
      (alike_results low low') fs gs shifted_known must_too open_too cancels_too ends
