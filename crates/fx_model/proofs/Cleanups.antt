-- What holds of the clean-ups of a path.
use Rattle.std.proofs.Common.{List, [], ◌∷◌, ◌++◌}
use Rattle.fx_term.specs.Term.{Term}
use Rattle.fx_model.specs.Path.{Context, OnCancelIn, InUseIn, InUseCaseIn, plug, CleanupTerm, Finalizer, Release, cleanups_with, cleanup_terms}
use Rattle.fx_model.specs.Step.{AreAll}
use Rattle.fx_model.proofs.Paths.{along_path}

all_append : (Q : Term → Type 0) (xs ys : List CleanupTerm) → AreAll Q xs → AreAll Q ys → AreAll Q (xs ++ ys)
all_append Q [] ys h k = k
all_append Q (Finalizer f ∷ xs) ys h k = (h.0, all_append Q xs ys h.1 k)
all_append Q (Release n r ∷ xs) ys h k = (h.0, all_append Q xs ys h.1 k)

-- where the one holds of a context it holds of its part, and the other of its own clean-up
module _ (P Q : Term → Type 0) (part : (f : Context) (a : Term) → P (plug f a) → P a × AreAll Q (cleanups_with f [])) where
  in_context : (f : Context) (a : Term) → (P a → AreAll Q (cleanup_terms a)) → P (plug f a) → AreAll Q (cleanup_terms (plug f a))
  in_context (OnCancelIn f) a inner h = let p = part (OnCancelIn f) a h in all_append Q (cleanup_terms a) (Finalizer f ∷ []) (inner p.0) p.1
  in_context (InUseIn k r) a inner h = let p = part (InUseIn k r) a h in all_append Q (cleanup_terms a) (Release k r ∷ []) (inner p.0) p.1
  in_context (InUseCaseIn k y s z e d) a inner h =
      let p = part (InUseCaseIn k y s z e d) a h in all_append Q (cleanup_terms a) (Release k d ∷ []) (inner p.0) p.1
  in_context f a inner h = inner (part f a h).0

  -- so it holds of all on the path
  pub all_on_path : (t : Term) → P t → AreAll Q (cleanup_terms t)
  all_on_path = along_path (λ t. P t → AreAll Q (cleanup_terms t)) in_context (λ t bare h. rw bare tt)
