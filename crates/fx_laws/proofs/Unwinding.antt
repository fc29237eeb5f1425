-- Clean-ups of two fibers, of which each makes the rows of the other.
use Rattle.std.proofs.Common.{◌≡◌, ℕ, Option, Some, None, List, [], ◌∷◌, ◌++◌, refl}
use Rattle.fx_term.specs.declared.done.Done.{Done}
use Rattle.fx_term.specs.Term.{Term, Finished}
use Rattle.fx_model.specs.Path.{CleanupTerm, Finalizer, Release}
use Rattle.fx_term.specs.declared.event.Event.TheVariants as event
use Rattle.fx_model.specs.Row.{Counts, Shows}
use Rattle.fx_model.specs.Step.{Unwinds, CleansUp}
use Rattle.fx_laws.proofs.Views.{View, IsMatched}
use Rattle.fx_laws.proofs.Inside.{RowsAreFollowed, ResultsAreResults}
use Rattle.fx_laws.proofs.Forced.{follow_forced, begins_finalizer, begins_release, ends_finalizer, ends_release}
use Rattle.fx_laws.proofs.Shut.{cleaning, Always, cleanup_is_shut, shut_matched}

-- clean-ups, each the same as that of the other fiber, and then these
pub data AreSameBefore (v : View) (Same : Term → Term → Type 0) (us vs : List CleanupTerm) : List CleanupTerm → List CleanupTerm → Type 0 where
  last : AreSameBefore v Same us vs us vs
  finalizer : {f f' : Term} {xs ys : List CleanupTerm} → Same f f' → AreSameBefore v Same us vs xs ys
      → AreSameBefore v Same us vs (Finalizer f ∷ xs) (Finalizer f' ∷ ys)
  release : {k k' : ℕ} {r r' : Term} {xs ys : List CleanupTerm} → v.of (Shows (event.Begin k') ∷ []) ≡ v.of (Shows (event.Begin k) ∷ [])
      → v.of (Shows (event.End k') ∷ []) ≡ v.of (Shows (event.End k) ∷ []) → Same r r' → AreSameBefore v Same us vs xs ys
      → AreSameBefore v Same us vs (Release k r ∷ xs) (Release k' r' ∷ ys)

pub same_before : (v : View) (us vs xs : List CleanupTerm) → AreSameBefore v (λ (t u : Term). t ≡ u) us vs (xs ++ us) (xs ++ vs)
same_before v us vs [] = last
same_before v us vs (Finalizer f ∷ xs) = finalizer refl (same_before v us vs xs)
same_before v us vs (Release k r ∷ xs) = release refl refl refl (same_before v us vs xs)

module _ (v : View) (Near : Counts → Counts → Type 0) (Same : Term → Term → Type 0) (rows : RowsAreFollowed v Near Same)
    (results : ResultsAreResults v Near Same) where
  cleanup_matched : (k k' : Option ℕ) (xs ys : List CleanupTerm)
      → ((c c' : Counts) → Near c c' → (w : Done) → IsMatched v c (CleansUp k (Finished w) xs) c' (CleansUp k' (Finished w) ys))
      → (c c' : Counts) (t t' : Term) → Near c c' → Same t t' → IsMatched v c (CleansUp k t xs) c' (CleansUp k' t' ys)
  cleanup_matched k k' xs ys ends =
      shut_matched v Near Same rows results (cleaning k [] xs) (cleaning k' [] ys) Always Always (cleanup_is_shut k [] xs)
      (cleanup_is_shut k' [] ys)
      (λ t t' s. (tt, tt)) ends

  pub unwinding_matched : (us vs : List CleanupTerm) → ((c c' : Counts) → Near c c' → IsMatched v c (Unwinds us) c' (Unwinds vs))
      → {xs ys : List CleanupTerm} → AreSameBefore v Same us vs xs ys → (c c' : Counts) → Near c c' → IsMatched v c (Unwinds xs) c' (Unwinds ys)
  unwinding_matched us vs tail last c c' near = tail c c' near
  unwinding_matched us vs tail (finalizer {f = f} {f' = f'} {xs = xs} {ys = ys} s more) c c' near =
      let rest = unwinding_matched us vs tail more in
      let here = cleanup_matched None None xs ys
      (λ d d' n w. follow_forced v refl (ends_finalizer d w xs) (ends_finalizer d' w ys).step (rest d d' n)) c c' f f' near s in
      follow_forced v refl (begins_finalizer c f xs) (begins_finalizer c' f' ys).step here
  unwinding_matched us vs tail (release {k = k} {k' = k'} {r = r} {r' = r'} {xs = xs} {ys = ys} begins ends s more) c c' near =
      let rest = unwinding_matched us vs tail more in
      let here = cleanup_matched (Some k) (Some k') xs ys
      (λ d d' n w. follow_forced v ends (ends_release d k w xs) (ends_release d' k' w ys).step (rest d d' n)) c c' r r' near s in
      follow_forced v begins (begins_release c k r xs) (begins_release c' k' r' ys).step here
