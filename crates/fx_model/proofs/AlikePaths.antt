-- Alike terms stand at alike places: what closes them, their leaves, and their clean-ups.
use Rattle.std.proofs.Common.{◌≡◌, ℕ, ◌==◌, ◌≤◌, if◌then◌else◌, Bool, true, false, List, [], ◌∷◌, ◌++◌, refl, arith}
use Rattle.std.proofs.lemmas.Bool.Decides.{nat_tests}
use Rattle.fx_term.specs.Term.{Term}
use Rattle.fx_mask.specs.Closing.{Closing, Region, Seal, without_region, is_none_closed}
use Rattle.fx_model.specs.Path.{CleanupTerm, Finalizer, Release, closed_regions, cleanup_terms, leaf, is_canceled_form}
use Rattle.fx_model.proofs.Alike.{IsSameRegion, Alike}
use Rattle.fx_model.proofs.Alike as alike

same_test : (low low' q q' r r' : ℕ) → IsSameRegion low low' q q' → IsSameRegion low low' r r' → (q == r) ≡ (q' == r')
same_test low low' q q' r r' s e = grind (arith, nat_tests)

module _ (low low' : ℕ) where
  pub leaf_alike : {t t' : Term} → Alike low low' t t' → is_canceled_form (leaf t) ≡ is_canceled_form (leaf t')
  leaf_alike (alike.let_ p u q) = leaf_alike p
  leaf_alike (alike.handle p u q) = leaf_alike p
  leaf_alike (alike.oncancel p q) = leaf_alike p
  leaf_alike (alike.bracket p i q j r) = leaf_alike p
  leaf_alike (alike.bracket_case p i q j k r l m s n t) = leaf_alike p
  leaf_alike (alike.masked s p) = leaf_alike p
  leaf_alike (alike.opened s p) = leaf_alike p
  leaf_alike (alike.using_ p q) = leaf_alike p
  leaf_alike (alike.using_case p i q j r s) = leaf_alike p
  leaf_alike (alike.releasing p) = leaf_alike p
  leaf_alike _ = refl

  -- the same clean-ups but for the numbers of regions
  pub data AreCleanupTerms : List CleanupTerm → List CleanupTerm → Type 0 where
    none : AreCleanupTerms [] []
    finalizer : {f f' : Term} {xs ys : List CleanupTerm} → Alike low low' f f' → AreCleanupTerms xs ys → AreCleanupTerms (Finalizer f ∷ xs) (Finalizer f' ∷ ys)
    release : {k : ℕ} {r r' : Term} {xs ys : List CleanupTerm} → Alike low low' r r' → AreCleanupTerms xs ys
        → AreCleanupTerms (Release k r ∷ xs) (Release k r' ∷ ys)

  one_more : {xs ys us vs : List CleanupTerm} → AreCleanupTerms xs ys → AreCleanupTerms us vs → AreCleanupTerms (xs ++ us) (ys ++ vs)
  one_more none q = q
  one_more (finalizer f p) q = finalizer f (one_more p q)
  one_more (release r p) q = release r (one_more p q)

  pub cleanups_alike : {t t' : Term} → Alike low low' t t' → AreCleanupTerms (cleanup_terms t) (cleanup_terms t')
  cleanups_alike (alike.let_ p u q) = cleanups_alike p
  cleanups_alike (alike.handle p u q) = cleanups_alike p
  cleanups_alike (alike.oncancel p q) = one_more (cleanups_alike p) (finalizer q none)
  cleanups_alike (alike.bracket p i q j r) = cleanups_alike p
  cleanups_alike (alike.bracket_case p i q j k r l m s n t) = cleanups_alike p
  cleanups_alike (alike.masked s p) = cleanups_alike p
  cleanups_alike (alike.opened s p) = cleanups_alike p
  cleanups_alike (alike.using_ p q) = one_more (cleanups_alike p) (release q none)
  cleanups_alike (alike.using_case p i q j r s) = one_more (cleanups_alike p) (release s none)
  cleanups_alike (alike.releasing p) = cleanups_alike p
  cleanups_alike _ = none

  -- what closes the two places outside, of which the terms inside have no number
  module _ (outer outer' : List Closing) (kept : (r : ℕ) → low ≤ r → without_region r outer ≡ outer)
      (kept' : (r : ℕ) → low' ≤ r → without_region r outer' ≡ outer') where
    data AreClosings : List Closing → List Closing → Type 0 where
      outside : AreClosings outer outer'
      region : {r r' : ℕ} {cs cs' : List Closing} → IsSameRegion low low' r r' → AreClosings cs cs' → AreClosings (Region r ∷ cs) (Region r' ∷ cs')
      seal : {cs cs' : List Closing} → AreClosings cs cs' → AreClosings (Seal ∷ cs) (Seal ∷ cs')

    taken_off : {r r' : ℕ} {cs cs' : List Closing} → IsSameRegion low low' r r' → AreClosings cs cs' → AreClosings (without_region r cs) (without_region r' cs')
    taken_off {r} {r'} e outside = rw (kept r e.from, kept' r' e.from') outside
    taken_off {r} {r'} e (region {r = q} {r' = q'} {cs = cs} {cs' = cs'} s p) = by_test (q == r) (q' == r') (same_test low low' q q' r r' s e)
      where
        by_test : (b b' : Bool) → b ≡ b' → AreClosings (if b then cs else Region q ∷ cs) (if b' then cs' else Region q' ∷ cs')
        by_test true true same = p
        by_test false false same = region s p
        by_test true false same = absurd cc
        by_test false true same = absurd cc
    taken_off e (seal p) = seal p

    closings_alike : {t t' : Term} {cs cs' : List Closing} → Alike low low' t t' → AreClosings cs cs'
        → AreClosings (closed_regions cs t) (closed_regions cs' t')
    closings_alike (alike.let_ p u q) h = closings_alike p h
    closings_alike (alike.handle p u q) h = closings_alike p h
    closings_alike (alike.oncancel p q) h = closings_alike p h
    closings_alike (alike.bracket p i q j r) h = closings_alike p (seal h)
    closings_alike (alike.bracket_case p i q j k r l m s n t) h = closings_alike p (seal h)
    closings_alike (alike.masked s p) h = closings_alike p (region s h)
    closings_alike (alike.opened s p) h = closings_alike p (taken_off s h)
    closings_alike (alike.using_ p q) h = closings_alike p h
    closings_alike (alike.using_case p i q j r s) h = closings_alike p h
    closings_alike (alike.releasing p) h = closings_alike p (seal h)
    closings_alike alike.await h = seal h
    closings_alike _ h = h

    none_alike : {cs cs' : List Closing} → is_none_closed outer ≡ is_none_closed outer' → AreClosings cs cs' → is_none_closed cs ≡ is_none_closed cs'
    none_alike same outside = same
    none_alike same (region s p) = refl
    none_alike same (seal p) = refl

    -- both places are closed or both are open, where those outside are so
    pub closed_alike : {t t' : Term} → is_none_closed outer ≡ is_none_closed outer' → Alike low low' t t'
        → is_none_closed (closed_regions outer t) ≡ is_none_closed (closed_regions outer' t')
    closed_alike same p = none_alike same (closings_alike p outside)

    -- a place inside is closed where the one outside is
    pub stays_closed : {t t' : Term} → is_none_closed outer ≡ false → Alike low low' t t' → is_none_closed (closed_regions outer t) ≡ false
    stays_closed closed p = still_closed (closings_alike p outside)
      where
        still_closed : {cs cs' : List Closing} → AreClosings cs cs' → is_none_closed cs ≡ false
        still_closed outside = closed
        still_closed (region s h) = refl
        still_closed (seal h) = refl
