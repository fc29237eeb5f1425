-- Fibers whose terms are the same but for the numbers of their regions make the same steps.
use Rattle.std.proofs.Common.{◌≡◌, ℕ, ◌+◌, ◌==◌, ◌≤◌, if◌then◌else◌, Bool, true, false, not, Option, List, [], ◌∷◌, ◌++◌, refl, sym, ◌∙◌, subst, arith}
use Rattle.std.proofs.lemmas.Bool.{ne_eqb}
use Rattle.std.proofs.lemmas.Bool.Decides.{nat_tests}
use Rattle.fx_term.specs.declared.outcome.Outcome.{Outcome}
use Rattle.fx_term.specs.Term.{Term}
use Rattle.fx_mask.specs.Closing.{Closing, Region, Seal, without_region, is_none_closed}
use Rattle.fx_model.specs.Path.{CleanupTerm, Finalizer, Release, closed_regions, cleanup_terms, leaf, is_canceled_form, is_open, must_cancel}
use Rattle.fx_model.specs.Row.{Counts, Label, Row}
use Rattle.fx_model.specs.Step.{Progress, Runs, Unwinds, CleansUp, HasEnded, Step, has_ended}
use Rattle.fx_model.specs.Step as step
use Rattle.fx_model.specs.Outside.{Outside, can_step, leaf_can_step}
use Rattle.fx_model.proofs.AlikeRows.{with_masks}
use Rattle.fx_script_laws.proofs.Renumbered.{Shift, AreRegionsOf, kept, moved, IsRenumbered, number, slot, value, fiber}
use Rattle.fx_script_laws.proofs.Renumbered as renumbered
use Rattle.fx_script_laws.proofs.RenumberedRows.{IsRowToo, row_renumbered}

module _ (m : Shift) where
  same_test : {q q' r r' : ℕ} → AreRegionsOf m q q' → AreRegionsOf m r r' → (q == r) ≡ (q' == r')
  same_test (kept h) (kept k) = refl
  same_test {q} {q'} {r} {r'} (kept h) (moved others a b l l' e) = rw (ne_eqb q r (omega (arith, h, a)), ne_eqb q r' (omega (arith, h, b))) refl
  same_test {q} {q'} {r} {r'} (moved others a b l l' e) (kept k) = rw (ne_eqb q r (omega (arith, k, a)), ne_eqb q' r (omega (arith, k, b))) refl
  same_test {q} {q'} {r} {r'} (moved others a b l l' e) (moved others' c d k k' f) = grind (arith, nat_tests)

  leaf_renumbered : {t t' : Term} → IsRenumbered m t t' → is_canceled_form (leaf t) ≡ is_canceled_form (leaf t')
  leaf_renumbered (renumbered.let_ p u q) = leaf_renumbered p
  leaf_renumbered (renumbered.handle p u q) = leaf_renumbered p
  leaf_renumbered (renumbered.oncancel p q) = leaf_renumbered p
  leaf_renumbered (renumbered.bracket p i q j r) = leaf_renumbered p
  leaf_renumbered (renumbered.bracket_case p i q j k r l n s o t) = leaf_renumbered p
  leaf_renumbered (renumbered.masked s p) = leaf_renumbered p
  leaf_renumbered (renumbered.opened s p) = leaf_renumbered p
  leaf_renumbered (renumbered.using_ p q) = leaf_renumbered p
  leaf_renumbered (renumbered.using_case p i q j r s) = leaf_renumbered p
  leaf_renumbered (renumbered.releasing p) = leaf_renumbered p
  leaf_renumbered _ = refl

  pub waits_renumbered : (o : Outside) {t t' : Term} → IsRenumbered m t t' → leaf_can_step o (leaf t) ≡ leaf_can_step o (leaf t')
  waits_renumbered o (renumbered.let_ p u q) = waits_renumbered o p
  waits_renumbered o (renumbered.handle p u q) = waits_renumbered o p
  waits_renumbered o (renumbered.oncancel p q) = waits_renumbered o p
  waits_renumbered o (renumbered.bracket p i q j r) = waits_renumbered o p
  waits_renumbered o (renumbered.bracket_case p i q j k r l n s v t) = waits_renumbered o p
  waits_renumbered o (renumbered.masked s p) = waits_renumbered o p
  waits_renumbered o (renumbered.opened s p) = waits_renumbered o p
  waits_renumbered o (renumbered.using_ p q) = waits_renumbered o p
  waits_renumbered o (renumbered.using_case p i q j r s) = waits_renumbered o p
  waits_renumbered o (renumbered.releasing p) = waits_renumbered o p
  waits_renumbered o (renumbered.join (number fiber) u p v q r) = refl
  waits_renumbered o (renumbered.join slot u p v q r) = refl
  waits_renumbered o (renumbered.first (number fiber) (number fiber)) = refl
  waits_renumbered o (renumbered.first (number fiber) slot) = refl
  waits_renumbered o (renumbered.first slot (number fiber)) = refl
  waits_renumbered o (renumbered.first slot slot) = refl
  waits_renumbered o _ = refl

  -- the same clean-ups but for the numbers of regions
  pub data AreCleanupsToo : List CleanupTerm → List CleanupTerm → Type 0 where
    none : AreCleanupsToo [] []
    finalizer : {f f' : Term} {xs ys : List CleanupTerm} → IsRenumbered m f f' → AreCleanupsToo xs ys → AreCleanupsToo (Finalizer f ∷ xs) (Finalizer f' ∷ ys)
    release : {k : ℕ} {r r' : Term} {xs ys : List CleanupTerm} → IsRenumbered m r r' → AreCleanupsToo xs ys
        → AreCleanupsToo (Release k r ∷ xs) (Release k r' ∷ ys)

  one_more : {xs ys us vs : List CleanupTerm} → AreCleanupsToo xs ys → AreCleanupsToo us vs → AreCleanupsToo (xs ++ us) (ys ++ vs)
  one_more none q = q
  one_more (finalizer f p) q = finalizer f (one_more p q)
  one_more (release r p) q = release r (one_more p q)

  cleanups_renumbered : {t t' : Term} → IsRenumbered m t t' → AreCleanupsToo (cleanup_terms t) (cleanup_terms t')
  cleanups_renumbered (renumbered.let_ p u q) = cleanups_renumbered p
  cleanups_renumbered (renumbered.handle p u q) = cleanups_renumbered p
  cleanups_renumbered (renumbered.oncancel p q) = one_more (cleanups_renumbered p) (finalizer q none)
  cleanups_renumbered (renumbered.bracket p i q j r) = cleanups_renumbered p
  cleanups_renumbered (renumbered.bracket_case p i q j k r l n s o t) = cleanups_renumbered p
  cleanups_renumbered (renumbered.masked s p) = cleanups_renumbered p
  cleanups_renumbered (renumbered.opened s p) = cleanups_renumbered p
  cleanups_renumbered (renumbered.using_ p q) = one_more (cleanups_renumbered p) (release q none)
  cleanups_renumbered (renumbered.using_case p i q j r s) = one_more (cleanups_renumbered p) (release s none)
  cleanups_renumbered (renumbered.releasing p) = cleanups_renumbered p
  cleanups_renumbered _ = none

  -- what closes the two places, inside of what none of these regions takes away
  module _ (outer outer' : List Closing)
      (stay : (r r' : ℕ) → AreRegionsOf m r r' → (without_region r outer ≡ outer) × (without_region r' outer' ≡ outer')) where
    data AreClosedToo : List Closing → List Closing → Type 0 where
      outside : AreClosedToo outer outer'
      region : {r r' : ℕ} {cs cs' : List Closing} → AreRegionsOf m r r' → AreClosedToo cs cs' → AreClosedToo (Region r ∷ cs) (Region r' ∷ cs')
      seal : {cs cs' : List Closing} → AreClosedToo cs cs' → AreClosedToo (Seal ∷ cs) (Seal ∷ cs')

    taken_off : {r r' : ℕ} {cs cs' : List Closing} → AreRegionsOf m r r' → AreClosedToo cs cs' → AreClosedToo (without_region r cs) (without_region r' cs')
    taken_off {r} {r'} e outside = rw ((stay r r' e).0, (stay r r' e).1) outside
    taken_off {r} {r'} e (region {r = q} {r' = q'} {cs = cs} {cs' = cs'} s p) = by_test (q == r) (q' == r') (same_test s e)
      where
        by_test : (b b' : Bool) → b ≡ b' → AreClosedToo (if b then cs else Region q ∷ cs) (if b' then cs' else Region q' ∷ cs')
        by_test true true same = p
        by_test false false same = region s p
        by_test true false same = absurd cc
        by_test false true same = absurd cc
    taken_off e (seal p) = seal p

    closed_renumbered : {t t' : Term} {cs cs' : List Closing} → IsRenumbered m t t' → AreClosedToo cs cs'
        → AreClosedToo (closed_regions cs t) (closed_regions cs' t')
    closed_renumbered (renumbered.let_ p u q) h = closed_renumbered p h
    closed_renumbered (renumbered.handle p u q) h = closed_renumbered p h
    closed_renumbered (renumbered.oncancel p q) h = closed_renumbered p h
    closed_renumbered (renumbered.bracket p i q j r) h = closed_renumbered p (seal h)
    closed_renumbered (renumbered.bracket_case p i q j k r l n s o t) h = closed_renumbered p (seal h)
    closed_renumbered (renumbered.masked s p) h = closed_renumbered p (region s h)
    closed_renumbered (renumbered.opened s p) h = closed_renumbered p (taken_off s h)
    closed_renumbered (renumbered.using_ p q) h = closed_renumbered p h
    closed_renumbered (renumbered.using_case p i q j r s) h = closed_renumbered p h
    closed_renumbered (renumbered.releasing p) h = closed_renumbered p (seal h)
    closed_renumbered renumbered.await h = seal h
    closed_renumbered _ h = h

    none_closed : {cs cs' : List Closing} → is_none_closed outer ≡ is_none_closed outer' → AreClosedToo cs cs' → is_none_closed cs ≡ is_none_closed cs'
    none_closed same outside = same
    none_closed same (region s p) = refl
    none_closed same (seal p) = refl

    some_closed : {cs cs' : List Closing} → is_none_closed outer ≡ false → is_none_closed outer' ≡ false → AreClosedToo cs cs'
        → (is_none_closed cs ≡ false) × (is_none_closed cs' ≡ false)
    some_closed closed closed' outside = (closed, closed')
    some_closed closed closed' (region s p) = (refl, refl)
    some_closed closed closed' (seal p) = (refl, refl)

    -- what is closed outside is so inside
    pub stays_closed : {t t' : Term} → is_none_closed outer ≡ false → is_none_closed outer' ≡ false → IsRenumbered m t t'
        → (is_none_closed (closed_regions outer t) ≡ false) × (is_none_closed (closed_regions outer' t') ≡ false)
    stays_closed closed closed' p = some_closed closed closed' (closed_renumbered p outside)

  open_renumbered : {t t' : Term} → IsRenumbered m t t' → is_open t ≡ is_open t'
  open_renumbered p = none_closed [] [] (λ r r' s. (refl, refl)) refl (closed_renumbered [] [] (λ r r' s. (refl, refl)) p outside)

  must_renumbered : (known : Bool) {t t' : Term} → IsRenumbered m t t' → must_cancel known t ≡ must_cancel known t'
  must_renumbered known p = let e = open_renumbered p in let f = leaf_renumbered p in cc

  -- how far two such fibers are
  pub data IsProgressToo : Progress → Progress → Type 0 where
    runs : {t t' : Term} → IsRenumbered m t t' → IsProgressToo (Runs t) (Runs t')
    unwinds : {xs ys : List CleanupTerm} → AreCleanupsToo xs ys → IsProgressToo (Unwinds xs) (Unwinds ys)
    cleans : {k : Option ℕ} {t t' : Term} {xs ys : List CleanupTerm} → IsRenumbered m t t' → AreCleanupsToo xs ys
        → IsProgressToo (CleansUp k t xs) (CleansUp k t' ys)
    ended : {x : Outcome} → IsProgressToo (HasEnded x) (HasEnded x)

  -- the other fiber, which entered so many masks, makes the same step
  pub record IsStepToo (o : ℕ) (c : Counts) (p : Progress) (l : Label) (d : Counts) (q : Progress) : Type 0 where
    pub masks : ℕ
    pub progress : Progress
    pub step : Step (with_masks o c) p l (with_masks masks d) progress
    pub same : IsProgressToo q progress
    pub more : c.masks ≤ d.masks
    pub entered : masks + c.masks ≡ o + d.masks

  module _ (o : ℕ) where
    -- a step that enters no mask
    so : {c d : Counts} {p q q' : Progress} {l : Label} → c.masks ≡ d.masks → Step (with_masks o c) p l (with_masks o d) q' → IsProgressToo q q'
        → IsStepToo o c p l d q
    so {q' = q'} e s a = record { masks = o; progress = q'; step = s; same = a; more = omega (arith, e); entered = omega (arith, e) }

    runs_too : {c d : Counts} {t' u : Term} {l : Label} → must_cancel c.known t' ≡ false → IsRowToo m (not (is_open t')) o c t' l d u
        → IsStepToo o c (Runs t') l d (Runs u)
    runs_too free r =
        record { masks = r.masks; progress = Runs r.term; step = step.row free r.row; same = runs r.same; more = r.more; entered = r.entered }

    cleans_too : {c d : Counts} {k : Option ℕ} {t' u : Term} {xs ys : List CleanupTerm} {l : Label} → AreCleanupsToo xs ys → IsRowToo m true o c t' l d u
        → IsStepToo o c (CleansUp k t' ys) l d (CleansUp k u xs)
    cleans_too {k = k} {ys = ys} q r =
        record {
          masks = r.masks;
          progress = CleansUp k r.term ys;
          step = step.cleans r.row;
          same = cleans r.same q;
          more = r.more;
          entered = r.entered;
        }

    pub step_too : {c d : Counts} {p q p' : Progress} {l : Label} → Step c p l d q → IsProgressToo p p'
        → (d.masks ≡ c.masks + 1 → AreRegionsOf m c.masks o) → IsStepToo o c p' l d q
    step_too {c} (step.cancelled must) (runs p) s =
        so refl (step.cancelled (sym (must_renumbered c.known p) ∙ must)) (unwinds (cleanups_renumbered p))
    step_too {c} (step.seen free opened) (runs p) s =
        so refl (step.seen (sym (must_renumbered c.known p) ∙ free) (sym (open_renumbered p) ∙ opened)) (runs p)
    step_too {c} {d} {l = l} (step.row {t = t} {t' = w} free r) (runs p) s =
        runs_too (sym (must_renumbered c.known p) ∙ free)
        (row_renumbered m o (subst (λ (b : Bool). Row (not b) c t l d w) (open_renumbered p) r) p s)
    step_too (step.succeeds free) (runs renumbered.finished) s = so refl (step.succeeds free) ended
    step_too (step.errs free) (runs renumbered.finished) s = so refl (step.errs free) ended
    step_too step.finalizer (unwinds (finalizer p q)) s = so refl step.finalizer (cleans p q)
    step_too step.release (unwinds (release p q)) s = so refl step.release (cleans p q)
    step_too (step.cleans r) (cleans p q) s = cleans_too q (row_renumbered m o r p s)
    step_too step.finalizer_ends (cleans renumbered.finished q) s = so refl step.finalizer_ends (unwinds q)
    step_too step.release_ends (cleans renumbered.finished q) s = so refl step.release_ends (unwinds q)
    step_too step.unwound (unwinds none) s = so refl step.unwound ended

  -- and waits where that does
  pub can_too : (o : Outside) (f : ℕ) (n : ℕ) (c : Counts) {p p' : Progress} → IsProgressToo p p' → can_step o f c p ≡ can_step o f (with_masks n c) p'
  can_too o f n c (runs p) = let a = must_renumbered c.known p in let b = open_renumbered p in let d = waits_renumbered o p in cc
  can_too o f n c (unwinds q) = refl
  can_too o f n c (cleans p q) = waits_renumbered o p
  can_too o f n c ended = refl

  pub ended_too : {p p' : Progress} → IsProgressToo p p' → has_ended p ≡ has_ended p'
  ended_too (runs p) = refl
  ended_too (unwinds q) = refl
  ended_too (cleans p q) = refl
  ended_too ended = refl
