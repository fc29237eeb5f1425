-- The places of two alike terms inside masks and polls of their own.
use Rattle.std.proofs.Common.{◌≡◌, ℕ, ◌≤◌, Bool, true, false, List, [], refl, sym, ◌∙◌, ap, subst}
use Rattle.fx_term.specs.declared.done.Done.{Done}
use Rattle.fx_term.specs.Term.{Term, Finished}
use Rattle.fx_mask.specs.Closing.{without_region, is_none_closed}
use Rattle.fx_model.specs.Path.{cleanup_terms, is_open, must_cancel}
use Rattle.fx_model.specs.Row.{Counts}
use Rattle.fx_model.specs.Step.{Runs}
use Rattle.fx_model.proofs.Alike.{Alike, finished}
use Rattle.fx_model.proofs.AlikeRows.{with_masks}
use Rattle.fx_model.proofs.AlikePaths.{leaf_alike, AreCleanupTerms, cleanups_alike, closed_alike, stays_closed}
use Rattle.fx_model.proofs.Wrapped.{Wrap, wrapped, closes, HaveNoFinalizer, cleanups_wrapped, open_wrapped, must_wrapped, finished_wrapped}
use Rattle.fx_model.proofs.WrappedEnds.{AreShutBelow, leaves_all}
use Rattle.fx_model.proofs.CancelledSteps.{must_is_open}
use Rattle.fx_model.proofs.ShownRuns.{Reaches}

-- masks, polls and finalizers of two fibers that entered so many regions with them: both close the place inside or neither does, and no region that is entered
-- later is theirs; where the place inside is open, there is no finalizer
pub record AreMatching (low low' : ℕ) (ws ws' : List Wrap) : Type 0 where
  pub kept : (r : ℕ) → low ≤ r → without_region r (closes ws) ≡ closes ws
  pub kept' : (r : ℕ) → low' ≤ r → without_region r (closes ws') ≡ closes ws'
  pub same : is_none_closed (closes ws) ≡ is_none_closed (closes ws')
  pub shut : AreShutBelow ws
  pub shut' : AreShutBelow ws'
  pub clean : is_none_closed (closes ws) ≡ true → HaveNoFinalizer ws × HaveNoFinalizer ws'

module _ (low low' : ℕ) where
  -- the whole of the first fiber, with the alike terms inside
  pub record AreInside (ws ws' : List Wrap) (whole t t' : Term) : Type 0 where
    pub sides : AreMatching low low' ws ws'
    pub whole_is : whole ≡ wrapped ws t
    pub are_alike : Alike low low' t t'

  pub bare_results : (v : Done) → AreInside [] [] (Finished v) (Finished v) (Finished v)
  bare_results v =
      record {
        sides = record { kept = λ r h. refl; kept' = λ r h. refl; same = refl; shut = tt; shut' = tt; clean = λ h. (tt, tt) };
        whole_is = refl;
        are_alike = finished;
      }

  pub record IsAlikePlace (t t' : Term) : Type 0 where
    pub must : (known : Bool) → must_cancel known t ≡ must_cancel known t'
    pub open_is : is_open t ≡ is_open t'
    pub clean : (known : Bool) → must_cancel known t ≡ true → AreCleanupTerms low low' (cleanup_terms t) (cleanup_terms t')

  clean_inside : (ws ws' : List Wrap) {whole t t' : Term} → AreInside ws ws' whole t t' → HaveNoFinalizer ws × HaveNoFinalizer ws'
      → AreCleanupTerms low low' (cleanup_terms whole) (cleanup_terms (wrapped ws' t'))
  clean_inside ws ws' {whole} {t} {t'} i none =
      let first : cleanup_terms whole ≡ cleanup_terms t = ap cleanup_terms i.whole_is ∙ cleanups_wrapped ws t none.0 in
      let second = cleanups_wrapped ws' t' none.1 in
      rw (first, second) (cleanups_alike low low' i.are_alike)

  -- an open place has an open place outside
  open_outside : (ws ws' : List Wrap) {whole t t' : Term} → AreInside ws ws' whole t t' → is_open whole ≡ true → is_none_closed (closes ws) ≡ true
  open_outside ws ws' {t = t} i opened = by_test (is_none_closed (closes ws)) refl
    where
      by_test : (b : Bool) → is_none_closed (closes ws) ≡ b → is_none_closed (closes ws) ≡ true
      by_test true e = e
      by_test false e =
          let shut = stays_closed low low' (closes ws) (closes ws') i.sides.kept i.sides.kept' e i.are_alike in
          let p = ap is_open i.whole_is in
          let q = open_wrapped ws t in
          absurd cc

  -- cancellation acts on both wholes or on neither, and their clean-ups are alike
  pub place_alike : (ws ws' : List Wrap) {whole t t' : Term} → AreInside ws ws' whole t t' → IsAlikePlace whole (wrapped ws' t')
  place_alike ws ws' {whole} {t} {t'} i =
      let e = i.whole_is in
      let closed = closed_alike low low' (closes ws) (closes ws') i.sides.kept i.sides.kept' i.sides.same i.are_alike in
      record {
        must = λ known. let p = must_wrapped known ws t in let q = must_wrapped known ws' t' in let r = leaf_alike low low' i.are_alike in cc;
        open_is = let p = open_wrapped ws t in let q = open_wrapped ws' t' in cc;
        clean = λ known must. clean_inside ws ws' i (i.sides.clean (open_outside ws ws' i (must_is_open known whole must)));
      }

  finished_alike : {v : Done} {t' : Term} → Alike low low' (Finished v) t' → t' ≡ Finished v
  finished_alike finished = refl

  -- where the term of the first fiber is a result, the second leaves its masks with the same result
  pub leaves_inside : (c : Counts) {m : ℕ} (ws ws' : List Wrap) {whole t' : Term} {v : Done} → AreInside ws ws' whole (Finished v) t'
      → must_cancel c.known (wrapped ws' t') ≡ false
      → Reaches (with_masks m c) (Runs (wrapped ws' t')) [] (with_masks m c) (Runs (Finished v))
  leaves_inside c {m} ws ws' {t' = t'} {v = v} i free =
      let same : t' ≡ Finished v = finished_alike i.are_alike in
      rw same (leaves_all (with_masks m c) ws' v i.sides.shut' (subst (λ (u : Term). must_cancel c.known (wrapped ws' u) ≡ false) same free))

  -- and so where the whole of the first is a result
  pub ends_inside : (c : Counts) {m : ℕ} (ws ws' : List Wrap) {t t' : Term} {v : Done} → AreInside ws ws' (Finished v) t t'
      → must_cancel c.known (Finished v) ≡ false
      → Reaches (with_masks m c) (Runs (wrapped ws' t')) [] (with_masks m c) (Runs (Finished v))
  ends_inside c ws ws' {t} {t'} {v} i free =
      let result : t ≡ Finished v = (finished_wrapped ws t v i.whole_is).1 in
      leaves_inside c ws ws' (subst (λ (u : Term). AreInside ws ws' (Finished v) u t') result i) (sym ((place_alike ws ws' i).must c.known) ∙ free)
