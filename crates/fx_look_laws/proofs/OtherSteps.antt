-- Two fibers in whose terms some fibers begin otherwise make the same steps, and wait where the other does.
use Rattle.std.proofs.Common.{◌≡◌, ℕ, Bool, true, false, not, Option, List, [], ◌∷◌, ◌++◌, refl, sym, ◌∙◌, ap, subst}
use Rattle.fx_term.specs.declared.outcome.Outcome.{Outcome}
use Rattle.fx_term.specs.Term.{Term}
use Rattle.fx_term.specs.Need.{need}
use Rattle.fx_mask.specs.Closing.{Closing, Seal, Region, without_region, is_none_closed}
use Rattle.fx_model.specs.Path.{CleanupTerm, Finalizer, Release, leaf, closed_regions, cleanup_terms, is_canceled_form, is_open, must_cancel}
use Rattle.fx_model.specs.Row.{Counts, Label, Row}
use Rattle.fx_model.specs.Run.{Leads}
use Rattle.fx_model.specs.Step.{Progress, Runs, Unwinds, CleansUp, HasEnded, Step, has_ended}
use Rattle.fx_model.specs.Step as step
use Rattle.fx_model.specs.Outside.{Outside, can_step, leaf_can_step}
use Rattle.fx_script_laws.specs.Filled.{none_bound}
use Rattle.fx_look_laws.specs.OtherFibers.{StartsOthers}
use Rattle.fx_look_laws.specs.OtherFibers as others
use Rattle.fx_look_laws.proofs.OtherTerms.{ArePutToo}
use Rattle.fx_look_laws.proofs.OtherRows.{AreLikeLabels, itself, RowIsLike, row_like}

module _ {Pair : (ℕ → Bool) → Term → Term → Type 0} where
  canceled_too : {v : ℕ → Bool} {t u : Term} → StartsOthers Pair v t u → is_canceled_form (leaf t) ≡ is_canceled_form (leaf u)
  canceled_too (others.let_ p q) = canceled_too p
  canceled_too (others.handle p q) = canceled_too p
  canceled_too (others.oncancel p q) = canceled_too p
  canceled_too (others.bracket p q r) = canceled_too p
  canceled_too (others.bracket_case p q r s w) = canceled_too p
  canceled_too (others.masked p) = canceled_too p
  canceled_too (others.opened p) = canceled_too p
  canceled_too (others.in_use p q) = canceled_too p
  canceled_too (others.in_use_case p q r s) = canceled_too p
  canceled_too (others.in_release p) = canceled_too p
  canceled_too _ = refl

  leaf_too : (o : Outside) {v : ℕ → Bool} {t u : Term} → StartsOthers Pair v t u → leaf_can_step o (leaf t) ≡ leaf_can_step o (leaf u)
  leaf_too o (others.let_ p q) = leaf_too o p
  leaf_too o (others.handle p q) = leaf_too o p
  leaf_too o (others.oncancel p q) = leaf_too o p
  leaf_too o (others.bracket p q r) = leaf_too o p
  leaf_too o (others.bracket_case p q r s w) = leaf_too o p
  leaf_too o (others.masked p) = leaf_too o p
  leaf_too o (others.opened p) = leaf_too o p
  leaf_too o (others.in_use p q) = leaf_too o p
  leaf_too o (others.in_use_case p q r s) = leaf_too o p
  leaf_too o (others.in_release p) = leaf_too o p
  leaf_too o _ = refl

  closed_too : (outer : List Closing) {v : ℕ → Bool} {t u : Term} → StartsOthers Pair v t u → closed_regions outer t ≡ closed_regions outer u
  closed_too outer (others.let_ p q) = closed_too outer p
  closed_too outer (others.handle p q) = closed_too outer p
  closed_too outer (others.oncancel p q) = closed_too outer p
  closed_too outer (others.bracket p q r) = closed_too (Seal ∷ outer) p
  closed_too outer (others.bracket_case p q r s w) = closed_too (Seal ∷ outer) p
  closed_too outer (others.masked {r = r} p) = closed_too (Region r ∷ outer) p
  closed_too outer (others.opened {r = r} p) = closed_too (without_region r outer) p
  closed_too outer (others.in_use p q) = closed_too outer p
  closed_too outer (others.in_use_case p q r s) = closed_too outer p
  closed_too outer (others.in_release p) = closed_too (Seal ∷ outer) p
  closed_too outer _ = refl

  open_too : {v : ℕ → Bool} {t u : Term} → StartsOthers Pair v t u → is_open t ≡ is_open u
  open_too p = ap is_none_closed (closed_too [] p)

  must_too : (known : Bool) {v : ℕ → Bool} {t u : Term} → StartsOthers Pair v t u → must_cancel known t ≡ must_cancel known u
  must_too known p = let e = open_too p in let f = canceled_too p in cc

-- clean-ups in which some fibers begin otherwise
pub data AreLikeCleanups (Pair : (ℕ → Bool) → Term → Term → Type 0) : List CleanupTerm → List CleanupTerm → Type 0 where
  none : AreLikeCleanups Pair [] []
  finalizer : {f f' : Term} {xs ys : List CleanupTerm} → StartsOthers Pair none_bound f f' → AreLikeCleanups Pair xs ys
      → AreLikeCleanups Pair (Finalizer f ∷ xs) (Finalizer f' ∷ ys)
  release : {k : ℕ} {r r' : Term} {xs ys : List CleanupTerm} → StartsOthers Pair none_bound r r' → AreLikeCleanups Pair xs ys
      → AreLikeCleanups Pair (Release k r ∷ xs) (Release k r' ∷ ys)

-- how far two fibers are in which some fibers begin otherwise
pub data AreLikeProgress (Pair : (ℕ → Bool) → Term → Term → Type 0) : Progress → Progress → Type 0 where
  runs : {t u : Term} → StartsOthers Pair none_bound t u → AreLikeProgress Pair (Runs t) (Runs u)
  unwinds : {xs ys : List CleanupTerm} → AreLikeCleanups Pair xs ys → AreLikeProgress Pair (Unwinds xs) (Unwinds ys)
  cleans : {k : Option ℕ} {t u : Term} {xs ys : List CleanupTerm} → StartsOthers Pair none_bound t u → AreLikeCleanups Pair xs ys
      → AreLikeProgress Pair (CleansUp k t xs) (CleansUp k u ys)
  ended : {o : Outcome} → AreLikeProgress Pair (HasEnded o) (HasEnded o)

-- the labels are the same but for how what they start begins
pub data AllLike (Pair : (ℕ → Bool) → Term → Term → Type 0) : List Label → List Label → Type 0 where
  none : AllLike Pair [] []
  more : {l l' : Label} {ls ls' : List Label} → AreLikeLabels Pair l l' → AllLike Pair ls ls' → AllLike Pair (l ∷ ls) (l' ∷ ls')

module _ {Pair : (ℕ → Bool) → Term → Term → Type 0} where
  both_lists : {xs ys us vs : List CleanupTerm} → AreLikeCleanups Pair xs ys → AreLikeCleanups Pair us vs → AreLikeCleanups Pair (xs ++ us) (ys ++ vs)
  both_lists none q = q
  both_lists (finalizer f p) q = finalizer f (both_lists p q)
  both_lists (release r p) q = release r (both_lists p q)

  same_cleanups : (xs : List CleanupTerm) → AreLikeCleanups Pair xs xs
  same_cleanups [] = none
  same_cleanups (Finalizer f ∷ xs) = finalizer others.same (same_cleanups xs)
  same_cleanups (Release k r ∷ xs) = release others.same (same_cleanups xs)

  cleanups_too : {t u : Term} → StartsOthers Pair none_bound t u → AreLikeCleanups Pair (cleanup_terms t) (cleanup_terms u)
  cleanups_too (others.same {t = t}) = same_cleanups (cleanup_terms t)
  cleanups_too (others.let_ p q) = cleanups_too p
  cleanups_too (others.handle p q) = cleanups_too p
  cleanups_too (others.oncancel p q) = both_lists (cleanups_too p) (finalizer q none)
  cleanups_too (others.bracket p q r) = cleanups_too p
  cleanups_too (others.bracket_case p q r s w) = cleanups_too p
  cleanups_too (others.masked p) = cleanups_too p
  cleanups_too (others.opened p) = cleanups_too p
  cleanups_too (others.in_use {k = k} p q) = both_lists (cleanups_too p) (release {k = k} q none)
  cleanups_too (others.in_use_case {k = k} p q r s) = both_lists (cleanups_too p) (release {k = k} s none)
  cleanups_too (others.in_release p) = cleanups_too p
  cleanups_too (others.if_ p q) = none
  cleanups_too (others.for_ p) = none
  cleanups_too (others.mask p) = none
  cleanups_too (others.poll p) = none
  cleanups_too (others.starts p q) = none
  cleanups_too (others.start p q) = none
  cleanups_too (others.join p q r) = none
  cleanups_too (others.try_take p q) = none
  cleanups_too (others.loop p) = none

  -- whether they can step, and whether they have ended
  pub can_too : (o : Outside) (f : ℕ) (c : Counts) {p q : Progress} → AreLikeProgress Pair p q → can_step o f c p ≡ can_step o f c q
  can_too o f c (runs p) = let a = must_too c.known p in let b = open_too p in let d = leaf_too o p in cc
  can_too o f c (unwinds q) = refl
  can_too o f c (cleans p q) = leaf_too o p
  can_too o f c ended = refl

  pub ended_too : {p q : Progress} → AreLikeProgress Pair p q → has_ended p ≡ has_ended q
  ended_too (runs p) = refl
  ended_too (unwinds q) = refl
  ended_too (cleans p q) = refl
  ended_too ended = refl

module _ (Pair : (ℕ → Bool) → Term → Term → Type 0) where
  record StepIsLike (c : Counts) (q : Progress) (l : Label) (d : Counts) (m : Progress) : Type 0 where
    pub label : Label
    pub progress : Progress
    pub step : Step c q label d progress
    pub like : AreLikeLabels Pair l label
    pub is_like : AreLikeProgress Pair m progress

  -- a run of the other fiber that shows the same, but for how what it starts begins
  pub record RunIsLike (c : Counts) (q : Progress) (ls : List Label) (d : Counts) (r : Progress) : Type 0 where
    pub labels : List Label
    pub progress : Progress
    pub run : Leads c q labels d progress
    pub like : AllLike Pair ls labels
    pub is_like : AreLikeProgress Pair r progress

module _ {Pair : (ℕ → Bool) → Term → Term → Type 0} (puts : ArePutToo Pair) (needs : (v : ℕ → Bool) (t u : Term) → Pair v t u → need t ≡ need u) where
  same_step : {c d : Counts} {q m m' : Progress} {l : Label} → Step c q l d m' → AreLikeProgress Pair m m' → StepIsLike Pair c q l d m
  same_step {m' = m'} {l = l} s f = record { label = l; progress = m'; step = s; like = itself; is_like = f }

  runs_on : {c d : Counts} {u : Term} {l : Label} {t' : Term} → must_cancel c.known u ≡ false → RowIsLike Pair puts needs (not (is_open u)) c u l d t'
      → StepIsLike Pair c (Runs u) l d (Runs t')
  runs_on free r = record { label = r.label; progress = Runs r.term; step = step.row free r.row; like = r.like; is_like = runs r.terms }

  run_step : {c d : Counts} {t u : Term} {l : Label} {m : Progress} → Step c (Runs t) l d m → StartsOthers Pair none_bound t u
      → StepIsLike Pair c (Runs u) l d m
  run_step {c} (step.cancelled must) p = same_step (step.cancelled (sym (must_too c.known p) ∙ must)) (unwinds (cleanups_too p))
  run_step {c} (step.seen free opened) p = same_step (step.seen (sym (must_too c.known p) ∙ free) (sym (open_too p) ∙ opened)) (runs p)
  run_step {c} {d} {t} {u} {l} (step.row {t' = w} free r) p =
      runs_on (sym (must_too c.known p) ∙ free) (row_like Pair puts needs (subst (λ (b : Bool). Row (not b) c t l d w) (open_too p) r) p)
  run_step (step.succeeds free) others.same = same_step (step.succeeds free) ended
  run_step (step.errs free) others.same = same_step (step.errs free) ended

  cleans_on : {c d : Counts} {u : Term} {l : Label} {t' : Term} {xs ys : List CleanupTerm} (k : Option ℕ) → AreLikeCleanups Pair xs ys
      → RowIsLike Pair puts needs true c u l d t' → StepIsLike Pair c (CleansUp k u ys) l d (CleansUp k t' xs)
  cleans_on {ys = ys} k q r =
      record { label = r.label; progress = CleansUp k r.term ys; step = step.cleans r.row; like = r.like; is_like = cleans r.terms q }

  one_step : {c d : Counts} {p q m : Progress} {l : Label} → Step c p l d m → AreLikeProgress Pair p q → StepIsLike Pair c q l d m
  one_step s (runs p) = run_step s p
  one_step step.finalizer (unwinds (finalizer p q)) = same_step step.finalizer (cleans p q)
  one_step step.release (unwinds (release p q)) = same_step step.release (cleans p q)
  one_step step.unwound (unwinds none) = same_step step.unwound ended
  one_step (step.cleans r) (cleans {k = k} p q) = cleans_on k q (row_like Pair puts needs r p)
  one_step step.finalizer_ends (cleans others.same q) = same_step step.finalizer_ends (unwinds q)
  one_step step.release_ends (cleans others.same q) = same_step step.release_ends (unwinds q)
  one_step {c = c} {d = d} {m = m} {l = l} s (ended {o = o}) = elim s [ ]

  pub run_too : (ls : List Label) (c d : Counts) (p q r : Progress) → AreLikeProgress Pair p q → Leads c p ls d r → RunIsLike Pair c q ls d r
  run_too [] c d p q r f h =
      record { labels = []; progress = q; run = (h.0, refl); like = none; is_like = subst (λ (m : Progress). AreLikeProgress Pair m q) (sym h.1) f }
  run_too (l ∷ ls) c d p q r f h =
      let s = one_step h.2 f in
      let k = run_too ls h.0 d h.1 s.progress r s.is_like h.3 in
      record {
        labels = s.label ∷ k.labels;
        progress = k.progress;
        run = (h.0, s.progress, s.step, k.run);
        like = more s.like k.like;
        is_like = k.is_like;
      }
