-- Two fibers that differ at such places make the same steps, unless one of the places is round the leaf.
use Rattle.std.proofs.Common.{◌≡◌, ℕ, ◌+◌, ◌≤◌, Bool, true, false, not, Option, List, sym, ◌∙◌, subst, arith}
use Rattle.fx_term.specs.declared.outcome.Outcome.{Outcome}
use Rattle.fx_term.specs.Term.{Term}
use Rattle.fx_term.specs.Need.{need}
use Rattle.fx_model.specs.Path.{CleanupTerm, is_open, must_cancel}
use Rattle.fx_model.specs.Row.{Counts, Label, Row}
use Rattle.fx_model.specs.Step.{Progress, Runs, Unwinds, CleansUp, HasEnded, Step}
use Rattle.fx_model.specs.Step as step
use Rattle.fx_script_laws.specs.Cover.{Cover, Sealed, uncovered}
use Rattle.fx_script_laws.specs.Filled.{none_bound, IsFilled}
use Rattle.fx_script_laws.specs.Interchange.{AreFilledLabels, itself}
use Rattle.fx_script_laws.proofs.Holes.{ArePut, holes, AreAlong, holes_along}
use Rattle.fx_script_laws.proofs.Holes as along
use Rattle.fx_script_laws.proofs.FilledRows.{RowIsFilled, row_filled}
use Rattle.fx_script_laws.proofs.FilledPlaces.{forget, forget_holes, open_along, must_along, cleanups_along_too, AreFilledCleanups, finalizer, release, none}
use Rattle.fx_script_laws.proofs.FilledPlaces.{holes_left}

-- how far two fibers are that differ at such places
pub data AreFilledProgress (Pair : Cover → (ℕ → Bool) → Term → Term → Type 0) : Progress → Progress → Type 0 where
  runs : {t u : Term} → IsFilled Pair uncovered none_bound t u → AreFilledProgress Pair (Runs t) (Runs u)
  unwinds : {xs ys : List CleanupTerm} → AreFilledCleanups Pair xs ys → AreFilledProgress Pair (Unwinds xs) (Unwinds ys)
  cleans : {k : Option ℕ} {t u : Term} {xs ys : List CleanupTerm} → IsFilled Pair Sealed none_bound t u → AreFilledCleanups Pair xs ys
      → AreFilledProgress Pair (CleansUp k t xs) (CleansUp k u ys)
  ended : {o : Outcome} → AreFilledProgress Pair (HasEnded o) (HasEnded o)

module _ {Pair : Cover → (ℕ → Bool) → Term → Term → Type 0} where
  abbrev pub holes_in : {p q : Progress} → AreFilledProgress Pair p q → ℕ
  holes_in (runs p) = holes p
  holes_in (unwinds q) = holes_left q
  holes_in (cleans p q) = holes p + holes_left q
  holes_in ended = 0

module _ (Pair : Cover → (ℕ → Bool) → Term → Term → Type 0) where
  -- the other fiber makes the same step, and they differ at no more places then
  pub record StepIsFilled (c : Counts) (q : Progress) (l : Label) (d : Counts) (m : Progress) (most : ℕ) : Type 0 where
    pub label : Label
    pub progress : Progress
    pub step : Step c q label d progress
    pub like : AreFilledLabels Pair l label
    pub is_filled : AreFilledProgress Pair m progress
    pub few : holes_in is_filled ≤ most

module _ {Pair : Cover → (ℕ → Bool) → Term → Term → Type 0} (puts : ArePut Pair)
    (needs : (s : Cover) (v : ℕ → Bool) (t u : Term) → Pair s v t u → need t ≡ need u) where
  -- a step that is the same in both
  same_step : {c d : Counts} {q m m' : Progress} {l : Label} {n : ℕ} → Step c q l d m' → (f : AreFilledProgress Pair m m') → holes_in f ≤ n
      → StepIsFilled Pair c q l d m n
  same_step {m' = m'} {l = l} s f few = record { label = l; progress = m'; step = s; like = itself; is_filled = f; few = few }

  runs_on : {c d : Counts} {u : Term} {l : Label} {t' : Term} {n : ℕ} → must_cancel c.known u ≡ false
      → RowIsFilled Pair puts needs uncovered (not (is_open u)) c u l d t' n
      → StepIsFilled Pair c (Runs u) l d (Runs t') n
  runs_on free r = record { label = r.label; progress = Runs r.term; step = step.row free r.row; like = r.like; is_filled = runs r.is_filled; few = r.few }

  pub run_step : {c d : Counts} {t u : Term} {l : Label} {m : Progress} → Step c (Runs t) l d m → (p : AreAlong Pair uncovered t u)
      → StepIsFilled Pair c (Runs u) l d m (holes_along p)
  run_step {c} (step.cancelled must) p =
      let cs = cleanups_along_too p in same_step (step.cancelled (sym (must_along c.known p) ∙ must)) (unwinds cs.filled) cs.few
  run_step {c} (step.seen free opened) p =
      let e = forget_holes p in
      same_step (step.seen (sym (must_along c.known p) ∙ free) (sym (open_along p) ∙ opened)) (runs (forget p)) (omega arith)
  run_step {c} {d} {t} {u} {l} (step.row {t' = w} free r) p =
      runs_on (sym (must_along c.known p) ∙ free) (row_filled Pair puts needs (subst (λ (b : Bool). Row (not b) c t l d w) (open_along p) r) p)
  run_step (step.succeeds free) along.same = same_step (step.succeeds free) ended (omega arith)
  run_step (step.errs free) along.same = same_step (step.errs free) ended (omega arith)

  pub unwind_step : {c d : Counts} {xs ys : List CleanupTerm} {l : Label} {m : Progress} → Step c (Unwinds xs) l d m → (q : AreFilledCleanups Pair xs ys)
      → StepIsFilled Pair c (Unwinds ys) l d m (holes_left q)
  unwind_step step.finalizer (finalizer p q) = same_step step.finalizer (cleans p q) (omega arith)
  unwind_step step.release (release p q) = same_step step.release (cleans p q) (omega arith)
  unwind_step step.unwound none = same_step step.unwound ended (omega arith)

  cleans_on : {c d : Counts} {u : Term} {l : Label} {t' : Term} {n : ℕ} {xs ys : List CleanupTerm} (k : Option ℕ) (q : AreFilledCleanups Pair xs ys)
      → RowIsFilled Pair puts needs Sealed true c u l d t' n → StepIsFilled Pair c (CleansUp k u ys) l d (CleansUp k t' xs) (n + holes_left q)
  cleans_on {ys = ys} k q r =
      let few = r.few in
      record {
        label = r.label;
        progress = CleansUp k r.term ys;
        step = step.cleans r.row;
        like = r.like;
        is_filled = cleans r.is_filled q;
        few = omega arith;
      }

  pub clean_step : {c d : Counts} {k : Option ℕ} {t u : Term} {xs ys : List CleanupTerm} {l : Label} {m : Progress} → Step c (CleansUp k t xs) l d m
      → (p : AreAlong Pair Sealed t u) (q : AreFilledCleanups Pair xs ys) → StepIsFilled Pair c (CleansUp k u ys) l d m (holes_along p + holes_left q)
  clean_step {k = k} (step.cleans r) p q = cleans_on k q (row_filled Pair puts needs r p)
  clean_step step.finalizer_ends along.same q = same_step step.finalizer_ends (unwinds q) (omega arith)
  clean_step step.release_ends along.same q = same_step step.release_ends (unwinds q) (omega arith)
