-- What the measures of terms have in common: the work of a term, what it puts, and the fiber numbers that it can use.
use Rattle.std.proofs.Common.{◌≡◌, ℕ, suc, ◌+◌, ◌*◌, ◌≤◌, max, Option, Some, None, List, [], ◌∷◌, ◌++◌, refl, arith}
use Rattle.fx_term.specs.declared.outcome.Outcome.{Outcome}
use Rattle.fx_term.specs.declared.outcome.Outcome.TheVariants as outcome
use Rattle.fx_term.specs.Term.{Term, OnCancel, InUse, InUseCase, put, put_named}
use Rattle.fx_model.specs.Path.{Context, OnCancelIn, InUseIn, InUseCaseIn, plug, CleanupTerm, Finalizer, Release, cleanup_terms, over_cleanups}
use Rattle.fx_model.specs.Row.{part_after}
use Rattle.fx_model.proofs.Paths.{along_path}

-- where a number for a name changes nothing
module _ (m : Term → ℕ) (kept_by_put : (x n : ℕ) (t : Term) → m (put x n t) ≡ m t) where
  pub kept_by_name : (x : Option ℕ) (n : ℕ) (t : Term) → m (put_named x n t) ≡ m t
  kept_by_name None n t = refl
  kept_by_name (Some x) n t = kept_by_put x n t

  -- the branch that is chosen is one of three
  pub branch_within : (o : Outcome) (x e : ℕ) (a b c : Term) → m (part_after o x a e b c) ≤ max (m a) (max (m b) (m c))
  branch_within (outcome.Succeeded n) x e a b c = let p = kept_by_put x n a in omega arith
  branch_within (outcome.Errored n) x e a b c = let p = kept_by_put e n b in omega arith
  branch_within outcome.Canceled x e a b c = omega arith

-- a turn of a loop takes one from those that are left
pub one_turn : (n left w : ℕ) → left ≡ suc n → w + n * w ≡ left * w
one_turn n left w e = rw e (grind arith)

module _ (m : Term → ℕ) (more : ℕ) where
  cleanups_append : (xs ys : List CleanupTerm) → over_cleanups m more (xs ++ ys) ≡ over_cleanups m more xs + over_cleanups m more ys
  cleanups_append [] ys = omega arith
  cleanups_append (Finalizer f ∷ xs) ys = let p = cleanups_append xs ys in omega arith
  cleanups_append (Release k r ∷ xs) ys = let p = cleanups_append xs ys in omega arith

  -- what each term has at least, it has beside the clean-ups of its path
  module _ (least : ℕ) (has : (t : Term) → least ≤ m t) (on_cancel : (a f : Term) → more + m a + m f ≤ m (OnCancel a f))
      (in_use : (k : ℕ) (a r : Term) → more + m a + m r ≤ m (InUse k a r))
      (in_use_case : (k : ℕ) (a : Term) (y : ℕ) (s : Term) (z : ℕ) (e d : Term) → more + m a + m d ≤ m (InUseCase k a y s z e d))
      (part : (f : Context) (a : Term) → m a ≤ m (plug f a)) where
    abbrev IsWithin : Term → Type 0
    IsWithin t = least + over_cleanups m more (cleanup_terms t) ≤ m t

    in_context : (f : Context) (a : Term) → IsWithin a → IsWithin (plug f a)
    in_context (OnCancelIn f) a h = let p = cleanups_append (cleanup_terms a) (Finalizer f ∷ []) in let q = on_cancel a f in omega arith
    in_context (InUseIn k r) a h = let p = cleanups_append (cleanup_terms a) (Release k r ∷ []) in let q = in_use k a r in omega arith
    in_context (InUseCaseIn k y s z e d) a h =
        let p = cleanups_append (cleanup_terms a) (Release k d ∷ []) in let q = in_use_case k a y s z e d in omega arith
    in_context f a h = let q = part f a in omega arith

    pub cleanups_within : (t : Term) → IsWithin t
    cleanups_within = along_path IsWithin in_context (λ t bare. let q = has t in rw bare (omega arith))
