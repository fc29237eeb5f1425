-- The steps of a fiber: cancellation, a request that is seen, the table, the ends, and unwinding.
use Rattle.std.specs.Prelude.{◌≡◌, ℕ, Bool, true, false, ◌&&◌, not, Option, Some, None, List, [], ◌∷◌}
use Rattle.fx_term.specs.declared.done.Done.{Done}
use Rattle.fx_term.specs.declared.done.Done.TheVariants.{Val, Err}
use Rattle.fx_term.specs.declared.outcome.Outcome.{Outcome}
use Rattle.fx_term.specs.declared.outcome.Outcome.TheVariants.{Succeeded, Errored}
use Rattle.fx_term.specs.declared.outcome.Outcome.TheVariants as outcome
use Rattle.fx_term.specs.declared.event.Event.TheVariants as event
use Rattle.fx_term.specs.Term.{Term, Finished}
use Rattle.fx_model.specs.Path.{CleanupTerm, Finalizer, Release, cleanup_terms, leaf, is_open, must_cancel}
use Rattle.fx_model.specs.Row.{Counts, known_canceled, Label, Silent, Shows, Row}

-- how far a fiber is: at its term; unwinding, between two clean-ups or in one (with the number of the resource that it releases); or at its end
pub data Progress : Type 0 where
  Runs : Term → Progress
  Unwinds : List CleanupTerm → Progress
  CleansUp : Option ℕ → Term → List CleanupTerm → Progress
  HasEnded : Outcome → Progress

-- this holds of each clean-up
abbrev pub AreAll : (Term → Type 0) → List CleanupTerm → Type 0
AreAll Q [] = Unit {0}
AreAll Q (Finalizer f ∷ rest) = Q f × AreAll Q rest
AreAll Q (Release k r ∷ rest) = Q r × AreAll Q rest

-- the one holds of what a fiber runs, its term or a clean-up, and the other of each clean-up that is left
abbrev pub IsProgressOf : (P Q : Term → Type 0) → Progress → Type 0
IsProgressOf P Q (Runs t) = P t
IsProgressOf P Q (Unwinds rest) = AreAll Q rest
IsProgressOf P Q (CleansUp k t rest) = P t × AreAll Q rest
IsProgressOf P Q (HasEnded o) = Unit {0}

-- the leaf of what a fiber runs, its term or a clean-up
abbrev pub leaf_at : Progress → Option Term
leaf_at (Runs t) = Some (leaf t)
leaf_at (CleansUp k t rest) = Some (leaf t)
leaf_at _ = None

-- the fiber has ended
abbrev pub has_ended : Progress → Bool
has_ended (HasEnded o) = true
has_ended _ = false

-- cancellation is the one rule
abbrev pub must_cancel_at : Bool → Progress → Bool
must_cancel_at known (Runs t) = must_cancel known t
must_cancel_at known _ = false

-- a look comes before the table and the ends: at an open position where cancellation is not the one rule
abbrev pub looks_first : Bool → Progress → Bool
looks_first known (Runs t) = is_open t && not (must_cancel known t)
looks_first known _ = false

-- A step of a fiber. The answers of the outside are read from the labels
pub data Step (c : Counts) : Progress → Label → Counts → Progress → Type 0 where
  cancelled : {t : Term} → must_cancel c.known t ≡ true → Step c (Runs t) (Shows event.Cancelled) c (Unwinds (cleanup_terms t))
  seen : {t : Term} → must_cancel c.known t ≡ false → is_open t ≡ true → Step c (Runs t) (Shows event.Seen) (known_canceled c) (Runs t)
  row : {t t' : Term} {l : Label} {d : Counts} → must_cancel c.known t ≡ false → Row (not (is_open t)) c t l d t' → Step c (Runs t) l d (Runs t')
  succeeds : {n : ℕ} → must_cancel c.known (Finished (Val n)) ≡ false
      → Step c (Runs (Finished (Val n))) (Shows (event.Ended (Succeeded n))) c (HasEnded (Succeeded n))
  errs : {n : ℕ} → must_cancel c.known (Finished (Err n)) ≡ false → Step c (Runs (Finished (Err n))) (Shows (event.Ended (Errored n))) c (HasEnded (Errored n))
  finalizer : {f : Term} {rest : List CleanupTerm} → Step c (Unwinds (Finalizer f ∷ rest)) Silent c (CleansUp None f rest)
  release : {k : ℕ} {r : Term} {rest : List CleanupTerm} → Step c (Unwinds (Release k r ∷ rest)) (Shows (event.Begin k)) c (CleansUp (Some k) r rest)
  cleans : {k : Option ℕ} {t t' : Term} {l : Label} {d : Counts} {rest : List CleanupTerm} → Row true c t l d t'
      → Step c (CleansUp k t rest) l d (CleansUp k t' rest)
  finalizer_ends : {v : Done} {rest : List CleanupTerm} → Step c (CleansUp None (Finished v) rest) Silent c (Unwinds rest)
  release_ends : {k : ℕ} {v : Done} {rest : List CleanupTerm} → Step c (CleansUp (Some k) (Finished v) rest) (Shows (event.End k)) c (Unwinds rest)
  unwound : Step c (Unwinds []) (Shows (event.Ended outcome.Canceled)) c (HasEnded outcome.Canceled)
