-- The resources that a fiber holds, the innermost first.
use Rattle.std.proofs.Common.{◌≡◌, ℕ, Some, None, List, [], ◌∷◌, ◌++◌, refl, ap, append-nil}
use Rattle.fx_term.specs.Term.{Term, Let, Handle, OnCancel, Bracket, BracketCase, Masked, Opened, InUse, InUseCase, InRelease}
use Rattle.fx_term.specs.Forms.{IsCore}
use Rattle.fx_model.specs.Path.{Context, InUseIn, InUseCaseIn, InReleaseIn, path, CleanupTerm, Finalizer, Release, cleanup_terms}
use Rattle.fx_model.specs.Step.{Progress, Runs, Unwinds, CleansUp, HasEnded}
use Rattle.fx_model.specs.PairedMasks.{marks}
use Rattle.fx_model.proofs.PairedMasks.{HasNoSeal}

-- a resource in use, or in its release
pub data Held : Type 0 where
  Unreleased : ℕ → Held
  BeingReleased : ℕ → Held

-- those in a context and its own, which is the outermost
abbrev pub held_with : Context → List Held → List Held
held_with (InUseIn k r) inside = inside ++ Unreleased k ∷ []
held_with (InUseCaseIn k y s z e d) inside = inside ++ Unreleased k ∷ []
held_with (InReleaseIn k v) inside = inside ++ BeingReleased k ∷ []
held_with _ inside = inside

abbrev pub held_along : List Context → List Held
held_along [] = []
held_along (f ∷ fs) = held_with f (held_along fs)

-- those on the path to the leaf
abbrev pub held_in : Term → List Held
held_in t = held_along (path t)

-- those that are still to be released
abbrev pub held_for : List CleanupTerm → List Held
held_for [] = []
held_for (Finalizer f ∷ rest) = held_for rest
held_for (Release k r ∷ rest) = Unreleased k ∷ held_for rest

abbrev pub held_at : Progress → List Held
held_at (Runs t) = held_in t
held_at (Unwinds rest) = held_for rest
held_at (CleansUp None t rest) = held_in t ++ held_for rest
held_at (CleansUp (Some k) t rest) = held_in t ++ (BeingReleased k ∷ held_for rest)
held_at (HasEnded o) = []

pub core_holds_none : (t : Term) → IsCore t → held_in t ≡ []
core_holds_none (Let y a b) h = core_holds_none a h.0
core_holds_none (Handle a y b) h = core_holds_none a h.0
core_holds_none (OnCancel a f) h = core_holds_none a h.0
core_holds_none (Bracket y a u r) h = core_holds_none a h.0
core_holds_none (BracketCase x a u y s z e d) h = core_holds_none a h.0
core_holds_none (Masked r a) h = absurd h
core_holds_none (Opened r a) h = absurd h
core_holds_none (InUse k a r) h = absurd h
core_holds_none (InUseCase k a y s z e d) h = absurd h
core_holds_none (InRelease k a v) h = absurd h
core_holds_none _ h = refl

held_for_append : (xs ys : List CleanupTerm) → held_for (xs ++ ys) ≡ held_for xs ++ held_for ys
held_for_append [] ys = refl
held_for_append (Finalizer f ∷ xs) ys = held_for_append xs ys
held_for_append (Release k r ∷ xs) ys = ap (λ (s : List Held). Unreleased k ∷ s) (held_for_append xs ys)

-- where no seal is round a place, nothing is in its release, and each resource in use is a clean-up's
pub held_by_cleanups : (t : Term) → HasNoSeal (marks t) → held_in t ≡ held_for (cleanup_terms t)
held_by_cleanups (Let x a b) h = held_by_cleanups a h
held_by_cleanups (Handle a x b) h = held_by_cleanups a h
held_by_cleanups (OnCancel a f) h = rw (held_for_append, append-nil) (held_by_cleanups a h)
held_by_cleanups (Bracket x a u r) h = absurd h
held_by_cleanups (BracketCase x a u y s z e d) h = absurd h
held_by_cleanups (Masked r a) h = held_by_cleanups a h
held_by_cleanups (Opened r a) h = held_by_cleanups a h
held_by_cleanups (InUse k a r) h = rw held_for_append (ap (λ (s : List Held). s ++ Unreleased k ∷ []) (held_by_cleanups a h))
held_by_cleanups (InUseCase k a y s z e d) h = rw held_for_append (ap (λ (held : List Held). held ++ Unreleased k ∷ []) (held_by_cleanups a h))
held_by_cleanups (InRelease k a v) h = absurd h
held_by_cleanups _ h = refl
