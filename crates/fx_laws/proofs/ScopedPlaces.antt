-- A fiber that began at a closed term comes to places whose clean-ups are scoped.
use Rattle.std.proofs.Common.{ℕ, Bool, true, None, List, [], ◌∷◌, ◌++◌, refl, ◌∙◌, subst}
use Rattle.fx_term.specs.Term.{Term, Let, Handle, If, For, Mask, Poll, OnCancel, Bracket, BracketCase, Start, Join, Cancel, First, TryTake, Masked, Opened}
use Rattle.fx_term.specs.Term.{InUse, InUseCase, InRelease, Loop, Await}
use Rattle.fx_term.specs.declared.node.Arg.{Arg}
use Rattle.fx_term.specs.declared.node.Arg.TheVariants.{Number, Slot}
use Rattle.fx_model.specs.Path.{Context, LetIn, HandleIn, OnCancelIn, AcquireIn, AcquireCaseIn, MaskedIn, OpenedIn, InUseIn, InUseCaseIn, InReleaseIn, plug}
use Rattle.fx_model.specs.Path.{CleanupTerm, Finalizer, Release, cleanups_with, cleanups_along, cleanup_terms}
use Rattle.fx_model.specs.Origin.{Origin}
use Rattle.fx_model.specs.Row.{Counts, Label}
use Rattle.fx_model.specs.Step.{AreAll, Runs}
use Rattle.fx_model.specs.Run.{IsRun}
use Rattle.fx_model.specs.Scopes.{IsClosedTerm, IsArgGiven, UsesGiven}
use Rattle.fx_model.proofs.Cleanups.{all_on_path}
use Rattle.fx_model.proofs.ScopedRuns.{run_stays_scoped}
use Rattle.fx_laws.specs.Everywhere.{placed, Place, InTerm, InCleanup, come_to}
use Rattle.fx_laws.specs.ScopedPlaces.{IsWellScoped, HasScopedCleanups}
use Rattle.fx_laws.proofs.Placed.{cleanups_placed, around_is}

-- where each number of a fiber was given, each term uses such numbers alone
abbrev each_given : ℕ → Bool
each_given f = true

arg_given : (a : Arg) → IsArgGiven each_given a
arg_given (Number n) = refl
arg_given (Slot x) = tt

uses_given : (t : Term) → UsesGiven each_given t
uses_given (Let x a b) = (uses_given a, uses_given b)
uses_given (Handle a x b) = (uses_given a, uses_given b)
uses_given (If v a b) = (uses_given a, uses_given b)
uses_given (For i n a) = uses_given a
uses_given (Mask p a) = uses_given a
uses_given (Poll p a) = uses_given a
uses_given (OnCancel a f) = (uses_given a, uses_given f)
uses_given (Bracket x a u r) = (uses_given a, uses_given u, uses_given r)
uses_given (BracketCase x a u y s z e d) = (uses_given a, uses_given u, uses_given s, uses_given e, uses_given d)
uses_given (Start h a b) = (uses_given a, uses_given b)
uses_given (Join f x a e b c) = (arg_given f, uses_given a, uses_given b, uses_given c)
uses_given (Cancel f) = arg_given f
uses_given (First f g) = (arg_given f, arg_given g)
uses_given (TryTake q x a b) = (uses_given a, uses_given b)
uses_given (Masked r a) = uses_given a
uses_given (Opened r a) = uses_given a
uses_given (InUse k a r) = (uses_given a, uses_given r)
uses_given (InUseCase k a y s z e d) = (uses_given a, uses_given s, uses_given e, uses_given d)
uses_given (InRelease k a v) = uses_given a
uses_given (Loop i k n a) = uses_given a
uses_given (Await f) = refl
uses_given _ = tt

-- the part of a closed term that runs is closed, and so is the clean-up of its context
part_closed : (f : Context) (a : Term) → IsClosedTerm (plug f a) → IsClosedTerm a × AreAll IsWellScoped (cleanups_with f [])
part_closed (LetIn x b) a h = (h.0, tt)
part_closed (HandleIn x b) a h = (h.0, tt)
part_closed (OnCancelIn f) a h = (h.0, ((λ x. None, h.1), tt))
part_closed (AcquireIn x u r) a h = (h.0, tt)
part_closed (AcquireCaseIn x u y s z e d) a h = (h.0, tt)
part_closed (MaskedIn r) a h = (h, tt)
part_closed (OpenedIn r) a h = (h, tt)
part_closed (InUseIn k r) a h = (h.0, ((λ x. None, h.1), tt))
part_closed (InUseCaseIn k y s z e d) a h = (h.0, ((λ x. None, h.5), tt))
part_closed (InReleaseIn k v) a h = (h, tt)

all_after : (Q : Term → Type 0) (xs ys : List CleanupTerm) → AreAll Q (xs ++ ys) → AreAll Q ys
all_after Q [] ys h = h
all_after Q (Finalizer f ∷ xs) ys h = all_after Q xs ys h.1
all_after Q (Release k r ∷ xs) ys h = all_after Q xs ys h.1

pub places_are_scoped : (b : Origin) (ls : List Label) (d : Counts) (place : Place) (t : Term) → IsClosedTerm b.term → IsRun b ls d (come_to place t)
    → HasScopedCleanups place
places_are_scoped b ls d (InTerm fs) t closed run =
    let here = run_stays_scoped each_given b ls d (Runs (placed fs t)) (closed, uses_given b.term) (λ f low high. refl) run in
    let all = all_on_path IsClosedTerm IsWellScoped part_closed (placed fs t) here.0 in
    all_after IsWellScoped (cleanup_terms t) (cleanups_along fs)
    (subst (λ (xs : List CleanupTerm). AreAll IsWellScoped xs) (cleanups_placed fs t ∙ around_is fs (cleanup_terms t)) all)
places_are_scoped b ls d (InCleanup k rest fs) t closed run = tt
