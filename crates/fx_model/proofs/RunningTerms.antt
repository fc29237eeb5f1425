-- Of a fiber that began at a core term, what waits is core: only on the path to the leaf stand nodes that come into being as a term runs.
use Rattle.std.proofs.Common.{[]}
use Rattle.fx_term.specs.Term.{Term, Let, Handle, OnCancel, Bracket, BracketCase, Finished, Masked, Opened, InUse, InUseCase, InRelease, Await}
use Rattle.fx_term.specs.Forms.{IsCore}
use Rattle.fx_model.specs.Path.{Context, OnCancelIn, AcquireIn, AcquireCaseIn, MaskedIn, OpenedIn, InUseIn, InUseCaseIn, InReleaseIn, plug, cleanups_with}
use Rattle.fx_model.specs.Path.{cleanup_terms}
use Rattle.fx_model.specs.Step.{Progress, AreAll, IsProgressOf}
use Rattle.fx_model.proofs.Cleanups.{all_on_path}

abbrev pub IsRunningTerm : Term → Type 0
IsRunningTerm (Let x a b) = IsRunningTerm a × IsCore b
IsRunningTerm (Handle a x b) = IsRunningTerm a × IsCore b
IsRunningTerm (OnCancel a f) = IsRunningTerm a × IsCore f
IsRunningTerm (Bracket x a u r) = IsRunningTerm a × IsCore u × IsCore r
IsRunningTerm (BracketCase x a u y s z e d) = IsRunningTerm a × IsCore u × IsCore s × IsCore e × IsCore d
IsRunningTerm (Masked r a) = IsRunningTerm a
IsRunningTerm (Opened r a) = IsRunningTerm a
IsRunningTerm (InUse k a r) = IsRunningTerm a × IsCore r
IsRunningTerm (InUseCase k a y s z e d) = IsRunningTerm a × IsCore s × IsCore e × IsCore d
IsRunningTerm (InRelease k a v) = IsRunningTerm a
IsRunningTerm (Finished v) = Unit {0}
IsRunningTerm (Await f) = Unit {0}
IsRunningTerm t = IsCore t

-- what runs is such a term, and the clean-ups that are left are core
abbrev pub IsRunningProgress : Progress → Type 0
IsRunningProgress p = IsProgressOf IsRunningTerm IsCore p

pub core_runs : (t : Term) → IsCore t → IsRunningTerm t
core_runs (Let y a b) h = (core_runs a h.0, h.1)
core_runs (Handle a y b) h = (core_runs a h.0, h.1)
core_runs (OnCancel a f) h = (core_runs a h.0, h.1)
core_runs (Bracket y a u r) h = (core_runs a h.0, h.1, h.2)
core_runs (BracketCase x a u y s z e d) h = (core_runs a h.0, h.1, h.2, h.3, h.4)
core_runs (Finished v) h = absurd h
core_runs (Masked r a) h = absurd h
core_runs (Opened r a) h = absurd h
core_runs (InUse k a r) h = absurd h
core_runs (InUseCase k a y s z e d) h = absurd h
core_runs (InRelease k a v) h = absurd h
core_runs (Await f) h = absurd h
core_runs _ h = h

-- the part of a context that runs is such a term, and so is the whole with another in its place
pub running_inside : (f : Context) (a : Term) → IsRunningTerm (plug f a) → IsRunningTerm a × ((b : Term) → IsRunningTerm b → IsRunningTerm (plug f b))
running_inside (AcquireIn x u r) a h = (h.0, λ b k. (k, h.1, h.2))
running_inside (AcquireCaseIn x u y s z e d) a h = (h.0, λ b k. (k, h.1, h.2, h.3, h.4))
running_inside (InUseCaseIn i y s z e d) a h = (h.0, λ b k. (k, h.1, h.2, h.3))
running_inside (MaskedIn r) a h = (h, λ b k. k)
running_inside (OpenedIn r) a h = (h, λ b k. k)
running_inside (InReleaseIn i v) a h = (h, λ b k. k)
running_inside _ a h = (h.0, λ b k. (k, h.1))

core_part : (f : Context) (a : Term) → IsRunningTerm (plug f a) → IsRunningTerm a × AreAll IsCore (cleanups_with f [])
core_part (OnCancelIn f) a h = (h.0, (h.1, tt))
core_part (InUseIn k r) a h = (h.0, (h.1, tt))
core_part (InUseCaseIn k y s z e d) a h = (h.0, (h.3, tt))
core_part f a h = ((running_inside f a h).0, tt)

pub cleanups_core : (t : Term) → IsRunningTerm t → AreAll IsCore (cleanup_terms t)
cleanups_core = all_on_path IsRunningTerm IsCore core_part
