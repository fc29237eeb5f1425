-- Where a running term stands: the contexts round its leaf, what they close, and their clean-ups.
use Rattle.std.specs.Prelude.{ℕ, ◌+◌, Bool, true, false, ◌&&◌, ◌||◌, Option, List, [], ◌∷◌, ◌++◌}
use Rattle.fx_term.specs.declared.done.Done.{Done}
use Rattle.fx_term.specs.Term.{Term, Let, Handle, OnCancel, Bracket, BracketCase, Masked, Opened, InUse, InUseCase, InRelease, Await, Canceled}
use Rattle.fx_mask.specs.Closing.{Closing, Region, Seal, without_region, is_none_closed}

-- a node round the part of it that runs: the first part of `let`, `handle` and `oncancel`, the acquire part of `bracket` and `bracketcase`, or the inside of
-- Masked, Opened, InUse, InUseCase or InRelease
pub data Context : Type 0 where
  LetIn : Option ℕ → Term → Context
  HandleIn : Option ℕ → Term → Context
  OnCancelIn : Term → Context
  AcquireIn : Option ℕ → Term → Term → Context
  AcquireCaseIn : ℕ → Term → ℕ → Term → ℕ → Term → Term → Context
  MaskedIn : ℕ → Context
  OpenedIn : ℕ → Context
  InUseIn : ℕ → Term → Context
  InUseCaseIn : ℕ → ℕ → Term → ℕ → Term → Term → Context
  InReleaseIn : ℕ → Done → Context

-- the whole node, with this part in it
abbrev pub plug : Context → Term → Term
plug (LetIn x b) a = Let x a b
plug (HandleIn x b) a = Handle a x b
plug (OnCancelIn f) a = OnCancel a f
plug (AcquireIn x u r) a = Bracket x a u r
plug (AcquireCaseIn x u y s z e d) a = BracketCase x a u y s z e d
plug (MaskedIn r) a = Masked r a
plug (OpenedIn r) a = Opened r a
plug (InUseIn k r) a = InUse k a r
plug (InUseCaseIn k y s z e d) a = InUseCase k a y s z e d
plug (InReleaseIn k v) a = InRelease k a v

-- the contexts round the leaf, the outermost first
abbrev pub path : Term → List Context
path (Let x a b) = LetIn x b ∷ path a
path (Handle a x b) = HandleIn x b ∷ path a
path (OnCancel a f) = OnCancelIn f ∷ path a
path (Bracket x a u r) = AcquireIn x u r ∷ path a
path (BracketCase x a u y s z e d) = AcquireCaseIn x u y s z e d ∷ path a
path (Masked r a) = MaskedIn r ∷ path a
path (Opened r a) = OpenedIn r ∷ path a
path (InUse k a r) = InUseIn k r ∷ path a
path (InUseCase k a y s z e d) = InUseCaseIn k y s z e d ∷ path a
path (InRelease k a v) = InReleaseIn k v ∷ path a
path _ = []

-- the leaf
abbrev pub leaf : Term → Term
leaf (Let x a b) = leaf a
leaf (Handle a x b) = leaf a
leaf (OnCancel a f) = leaf a
leaf (Bracket x a u r) = leaf a
leaf (BracketCase x a u y s z e d) = leaf a
leaf (Masked r a) = leaf a
leaf (Opened r a) = leaf a
leaf (InUse k a r) = leaf a
leaf (InUseCase k a y s z e d) = leaf a
leaf (InRelease k a v) = leaf a
leaf t = t

-- what is closed inside a context, where this is closed outside
abbrev pub closed_under : List Closing → Context → List Closing
closed_under outer (AcquireIn x u r) = Seal ∷ outer
closed_under outer (AcquireCaseIn x u y s z e d) = Seal ∷ outer
closed_under outer (MaskedIn r) = Region r ∷ outer
closed_under outer (OpenedIn r) = without_region r outer
closed_under outer (InReleaseIn k v) = Seal ∷ outer
closed_under outer _ = outer

abbrev pub closed_along : List Closing → List Context → List Closing
closed_along outer [] = outer
closed_along outer (f ∷ fs) = closed_along (closed_under outer f) fs

-- a fiber that awaits another is sealed
abbrev pub closed_at : List Closing → Term → List Closing
closed_at outer (Await f) = Seal ∷ outer
closed_at outer _ = outer

-- the closed regions at the leaf, the innermost first, inside those of the outer list
abbrev pub closed_regions : List Closing → Term → List Closing
closed_regions outer t = closed_at (closed_along outer (path t)) (leaf t)

-- a finalizer, or the release of a resource; of a `bracketcase` the one after cancellation
pub data CleanupTerm : Type 0 where
  Finalizer : Term → CleanupTerm
  Release : ℕ → Term → CleanupTerm

-- the clean-ups inside a context, and then its own
abbrev pub cleanups_with : Context → List CleanupTerm → List CleanupTerm
cleanups_with (OnCancelIn f) inside = inside ++ Finalizer f ∷ []
cleanups_with (InUseIn k r) inside = inside ++ Release k r ∷ []
cleanups_with (InUseCaseIn k y s z e d) inside = inside ++ Release k d ∷ []
cleanups_with _ inside = inside

abbrev pub cleanups_along : List Context → List CleanupTerm
cleanups_along [] = []
cleanups_along (f ∷ fs) = cleanups_with f (cleanups_along fs)

-- the clean-ups of the path to the leaf, from the inside out
abbrev pub cleanup_terms : Term → List CleanupTerm
cleanup_terms t = cleanups_along (path t)

-- a measure of terms summed over clean-ups, each of which counts so much more
abbrev pub over_cleanups : (Term → ℕ) → ℕ → List CleanupTerm → ℕ
over_cleanups m more [] = 0
over_cleanups m more (Finalizer f ∷ rest) = more + m f + over_cleanups m more rest
over_cleanups m more (Release k r ∷ rest) = more + m r + over_cleanups m more rest

abbrev pub is_canceled_form : Term → Bool
is_canceled_form Canceled = true
is_canceled_form _ = false

-- the position of a running term is open
abbrev pub is_open : Term → Bool
is_open t = is_none_closed (closed_regions [] t)

-- cancellation is the one rule: the position is open, and the fiber is known to be canceled or its leaf is `canceled`
abbrev pub must_cancel : Bool → Term → Bool
must_cancel known t = is_open t && (known || is_canceled_form (leaf t))
