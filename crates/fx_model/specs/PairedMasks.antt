-- Where the masks of a path are opened by their polls.
use Rattle.std.specs.Prelude.{◌≡◌, ℕ, List, [], ◌∷◌, ◌++◌}
use Rattle.fx_term.specs.declared.event.Event.TheVariants as event
use Rattle.fx_term.specs.Term.{Term, Await}
use Rattle.fx_model.specs.Path.{Context, AcquireIn, AcquireCaseIn, MaskedIn, OpenedIn, InReleaseIn, path, leaf}
use Rattle.fx_model.specs.Row.{Counts, Label, Shows}
use Rattle.fx_model.specs.Step.{Progress, Runs}
use Rattle.fx_model.specs.Run.{Leads}

-- a place on a path that a mask closes, that a poll opens, or that nothing opens
pub data Mark : Type 0 where
  Closes : ℕ → Mark
  Opens : ℕ → Mark
  Seals : Mark

-- what a context says of masks, the path of contexts, and the leaf
abbrev pub marks_of : Context → List Mark
marks_of (AcquireIn x u r) = Seals ∷ []
marks_of (AcquireCaseIn x u y s z e d) = Seals ∷ []
marks_of (MaskedIn r) = Closes r ∷ []
marks_of (OpenedIn r) = Opens r ∷ []
marks_of (InReleaseIn k v) = Seals ∷ []
marks_of _ = []

abbrev pub marks_along : List Context → List Mark
marks_along [] = []
marks_along (f ∷ fs) = marks_of f ++ marks_along fs

abbrev pub marks_at : Term → List Mark
marks_at (Await f) = Seals ∷ []
marks_at _ = []

-- what the path to the leaf says of masks, from the root
abbrev pub marks : Term → List Mark
marks t = marks_along (path t) ++ marks_at (leaf t)

-- each mask has its poll further in, these pairs are nested, and there is no seal; a poll that opens nothing may stand anywhere
pub data IsPaired : List Mark → Type 0 where
  nothing : IsPaired []
  idle : {r : ℕ} → IsPaired (Opens r ∷ [])
  pair : {r : ℕ} {w : List Mark} → IsPaired w → IsPaired (Closes r ∷ (w ++ Opens r ∷ []))
  appended : {w x : List Mark} → IsPaired w → IsPaired x → IsPaired (w ++ x)

-- a mask with the marks u outside it and v inside has its poll further in; the marks between the two are paired, and so are those round the two
abbrev pub HasItsPoll : List Mark → ℕ → List Mark → Type 0
HasItsPoll u r v = (x : List Mark) × (y : List Mark) × (v ≡ x ++ Opens r ∷ y) × IsPaired x × IsPaired (u ++ y)

-- the fiber is at its term, and the masks of the path are opened by their polls
abbrev pub IsOpenedAt : Progress → Type 0
IsOpenedAt (Runs t) = IsPaired (marks t)
IsOpenedAt _ = ⊥

-- they are so at each of these steps that is labelled Cancelled
abbrev pub CancelsWhereOpened : (c : Counts) (p : Progress) (ls : List Label) (d : Counts) (q : Progress) → Leads c p ls d q → Type 0
CancelsWhereOpened c p [] d q steps = Unit {0}
CancelsWhereOpened c p (Shows event.Cancelled ∷ ls) d q steps = IsOpenedAt p × CancelsWhereOpened steps.0 steps.1 ls d q steps.3
CancelsWhereOpened c p (l ∷ ls) d q steps = CancelsWhereOpened steps.0 steps.1 ls d q steps.3
