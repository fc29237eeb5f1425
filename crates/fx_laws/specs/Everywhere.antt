-- Two terms show the same wherever they stand: with any contexts round them, in what a fiber runs or in a clean-up, after anything that the fiber has done.
use Rattle.std.specs.Prelude.{◌≡◌, ◌↔◌, ◌⊎◌, ℕ, true, false, Option, List, [], ◌∷◌}
use Rattle.fx_term.specs.Term.{Term, Never}
use Rattle.fx_model.specs.Path.{Context, CleanupTerm, plug, is_open}
use Rattle.fx_model.specs.Row.{Counts, Label}
use Rattle.fx_model.specs.Step.{Progress, Runs, CleansUp, must_cancel_at, looks_first}
use Rattle.fx_model.specs.Run.{Leads, shown}
use Rattle.fx_model.specs.MaskLaws.{BeginsWithSeen}

-- the term inside these contexts, the outermost first
abbrev pub placed : List Context → Term → Term
placed [] t = t
placed (f ∷ fs) t = plug f (placed fs t)

-- where a fiber can come to a term: inside these contexts, in its whole term, or in a clean-up that unwinding runs, the release of that resource or a
-- finalizer, with these clean-ups left
pub data Place : Type 0 where
  InTerm : List Context → Place
  InCleanup : Option ℕ → List CleanupTerm → List Context → Place

-- how far a fiber is that has come to the term there
abbrev pub come_to : Place → Term → Progress
come_to (InTerm fs) t = Runs (placed fs t)
come_to (InCleanup k rest fs) t = CleansUp k (placed fs t) rest

-- a fiber that is so far, with these counts, can go on, to its end or not, so that it shows this
pub record CanShowFrom (c : Counts) (p : Progress) (shows : List Label) : Type 0 where
  pub labels : List Label
  pub counts : Counts
  pub progress : Progress
  pub run : Leads c p labels counts progress
  pub shown_is : shown labels ≡ shows

-- where a fiber comes there to the one term, it can show exactly what it can where the other stands there
abbrev pub ShowTheSameAt : Place → Term → Term → Type 0
ShowTheSameAt place t u = (c : Counts) (ls : List Label) → CanShowFrom c (come_to place t) ls ↔ CanShowFrom c (come_to place u) ls

abbrev pub ShowTheSameEverywhere : Term → Term → Type 0
ShowTheSameEverywhere t u = (place : Place) → ShowTheSameAt place t u

-- the same of each open place, of which a clean-up has none
abbrev pub ShowTheSameWhereOpen : Term → Term → Type 0
ShowTheSameWhereOpen t u = (fs : List Context) → is_open (placed fs t) ≡ true → ShowTheSameAt (InTerm fs) t u

-- wherever a fiber comes to the first term and is not canceled at once, it can show exactly what it can where the second stands there, but, where it looks for
-- a request, for what begins with one that is seen
abbrev pub ShowTheSameEverywhereUnlessSeenFirst : Term → Term → Type 0
ShowTheSameEverywhereUnlessSeenFirst t u =
    (place : Place) (c : Counts) (ls : List Label) → must_cancel_at c.known (come_to place t) ≡ false
    → (looks_first c.known (come_to place t) ≡ true → BeginsWithSeen ls → ⊥)
    → CanShowFrom c (come_to place t) ls ↔ CanShowFrom c (come_to place u) ls

-- wherever a fiber comes to the first term, it can show exactly what it can where `never` stands there, so what comes of a cancellation, and, if it is not
-- canceled at once, what it can where the second stands there
abbrev pub ShowsItOrIsCanceledBefore : Term → Term → Type 0
ShowsItOrIsCanceledBefore t u =
    (place : Place) (c : Counts) (ls : List Label) → CanShowFrom c (come_to place t) ls
    ↔ (CanShowFrom c (come_to place Never) ls ⊎ ((must_cancel_at c.known (come_to place t) ≡ false) × CanShowFrom c (come_to place u) ls))
