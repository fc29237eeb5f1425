-- How many fiber numbers a fiber can still use.
use Rattle.std.specs.Prelude.{◌≡◌, ℕ, suc, ◌+◌, ◌≤◌, List}
use Rattle.fx_term.specs.Need.{need}
use Rattle.fx_model.specs.Path.{CleanupTerm, over_cleanups}
use Rattle.fx_model.specs.Row.{Counts, Starts}
use Rattle.fx_model.specs.Origin.{Origin}
use Rattle.fx_model.specs.Step.{Progress, Runs, Unwinds, CleansUp, HasEnded, Step}

-- how many fiber numbers the clean-ups can use
abbrev pub cleanup_need : List CleanupTerm → ℕ
cleanup_need = over_cleanups need 0

-- how many the fiber can use from there on
abbrev pub need_left : Progress → ℕ
need_left (Runs t) = need t
need_left (Unwinds rest) = cleanup_need rest
need_left (CleansUp k t rest) = need t + cleanup_need rest
need_left (HasEnded o) = 0

-- a start takes the next number of its fiber, and gives the child the numbers after that which its term needs, all in the fiber's range
pub record TakesItsRange (c : Counts) (f : ℕ) (b : Origin) : Type 0 where
  pub number : f ≡ c.next
  pub next : b.next ≡ suc f
  pub room : b.end ≡ b.next + need b.term
  pub within : b.end ≤ c.end

-- the range that a fiber begins with has room for its term
abbrev pub HasRoom : Origin → Type 0
HasRoom b = b.next + need b.term ≤ b.end

-- a fiber with these counts that is so far starts a fiber in its range only
abbrev pub StartsInItsRange : Counts → Progress → Type 0
StartsInItsRange c p = (d : Counts) (q : Progress) (f : ℕ) (b : Origin) → Step c p (Starts f b) d q → TakesItsRange c f b
