-- A fiber that rests.
use Rattle.std.specs.Prelude.{◌≡◌}
use Rattle.fx_fiber.specs.Ended.{ended_fiber, IsEnded}
use Rattle.fx_fiber.specs.Fiber.{FiberView, progress}
use Rattle.fx_fiber.specs.Theory.{Theory}
use Rattle.fx_sched.specs.declared.resting.Stage.{Stage}
use Rattle.fx_sched.specs.declared.resting.Stage.TheVariants.{Whole, Over}

-- the fiber of which that is there; where it has ended, it has no contexts left and no names in scope
abbrev pub fiber_of : {P S : Type 0} → Stage P S → FiberView P
fiber_of (Whole fiber) = fiber
fiber_of (Over ended port) = ended_fiber port ended

-- what is kept of one that has ended and its port are those of a fiber
abbrev pub IsKeptWell : {P S : Type 0} → Theory P S → Stage P S → Type 0
IsKeptWell theory (Whole fiber) = Unit {0}
IsKeptWell theory (Over ended port) = IsEnded theory port ended

-- the other fiber is told as the one is: it has the same port and trace, and stands as that does
pub record StandsAs {P S : Type 0} (theory : Theory P S) (fiber other : FiberView P) : Type 0 where
  pub port : other.port ≡ fiber.port
  pub trace : other.trace ≡ fiber.trace
  pub stamps : other.stamps ≡ fiber.stamps
  pub counts : other.counts ≡ fiber.counts
  pub progress : progress theory.code other ≡ progress theory.code fiber
