-- What closes a place, after one more.
use Rattle.std.proofs.Common.{◌≡◌, ℕ, List, ◌∷◌, arith}
use Rattle.std.proofs.lemmas.Bool.Decides.{nat_tests}
use Rattle.fx_mask.specs.Closing.{Closing, Region, without_region}

-- a region that is the innermost is taken off
pub without_innermost : (r : ℕ) (outer : List Closing) → without_region r (Region r ∷ outer) ≡ outer
without_innermost r outer = grind (arith, nat_tests)
