-- What closes a place.
use Rattle.std.specs.Prelude.{ℕ, Bool, true, false, if◌then◌else◌, ◌==◌, Option, Some, None, List, [], ◌∷◌}

-- what closes a position: the region of a mask, by the number of its entry, or a seal, which nothing takes off
pub data Closing : Type 0 where
  Region : ℕ → Closing
  Seal : Closing

-- the closed regions without this one, where it is the innermost
abbrev pub without_region : ℕ → List Closing → List Closing
without_region r [] = []
without_region r (Seal ∷ outer) = Seal ∷ outer
without_region r (Region s ∷ outer) = if s == r then outer else Region s ∷ outer

abbrev pub is_none_closed : List Closing → Bool
is_none_closed [] = true
is_none_closed (c ∷ cs) = false

-- the number of the region, if it is one
abbrev pub region_in : Closing → Option ℕ
region_in (Region r) = Some r
region_in Seal = None

-- the number of the innermost one, if that is a region
abbrev pub innermost_region : List Closing → Option ℕ
innermost_region [] = None
innermost_region (c ∷ outer) = region_in c
