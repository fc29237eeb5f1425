-- What masks are seen as, and how they change.
use Rattle.std.specs.Prelude.{◌≡◌, ℕ, ◌+◌, List, ◌∷◌}
use Rattle.fx_mask.specs.Closing.{Closing, Region}

-- what closes a place, the innermost first, how many regions were ever entered, and how many are opened
pub record MasksView : Type 0 where
  pub regions : List Closing
  pub entries : ℕ
  pub opened : ℕ

-- with one more that closes the place, as the innermost
abbrev pub closed_by : Closing → MasksView → MasksView
closed_by c m = record m { regions = c ∷ m.regions }

-- with a new region, whose number is that of the entries before it, as the innermost
abbrev pub entered : MasksView → MasksView
entered m = record m { regions = Region m.entries ∷ m.regions; entries = m.entries + 1 }

-- the same but for this region, which is the innermost in the first, and opened in the second
pub record IsOpened (r : ℕ) (closed opened : MasksView) : Type 0 where
  pub regions : closed.regions ≡ Region r ∷ opened.regions
  pub entries : opened.entries ≡ closed.entries
  pub count : opened.opened ≡ closed.opened + 1
