-- Maps by number.
use Rattle.std.specs.Prelude.{ℕ, ◌==◌, if◌then◌else◌}

-- the map with x at n
abbrev pub with_at : {A : Type 0} → ℕ → A → (ℕ → A) → ℕ → A
with_at n x m k = if k == n then x else m k
