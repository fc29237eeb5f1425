-- How many workers a run can have.
use Rattle.std.specs.Prelude.{ℕ}

-- at least one, and at most this many
abbrev pub most_workers : ℕ
most_workers = 64
