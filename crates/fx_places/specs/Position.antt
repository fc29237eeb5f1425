-- Where a byte of a text stands: its line and its column, both from 1.
use Rattle.std.specs.Prelude.{ℕ, ◌+◌, ◌==◌, if◌then◌else◌, List, [], ◌∷◌}

-- the line that is come to from line n by these bytes: one more at each LF
abbrev pub line_after : ℕ → List ℕ → ℕ
line_after n [] = n
line_after n (b ∷ bytes) = if b == 10 then line_after (n + 1) bytes else line_after n bytes

-- the column that is come to from column n by these bytes: 1 after each LF, else one more at each byte
abbrev pub column_after : ℕ → List ℕ → ℕ
column_after n [] = n
column_after n (b ∷ bytes) = if b == 10 then column_after 1 bytes else column_after (n + 1) bytes
