-- Bytes as they are shown to people.
use Rattle.std.specs.Prelude.{ℕ, Bool, ◌&&◌, nat_le, if◌then◌else◌, List, map}

-- the byte is printable ASCII
abbrev pub is_printable : ℕ → Bool
is_printable b = nat_le 32 b && nat_le b 126

-- it is shown as it is, and any other as `?`
abbrev pub shown_byte : ℕ → ℕ
shown_byte b = if is_printable b then b else 63

abbrev pub printable : List ℕ → List ℕ
printable bytes = map shown_byte bytes
