-- What a script calls its fibers.
use Rattle.std.specs.Prelude.{ℕ, ◌==◌, Option, Some, None, List, [], ◌∷◌, ◌++◌, codes, map, string_bytes, if◌then◌else◌}
use Rattle.fx_picture.specs.declared.handle.Handle.{Handle}

-- a fiber and its name
pub record Named : Type 0 where
  pub fiber : ℕ
  pub name : List ℕ

abbrev pub view_handle : Handle → Named
view_handle h = record { fiber = h.fiber; name = string_bytes h.name }

abbrev pub view_handles : List Handle → List Named
view_handles hs = map view_handle hs

-- what fiber f is called, where these are
abbrev pub name_of : List Named → ℕ → Option (List ℕ)
name_of [] f = None
name_of (x ∷ xs) f = if x.fiber == f then Some x.name else name_of xs f

-- a space and that, if it is called something
abbrev pub name_words : Option (List ℕ) → List ℕ
name_words None = []
name_words (Some name) = codes " " ++ name
