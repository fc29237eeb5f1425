-- The ring of those that wait.
use Rattle.std.specs.Prelude.{◌≡◌, ℕ, ◌+◌, ◌<◌, true, false, List, [], ◌∷◌, length, slice_index_or, slice_set}
use Rattle.fx_queue.specs.declared.link.Link.{Link}
use Rattle.fx_term.specs.Lists.{Among}

abbrev pub lone_link : ℕ → Link
lone_link i = record { before = i; after = i; listed = false }

abbrev pub link_at : List Link → ℕ → Link
link_at ls i = slice_index_or ls i (lone_link i)

-- the links after a neighbour of the fiber i has become x
abbrev pub afters : List Link → ℕ → ℕ → List Link
afters ls i x = slice_set ls i (record (link_at ls i) { after = x })

abbrev pub befores : List Link → ℕ → ℕ → List Link
befores ls i x = slice_set ls i (record (link_at ls i) { before = x })

-- from i through xs to j by the one end of the links, and back by the other
abbrev pub IsPath : List Link → ℕ → List ℕ → ℕ → Type 0
IsPath ls i [] j = ((link_at ls i).after ≡ j) × ((link_at ls j).before ≡ i)
IsPath ls i (x ∷ xs) j = ((link_at ls i).after ≡ x) × ((link_at ls x).before ≡ i) × IsPath ls x xs j

abbrev pub Apart : List ℕ → Type 0
Apart [] = Unit {0}
Apart (x ∷ xs) = (Among x xs → ⊥) × Apart xs

-- the fibers that wait, the one that was listed longest first, each once
pub record Lists (ls : List Link) (head : ℕ) (xs : List ℕ) : Type 0 where
  pub long : length ls ≡ head + 1
  pub path : IsPath ls head xs head
  pub apart : Apart xs
  pub within : (x : ℕ) → Among x xs → x < head
  pub listed : (x : ℕ) → Among x xs → (link_at ls x).listed ≡ true
  pub free : (x : ℕ) → x < head → (Among x xs → ⊥) → (link_at ls x).listed ≡ false
