-- The rule of the words for stamps: what two words of each fiber and the entries of all seats agree on. A fiber i has the words 4 * i + 2, the greatest stamp
-- of its requests, and 4 * i + 3, the stamp of its end.
use Rattle.std.specs.Prelude.{◌≡◌, ◌≢◌, ℕ, ◌+◌, ◌*◌, ◌≤◌, Bool, true, List, Option, Some, ◌⊎◌, slice_index}
use Rattle.fx_term.specs.Lists.{Among}
use Rattle.fx_term.specs.declared.outcome.Outcome.{Outcome}
use Rattle.fx_word.specs.declared.entry.Entry.{Entry}

abbrev pub request_stamp : List ℕ → ℕ → ℕ
request_stamp words i = slice_index words (4 * i + 2)

abbrev pub end_stamp : List ℕ → ℕ → ℕ
end_stamp words i = slice_index words (4 * i + 3)

-- some entry asked for fiber i with that stamp
abbrev pub IsAskedWith : (ℕ → Option Entry) → ℕ → ℕ → Type 0
IsAskedWith book i t = (f : ℕ) × (e : Entry) × (book f ≡ Some e) × Among (i, t) e.asked_with

-- fiber i has ended, with that stamp
abbrev pub HasEndedWith : (ℕ → Option Entry) → ℕ → ℕ → Type 0
HasEndedWith book i t = (e : Entry) × (o : Outcome) × (book i ≡ Some e) × (e.ended ≡ Some o) × (e.stored_stamp ≡ Some t)

pub record KeepsStamps (words : List ℕ) (book : ℕ → Option Entry) (bit : ℕ → Bool) : Type 0 where
  -- the word for requests is the greatest stamp asked with, or 0
  pub highest : (i t : ℕ) → IsAskedWith book i t → t ≤ request_stamp words i
  pub reached : (i : ℕ) → (request_stamp words i ≡ 0) ⊎ IsAskedWith book i (request_stamp words i)
  -- the bit is set only after such a stamp, or from outside
  pub set : (i : ℕ) → bit i ≡ true → (request_stamp words i ≢ 0) ⊎ IsAskedWith book i 0
  -- what was loaded was asked with
  pub loads : (i t : ℕ) (e : Entry) → book i ≡ Some e → Among t e.loaded → IsAskedWith book i t
  -- the word for the end has what was stored, and who has ended stored it
  pub stored : (i t : ℕ) (e : Entry) → book i ≡ Some e → e.stored_stamp ≡ Some t → end_stamp words i ≡ t
  pub ends : (i : ℕ) (e : Entry) (o : Outcome) → book i ≡ Some e → e.ended ≡ Some o → (t : ℕ) × (e.stored_stamp ≡ Some t)
  -- what was learnt of an end is what was stored for it
  pub learns : (f i t : ℕ) (e : Entry) → book f ≡ Some e → Among (i, t) e.learnt_stamps → HasEndedWith book i t
