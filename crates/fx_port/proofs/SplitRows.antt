-- A row of passes, split up to a place.
use Rattle.std.proofs.Common.{◌≡◌, ℕ, ◌<◌, ◌≤◌, List, length, get_or, Some, slice_get, refl, sym, ◌∙◌, ap}
use Rattle.std.proofs.lemmas.Option.{slice_get_read}
use Rattle.fx_queue.specs.Queues.{QueueId, HeldPass, IsOf, kept_pass}
use Rattle.fx_port.specs.Rows.{IsRowOf, CanSplit}
use Rattle.fx_port.proofs.PartRows.{partly, partly-length, was_there}

module _ (end : ℕ) (queues : List QueueId) (xs now : List HeldPass) (k : ℕ) (row : IsRowOf queues xs) (is : now ≡ partly (kept_pass end) k xs)
    (lt : k < length queues) where
  long : length now ≡ length queues
  long = ap length is ∙ (partly-length (kept_pass end) k xs ∙ row.as_many)

  pub pass_at : (s : HeldPass) → s ≡ get_or now k s → slice_get now k ≡ Some s
  pass_at s e = slice_get_read now (length queues) k s (sym long) lt e

  was : (s : HeldPass) → s ≡ get_or now k s → slice_get xs k ≡ Some s
  was s e = was_there (kept_pass end) k xs now s is (pass_at s e)

  pub is_of : (s : HeldPass) (i : QueueId) → s ≡ get_or now k s → i ≡ get_or queues k i → IsOf s i
  is_of s i e f = row.each k s i (was s e) (slice_get_read queues (length queues) k i refl lt f)

  pub can_split : (id : ℕ) (s : HeldPass) → CanSplit id end xs → s ≡ get_or now k s → (id ≡ s.view.own.next) × (id < end) × (end ≤ s.view.own.end)
  can_split id s each e = let t = each.each k s (was s e) in (t.0, each.some, t.1)
