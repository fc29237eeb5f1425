-- The capacities that a script declares.
use Rattle.std.proofs.Common.{◌≡◌, ℕ, zero, suc, ◌<◌, ◌≤◌, Some, List, [], ◌∷◌, map, sym, subst}
use Rattle.std.specs.Prelude.{slice_get}
use Rattle.std.proofs.lemmas.Option.{none-some, same_Some}
use Rattle.std.proofs.lemmas.Simd.{map-map}
use Rattle.fx_text.specs.declared.queue_decl.QueueDecl.{QueueDecl}
use Rattle.fx_text.specs.declared.script.Script.{Script}
use Rattle.fx_text.specs.View.{meaning}
use Rattle.fx_report.specs.Script.{script_of}

abbrev cap_of : QueueDecl → ℕ
cap_of q = q.cap

-- each is one that a queue can have
pub can_be_opened : (queues : List QueueDecl) (k cap : ℕ) → slice_get (map cap_of queues) k ≡ Some cap → (0 < cap) × (cap ≤ 1024)
can_be_opened [] k cap e = absurd (none-some cap e)
can_be_opened (q ∷ queues) zero cap e = subst (λ (n : ℕ). (0 < n) × (n ≤ 1024)) (same_Some q.cap cap e) q.sized
can_be_opened (q ∷ queues) (suc k) cap e = can_be_opened queues k cap e

-- they are those that it means
pub are_meant : (s : Script) → map cap_of s.queues.items ≡ (script_of (meaning s)).capacities
are_meant s = sym (map-map _ _ s.queues.items)
