-- The capacities of the queues that a script declares.
use Rattle.std.proofs.Common.{◌≡◌, ℕ, zero, suc, ◌<◌, ◌≤◌, List, [], ◌∷◌, length, refl, ap, arith}
use Rattle.std.specs.Prelude.{map, slice_index, slice_index_or}
use Rattle.fx_text.specs.QueuesView.{view_queues}
use Rattle.fx_text.specs.declared.queue_decl.QueueDecl.{QueueDecl}

-- of those that a script declares
abbrev pub capacities_in : List QueueDecl → List ℕ
capacities_in queues = map (λ (q : List ℕ × ℕ). q.1) (view_queues queues)

pub capacity_at : (queues : List QueueDecl) (q : ℕ) (declared d : QueueDecl) → q < length queues → declared ≡ slice_index_or queues q d
    → declared.cap ≡ slice_index (capacities_in queues) q
capacity_at [] q declared d below e = absurd (omega (arith, below))
capacity_at (x ∷ xs) zero declared d below e = ap (λ (y : QueueDecl). y.cap) e
capacity_at (x ∷ xs) (suc q) declared d below e = capacity_at xs q declared d (omega (arith, below)) e

pub no_capacity : (queues : List QueueDecl) (q : ℕ) → length queues ≤ q → slice_index (capacities_in queues) q ≡ 0
no_capacity [] q past = refl
no_capacity (x ∷ xs) zero past = absurd (omega (arith, past))
no_capacity (x ∷ xs) (suc q) past = no_capacity xs q (omega (arith, past))
