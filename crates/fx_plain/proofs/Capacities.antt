-- The capacities of the queues of a script.
use Rattle.std.proofs.Common.{◌≡◌, ℕ, List, [], ◌∷◌, map, refl, ap}
use Rattle.std.specs.Prelude.{string_bytes}
use Rattle.fx_text.specs.declared.queue_decl.QueueDecl.{QueueDecl}
use Rattle.fx_plain.specs.PlainQueue.{QueueView, empty_queue}

-- an empty queue for each declaration is one for each capacity
pub empty_by_capacity : (queues : List QueueDecl)
    → map (λ (q : QueueDecl). empty_queue q.cap) queues
    ≡ map empty_queue (map (λ (q : List ℕ × ℕ). q.1) (map (λ (q : QueueDecl). (string_bytes q.name, q.cap)) queues))
empty_by_capacity [] = refl
empty_by_capacity (q ∷ queues) = ap (λ (qs : List QueueView). empty_queue q.cap ∷ qs) (empty_by_capacity queues)
