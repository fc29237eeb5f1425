-- The capacities of a script's queues, as they are handed on.
use Rattle.std.proofs.Common.{◌≡◌, ℕ, Option, List, [], ◌∷◌, map, refl, ap, subst, ◌∙◌}
use Rattle.std.specs.Prelude.{string_bytes}
use Rattle.fx_text.specs.declared.queue_decl.QueueDecl.{QueueDecl}
use Rattle.fx_model.specs.Report.{ReportView}
use Rattle.fx_order.specs.declared.occurrence.Occurrence.{Occurrence}
use Rattle.fx_counts.specs.declared.at_queue.AtQueue.{AtQueue}
use Rattle.fx_counts.specs.Counted.{AreCounted}
use Rattle.fx_run_events.specs.Found.{IsInOwnOrder, AreCountedOrNone, counted}

-- the capacities of the script, from the queues of the code
abbrev declared : List QueueDecl → List ℕ
declared queues = map (λ (q : List ℕ × ℕ). q.1) (map (λ (q : QueueDecl). (string_bytes q.name, q.cap)) queues)

as_declared : (queues : List QueueDecl) → map (λ (q : QueueDecl). q.cap) queues ≡ declared queues
as_declared [] = refl
as_declared (q ∷ queues) = ap (λ (caps : List ℕ). q.cap ∷ caps) (as_declared queues)

pub counted_so : (queues : List QueueDecl) (r : ReportView) (caps : List ℕ) (list : List Occurrence) (counts : List (Option AtQueue))
    → caps ≡ map (λ (q : QueueDecl). q.cap) queues → IsInOwnOrder r list → AreCounted caps r list counts
    → AreCountedOrNone (declared queues) r list counts
counted_so queues r caps list counts is in_order are =
    counted in_order (subst (λ (cs : List ℕ). AreCounted cs r list counts) (is ∙ as_declared queues) are)
