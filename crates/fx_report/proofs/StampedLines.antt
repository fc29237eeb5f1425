-- The lines of a trace, of its events with their stamps.
use Rattle.std.proofs.Common.{◌≡◌, ℕ, List, [], ◌∷◌, ◌++◌, All, refl, ap}
use Rattle.std.specs.List.{flat_map}
use Rattle.std.proofs.lemmas.List.Elements.{All-nil, All-cons, All-head, All-tail}
use Rattle.fx_term.specs.declared.stamped.Stamped.{Stamped}
use Rattle.fx_term.specs.Stamped.{events_in, stamps_in}
use Rattle.fx_term.specs.QueuesNamed.{NamesQueueBelow}
use Rattle.fx_report.specs.Text.{event_line, event_lines}

pub lines_are : (names : List (List ℕ)) (f : ℕ) (xs : List Stamped)
    → flat_map (λ (x : Stamped). event_line names f x.stamp x.event) xs ≡ event_lines names f (stamps_in xs) (events_in xs)
lines_are names f [] = refl
lines_are names f (x ∷ xs) = ap (λ (rest : List ℕ). event_line names f x.stamp x.event ++ rest) (lines_are names f xs)

abbrev NamesBelow : ℕ → Stamped → Type 0
NamesBelow n x = NamesQueueBelow n x.event

pub each_named : (n : ℕ) (xs : List Stamped) → All (NamesQueueBelow n) (events_in xs) → All (NamesBelow n) xs
each_named n [] h = All-nil (NamesBelow n)
each_named n (x ∷ xs) h =
    All-cons (NamesBelow n) x xs (All-head (NamesQueueBelow n) x.event (events_in xs) h)
    (each_named n xs (All-tail (NamesQueueBelow n) x.event (events_in xs) h))
