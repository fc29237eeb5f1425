-- How often loops run what stands in them.
use Rattle.std.specs.Prelude.{ℕ, ◌*◌, ◌≤◌, max, Option, None, Some}
use Rattle.fx_term.specs.Term.{Term, Let, Handle, If, For, Mask, Poll, OnCancel, Bracket, BracketCase, Start, Join, TryTake}

abbrev pub most_turns : ℕ
most_turns = 1000000

-- the turns of a loop's part, where the loop itself is run so many times: the product of the counts, a count of 0 taken as 1
abbrev pub turns_of_loop : ℕ → ℕ → ℕ
turns_of_loop turns count = turns * max 1 count

-- the turns of a part of what is run so many times, where a loop of this count may repeat the part
abbrev pub turns_inside : ℕ → Option ℕ → ℕ
turns_inside turns None = turns
turns_inside turns (Some count) = turns_of_loop turns count

-- they are no more than the most turns, where a loop repeats the part
abbrev pub HasFewInside : ℕ → Option ℕ → Type 0
HasFewInside turns None = Unit {0}
HasFewInside turns (Some count) = turns_of_loop turns count ≤ most_turns

-- in a term that is run so many times, no loop's part has more than the most turns
abbrev pub HasFewTurns : ℕ → Term → Type 0
HasFewTurns turns (Let x a b) = HasFewTurns turns a × HasFewTurns turns b
HasFewTurns turns (Handle a x b) = HasFewTurns turns a × HasFewTurns turns b
HasFewTurns turns (If v a b) = HasFewTurns turns a × HasFewTurns turns b
HasFewTurns turns (For i c a) = (turns_of_loop turns c ≤ most_turns) × HasFewTurns (turns_of_loop turns c) a
HasFewTurns turns (Mask p a) = HasFewTurns turns a
HasFewTurns turns (Poll p a) = HasFewTurns turns a
HasFewTurns turns (OnCancel a f) = HasFewTurns turns a × HasFewTurns turns f
HasFewTurns turns (Bracket x a u r) = HasFewTurns turns a × HasFewTurns turns u × HasFewTurns turns r
HasFewTurns turns (BracketCase x a u y s z e d) = HasFewTurns turns a × HasFewTurns turns u × HasFewTurns turns s × HasFewTurns turns e × HasFewTurns turns d
HasFewTurns turns (Start h a b) = HasFewTurns turns a × HasFewTurns turns b
HasFewTurns turns (Join f x a e b c) = HasFewTurns turns a × HasFewTurns turns b × HasFewTurns turns c
HasFewTurns turns (TryTake q x a b) = HasFewTurns turns a × HasFewTurns turns b
HasFewTurns turns _ = Unit {0}
