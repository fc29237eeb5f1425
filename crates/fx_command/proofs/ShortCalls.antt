-- A call with too few words for a request from outside.
use Rattle.std.proofs.Common.{◌≡◌, ℕ, ◌<◌, None, List, [], ◌∷◌, length, refl, arith}
use Rattle.fx_command.specs.Call.{call_expecting, call_canceling}

pub short : (script : List ℕ) (most : ℕ) (words : List (List ℕ)) → length words < 2
    → call_canceling script most words ≡ call_expecting script most None words
short script most [] few = refl
short script most (word ∷ []) few = refl
short script most (word ∷ fiber ∷ rest) few = absurd (omega arith)
