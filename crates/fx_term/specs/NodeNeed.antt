-- The fiber numbers that a node can use, from those that its parts can use.
use Rattle.std.specs.Prelude.{◌≡◌, ℕ, suc, ◌+◌, ◌*◌, ◌<◌, min, max, Bool, true, false, Option, Some, None, List, [], ◌∷◌, length, slice_index}
use Rattle.fx_term.specs.declared.node.Node.{Node}
use Rattle.fx_term.specs.declared.code.signature.Part.{Part}
use Rattle.fx_term.specs.declared.code.signature.Running.{Running}
use Rattle.fx_term.specs.declared.code.signature.Running.TheVariants.{Beside, Instead}
use Rattle.fx_term.specs.Signature.{parts}
use Rattle.fx_term.specs.Need.{need, most_need}
use Rattle.fx_term.specs.Meaning.{term_of}

-- all numbers above the most are taken for the next one
abbrev pub capped : ℕ → ℕ
capped n = min n (suc most_need)

-- those of a part, in all turns of a loop
abbrev pub in_all_turns : Option ℕ → ℕ → ℕ
in_all_turns None n = n
in_all_turns (Some count) n = count * n

-- the number of the fiber itself that is started for a part
abbrev pub own_number : Bool → ℕ
own_number true = 1
own_number false = 0

abbrev pub need_of_part : (ℕ → ℕ) → Part → ℕ
need_of_part needs p = own_number p.elsewhere + in_all_turns p.count (needs p.node.0)

-- those of a part and of what comes after it, where the part is run beside that, or instead of it
abbrev pub need_of_both : Running → ℕ → ℕ → ℕ
need_of_both Beside n m = n + m
need_of_both Instead n m = max n m

abbrev pub need_of_all : (ℕ → ℕ) → List Part → ℕ
need_of_all needs [] = 0
need_of_all needs (p ∷ ps) = need_of_both p.running (need_of_part needs p) (need_of_all needs ps)

abbrev pub need_of_node : (ℕ → ℕ) → Node → ℕ
need_of_node needs n = need_of_all needs (parts n)

-- the needs of the terms of the first nodes, in order
pub record AreNeeds (nodes : List Node) (count : ℕ) (needs : List ℕ) : Type 0 where
  pub each : length needs ≡ count
  pub need : (id : ℕ) → id < count → slice_index needs id ≡ capped (need (term_of nodes id))
