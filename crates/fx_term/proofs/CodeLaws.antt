-- A list of nodes that has a fault is no code, and one whose tests all pass is a code.
use Rattle.std.proofs.Common.{◌≡◌, ◌⊎◌, ℕ, suc, ◌^◌, ◌<◌, List, ◌∷◌, ◌++◌, length, subst, inl, inr, arith}
use Rattle.std.specs.Prelude.{All}
use Rattle.std.proofs.lemmas.List.{nil_from_length}
use Rattle.fx_term.specs.declared.node.Node.{Node}
use Rattle.fx_term.specs.declared.code.CodeFault.{CodeFault}
use Rattle.fx_term.specs.declared.code.CodeFault.TheVariants.{Memory}
use Rattle.fx_term.specs.Tree.{IsOneTree}
use Rattle.fx_term.specs.Walk.{Spot, spots}
use Rattle.fx_term.specs.WellPlaced.{IsWellPlaced}
use Rattle.fx_term.specs.Code.{IsCode, IsFault, no_node, too_many, stray, orphan, slot, kind, limit}
use Rattle.fx_term.proofs.AllParts.{all_middle}
use Rattle.fx_term.proofs.SpotLaws.{root_right, root_placed}
use Rattle.fx_term.proofs.TreeLaws.{forest_take}

placed_there : (queues : ℕ) (nodes : List Node) (before after : List Spot) (s : Spot) → IsCode queues nodes → spots nodes ≡ before ++ s ∷ after
    → IsWellPlaced queues nodes s
placed_there queues nodes before after s code split =
    all_middle (IsWellPlaced queues nodes) before s after
    (subst (All (IsWellPlaced queues nodes)) split (root_placed queues nodes code.tree.forest.before code.scope code.turns code.needs code.named))

-- a code has no fault
pub no_fault_of_code : (queues : ℕ) (nodes : List Node) (fault : CodeFault) → IsFault queues nodes fault → IsCode queues nodes → ⊥
no_fault_of_code queues nodes fault (no_node empty) code = code.tree.some_node (nil_from_length nodes empty)
no_fault_of_code queues nodes fault (too_many many) code = let fits = code.fits in absurd (omega arith)
no_fault_of_code queues nodes fault (stray {id} fits within front at) code = at (forest_take (suc id) nodes code.tree.forest)
no_fault_of_code queues nodes fault (orphan {id} fits forest within before at) code = at (code.tree.each id within)
no_fault_of_code queues nodes fault (slot before after s fits tree split placed at) code =
    at (placed_there queues nodes before after s code split).numbers
no_fault_of_code queues nodes fault (kind before after s fits tree split placed right at) code =
    at (placed_there queues nodes before after s code split).kinds
no_fault_of_code queues nodes fault (limit before after s fits tree split placed right of_kind at) code =
    at (placed_there queues nodes before after s code split).limits

-- of a code no fault is answered but want of memory
pub only_memory : (queues : ℕ) (nodes : List Node) (fault : CodeFault) → (fault ≡ Memory) ⊎ IsFault queues nodes fault → IsCode queues nodes → fault ≡ Memory
only_memory queues nodes fault (inl memory) code = memory
only_memory queues nodes fault (inr found) code = absurd (no_fault_of_code queues nodes fault found code)

-- what the tests find makes a code
pub code_of_tests : (queues : ℕ) (nodes : List Node) → length nodes < 2 ^ 32 → IsOneTree nodes → All (IsWellPlaced queues nodes) (spots nodes)
    → IsCode queues nodes
code_of_tests queues nodes fits tree placed =
    let root = root_right queues nodes tree.forest.before placed in
    record { fits = fits; tree = tree; scope = root.scope; turns = root.turns; needs = root.needs; named = root.named }
