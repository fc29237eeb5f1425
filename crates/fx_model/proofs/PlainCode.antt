-- The term of a code is plain.
use Rattle.std.proofs.Common.{◌≢◌, ℕ, zero, suc, ◌-◌, ◌<◌, Some, List, [], ◌∷◌, length, get_or, All, refl, arith}
use Rattle.std.specs.List.{AllByRecursion}
use Rattle.std.proofs.lemmas.List.Elements.{recursion_from_All}
use Rattle.std.proofs.lemmas.Option.{slice_get-get_or}
use Rattle.fx_term.specs.declared.node.Node.{Node}
use Rattle.fx_term.specs.declared.node.Node.TheVariants as node
use Rattle.fx_term.specs.Term.{Term}
use Rattle.fx_term.specs.Meaning.{assemble, read, term_of, root_term}
use Rattle.fx_term.specs.Tree.{children, ChildrenComeFirst}
use Rattle.fx_term.specs.Code.{IsCode}
use Rattle.fx_model.specs.MaskLaws.{IsPlain}

-- a node's term is plain where those of its children are; this names no form with a part
assemble_plain : (n : Node) (f : ℕ → Term) → AllByRecursion (λ c. IsPlain (f c)) (children n) → IsPlain (assemble (Some n) f)
assemble_plain node.Canceled f each = tt
assemble_plain _ f each = assumption

-- a node that is there reads as a plain term at each depth above its number
read_plain : (nodes : List Node) → ChildrenComeFirst nodes → (depth id : ℕ) → id < depth → id < length nodes → IsPlain (read depth nodes id)
unfolding read
read_plain nodes tree zero id p q = absurd (omega arith)
read_plain nodes tree (suc depth) id p q =
    let n = get_or nodes id node.Canceled in
    let here = slice_get-get_or nodes id node.Canceled q in
    let each : All (λ c. IsPlain (read depth nodes c)) (children n) = λ k d h. let below = tree id n here k d h in
    read_plain nodes tree depth (get_or (children n) k d) (omega arith) (omega arith) in
    rw here (assemble_plain n (read depth nodes) (recursion_from_All (λ c. IsPlain (read depth nodes c)) (children n) each))

last_is_within : (nodes : List Node) → nodes ≢ [] → length nodes - 1 < length nodes
last_is_within [] h = absurd (h refl)
last_is_within (n ∷ ns) h = omega arith

pub code_is_plain : {queues : ℕ} (nodes : List Node) → IsCode queues nodes → IsPlain (root_term nodes)
unfolding term_of
code_is_plain nodes c = read_plain nodes c.tree.forest.before (suc (length nodes - 1)) (length nodes - 1) (omega arith) (last_is_within nodes c.tree.some_node)
