-- The work of a code's term is below what a counter of 63 bits can count, as often as its loops run.
use Rattle.std.proofs.Common.{ℕ, zero, suc, ◌+◌, ◌*◌, ◌-◌, ◌^◌, ◌<◌, ◌≤◌, Option, Some, List, [], ◌∷◌, length, refl, arith}
use Rattle.std.specs.Prelude.{slice_get}
use Rattle.fx_term.specs.declared.node.Node.{Node}
use Rattle.fx_term.specs.declared.node.Node.TheVariants as node
use Rattle.fx_term.specs.Term.{Term}
use Rattle.fx_term.specs.Turns.{most_turns, turns_of_loop, HasFewTurns}
use Rattle.fx_term.specs.Meaning.{assemble, read, term_of, root_term}
use Rattle.fx_term.specs.Code.{IsCode}
use Rattle.fx_term.proofs.TermSizes.{size, forest_size}
use Rattle.fx_model.specs.Work.{work}

-- so many turns of so much work are no more than five steps in each of the most turns of each of so many forms
abbrev IsLittle : ℕ → ℕ → ℕ → Type 0
IsLittle turns steps forms = turns * steps ≤ most_turns * (5 * forms)

little_one : (turns k e s : ℕ) → k ≤ 5 → turns ≤ most_turns → IsLittle turns e s → IsLittle turns (k + e) (1 + s)
little_one turns k e s few fits h = grind arith

little_two : (turns k e d s r : ℕ) → k ≤ 5 → turns ≤ most_turns → IsLittle turns e s → IsLittle turns d r → IsLittle turns (k + e + d) (1 + s + r)
little_two turns k e d s r few fits h i = grind arith

little_three : (turns k e d c s r q : ℕ) → k ≤ 5 → turns ≤ most_turns → IsLittle turns e s → IsLittle turns d r → IsLittle turns c q
    → IsLittle turns (k + e + d + c) (1 + s + r + q)
little_three turns k e d c s r q few fits h i j = grind arith

little_five : (turns k e d c b a s r q p o : ℕ) → k ≤ 5 → turns ≤ most_turns → IsLittle turns e s → IsLittle turns d r → IsLittle turns c q
    → IsLittle turns b p → IsLittle turns a o → IsLittle turns (k + e + d + c + b + a) (1 + s + r + q + p + o)
little_five turns k e d c b a s r q p o few fits h i j l m = grind arith

little_loop : (turns count e s : ℕ) → turns ≤ most_turns → turns_of_loop turns count ≤ most_turns → IsLittle (turns_of_loop turns count) e s
    → IsLittle turns (3 + count * (2 + e)) (1 + s)
little_loop turns count e s fits few h = grind arith

-- a node's term has little work, where the terms of its children do wherever they have few turns
little_node : (o : Option Node) (term : ℕ → Term) (turns : ℕ) → turns ≤ most_turns → HasFewTurns turns (assemble o term)
    → ((id inside : ℕ) → inside ≤ most_turns → HasFewTurns inside (term id) → IsLittle inside (work (term id)) (size (term id)))
    → IsLittle turns (work (assemble o term)) (size (assemble o term))
little_node (Some (node.Let x a b)) term turns fits few h = little_two turns 1 _ _ _ _ (omega arith) fits (h a.0 turns fits few.0) (h b.0 turns fits few.1)
little_node (Some (node.Handle a x b)) term turns fits few h = little_two turns 1 _ _ _ _ (omega arith) fits (h a.0 turns fits few.0) (h b.0 turns fits few.1)
little_node (Some (node.If v a b)) term turns fits few h = little_two turns 1 _ _ _ _ (omega arith) fits (h a.0 turns fits few.0) (h b.0 turns fits few.1)
little_node (Some (node.For i c a)) term turns fits few h = little_loop turns c _ _ fits few.0 (h a.0 (turns_of_loop turns c) few.0 few.1)
little_node (Some (node.Mask p a)) term turns fits few h = little_one turns 2 _ _ (omega arith) fits (h a.0 turns fits few)
little_node (Some (node.Poll p a)) term turns fits few h = little_one turns 2 _ _ (omega arith) fits (h a.0 turns fits few)
little_node (Some (node.OnCancel a b)) term turns fits few h = little_two turns 2 _ _ _ _ (omega arith) fits (h a.0 turns fits few.0) (h b.0 turns fits few.1)
little_node (Some (node.Bracket x a b c)) term turns fits few h =
    little_three turns 3 _ _ _ _ _ _ (omega arith) fits (h a.0 turns fits few.0) (h b.0 turns fits few.1) (h c.0 turns fits few.2)
little_node (Some (node.BracketCase x a u y s z e d)) term turns fits few h =
    little_five turns 3 _ _ _ _ _ _ _ _ _ _ (omega arith) fits (h a.0 turns fits few.0) (h u.0 turns fits few.1) (h s.0 turns fits few.2)
    (h e.0 turns fits few.3) (h d.0 turns fits few.4)
little_node (Some (node.Start x a b)) term turns fits few h = little_two turns 3 _ _ _ _ (omega arith) fits (h a.0 turns fits few.0) (h b.0 turns fits few.1)
little_node (Some (node.Join f x a e b c)) term turns fits few h =
    little_three turns 1 _ _ _ _ _ _ (omega arith) fits (h a.0 turns fits few.0) (h b.0 turns fits few.1) (h c.0 turns fits few.2)
little_node (Some (node.TryTake q x a b)) term turns fits few h = little_two turns 1 _ _ _ _ (omega arith) fits (h a.0 turns fits few.0)
    (h b.0 turns fits few.1)
little_node _ term turns fits few h = omega arith

little_read : (depth : ℕ) (nodes : List Node) (id turns : ℕ) → turns ≤ most_turns → HasFewTurns turns (read depth nodes id)
    → IsLittle turns (work (read depth nodes id)) (size (read depth nodes id))
unfolding read
little_read zero nodes id turns fits few = omega arith
little_read (suc depth) nodes id turns fits few = little_node (slice_get nodes id) (read depth nodes) turns fits few (little_read depth nodes)

little_of_term : (nodes : List Node) (id turns : ℕ) → turns ≤ most_turns → HasFewTurns turns (term_of nodes id)
    → IsLittle turns (work (term_of nodes id)) (size (term_of nodes id))
unfolding term_of
little_of_term nodes id turns fits few = little_read (suc id) nodes id turns fits few

pub code_work_fits : {queues : ℕ} {nodes : List Node} → IsCode queues nodes → work (root_term nodes) < 2 ^ 55
code_work_fits {nodes = []} code = absurd (code.tree.some_node refl)
code_work_fits {nodes = n ∷ nodes} code =
    let little = little_of_term (n ∷ nodes) (length (n ∷ nodes) - 1) 1 (omega arith) code.turns in
    let forms = forest_size n nodes code.tree.forest in
    let fits = code.fits in
    omega arith
