-- How many forms a term has; that of a forest has no more than there are nodes.
use Rattle.std.proofs.Common.{◌≡◌, ℕ, suc, ◌+◌, ◌-◌, ◌<◌, ◌≤◌, Some, List, [], ◌∷◌, length, refl, ap, arith}
use Rattle.std.specs.Prelude.{All, slice_get}
use Rattle.std.specs.List.{sum_by}
use Rattle.std.proofs.lemmas.List.Elements.{All-nil, All-append, All-weaker}
use Rattle.std.proofs.lemmas.List.Sums.{sum_by-append}
use Rattle.fx_term.specs.declared.node.Node.{Node}
use Rattle.fx_term.specs.declared.node.Node.TheVariants as node
use Rattle.fx_term.specs.Term.{Term, Let, Handle, If, For, Mask, Poll, OnCancel, Bracket, BracketCase, Start, Join, TryTake, Masked, Opened, InUse}
use Rattle.fx_term.specs.Term.{InUseCase, InRelease, Loop}
use Rattle.fx_term.specs.Meaning.{assemble, term_of, root_term}
use Rattle.fx_term.specs.Tree.{children, all_children, IsForest}
use Rattle.fx_term.proofs.NodeTerms.{term_of_node, get_past}
use Rattle.fx_term.proofs.SumBelow.{sum_below, sum_below_more, sum_by_distinct}

abbrev pub size : Term → ℕ
size (Let x a b) = 1 + size a + size b
size (Handle a x b) = 1 + size a + size b
size (If v a b) = 1 + size a + size b
size (For i c a) = 1 + size a
size (Mask p a) = 1 + size a
size (Poll p a) = 1 + size a
size (OnCancel a f) = 1 + size a + size f
size (Bracket x a u r) = 1 + size a + size u + size r
size (BracketCase x a u y s z e d) = 1 + size a + size u + size s + size e + size d
size (Start h a b) = 1 + size a + size b
size (Join f x a e b c) = 1 + size a + size b + size c
size (TryTake q x a b) = 1 + size a + size b
size (Masked r a) = 1 + size a
size (Opened r a) = 1 + size a
size (InUse k a r) = 1 + size a + size r
size (InUseCase k u y s z e d) = 1 + size u + size s + size e + size d
size (InRelease k a v) = 1 + size a
size (Loop i k n a) = 1 + size a
size _ = 1

-- a node is one form, and then there are those of its children
node_size : (n : Node) (f : ℕ → Term) → size (assemble (Some n) f) ≤ 1 + sum_by (λ c. size (f c)) (children n)
node_size (node.Pure a) f = omega arith
node_size _ f = omega arith

-- the sums of the nodes' shares, where a node's share is at most one more than its children's
shares : (nodes : List Node) (f g : ℕ → ℕ) → ((id : ℕ) (n : Node) → slice_get nodes id ≡ Some n → f id ≤ 1 + sum_by g (children n))
    → sum_below f (length nodes) ≤ length nodes + sum_by g (all_children nodes)
shares [] f g h = omega arith
shares (n ∷ nodes) f g h =
    let here = h 0 n refl in
    let rest = shares nodes (λ i. f (suc i)) g (λ id m e. h (suc id) m e) in
    let both = sum_by-append g (children n) (all_children nodes) in
    omega arith

-- each child stands before the last node
children_below : (nodes : List Node) (k : ℕ) → ((id : ℕ) (n : Node) → slice_get nodes id ≡ Some n → All (λ c. c < k) (children n))
    → All (λ c. c < k) (all_children nodes)
children_below [] k h = All-nil (λ c. c < k)
children_below (n ∷ nodes) k h = All-append (λ c. c < k) (children n) (all_children nodes) (h 0 n refl) (children_below nodes k (λ id m e. h (suc id) m e))

module _ (nodes : List Node) (forest : IsForest nodes) where
  abbrev size_at : ℕ → ℕ
  size_at id = size (term_of nodes id)

  at_node : (id : ℕ) (n : Node) → slice_get nodes id ≡ Some n → size_at id ≤ 1 + sum_by size_at (children n)
  at_node id n e = rw (term_of_node nodes forest.before id n e) (node_size n (term_of nodes))

  before_last : All (λ c. c < length nodes - 1) (all_children nodes)
  before_last = children_below nodes (length nodes - 1) (λ id n e.
      let within = get_past nodes id n e in
      All-weaker (λ c. c < id) (λ c. c < length nodes - 1) (λ c h. omega arith) (children n) (forest.before id n e))

  last_size : (k : ℕ) → length nodes ≡ suc k → size_at (length nodes - 1) ≤ length nodes
  last_size k e =
      let all : sum_below size_at (length nodes) ≤ length nodes + sum_by size_at (all_children nodes) = shares nodes size_at size_at at_node in
      let at : length nodes - 1 ≡ k = omega arith in
      let below : sum_by size_at (all_children nodes) ≤ sum_below size_at k = rw at at
      (sum_by_distinct size_at (length nodes - 1) (all_children nodes) forest.once before_last) in
      let more = sum_below_more size_at k in
      let whole : sum_below size_at (length nodes) ≡ sum_below size_at (suc k) = ap (sum_below size_at) e in
      rw at (omega arith)

pub forest_size : (n : Node) (nodes : List Node) → IsForest (n ∷ nodes) → size (root_term (n ∷ nodes)) ≤ length (n ∷ nodes)
forest_size n nodes forest = last_size (n ∷ nodes) forest (length nodes) refl
