-- The terms of nodes: they are made of those of their children, and stay as nodes are added.
use Rattle.std.proofs.Common.{◌≡◌, ℕ, zero, suc, ◌+◌, ◌<◌, Option, Some, None, List, [], ◌∷◌, ◌++◌, length, refl, sym, ◌∙◌, arith, subst, inl, inr}
use Rattle.std.specs.Prelude.{slice_get, All}
use Rattle.std.proofs.lemmas.Bool.{cases_lt}
use Rattle.std.proofs.lemmas.List.Elements.{recursion_from_All}
use Rattle.fx_term.specs.declared.node.Node.{Node}
use Rattle.fx_term.specs.declared.code.signature.Part.{Part}
use Rattle.fx_term.specs.Signature.{parts}
use Rattle.fx_term.specs.Term.{Term}
use Rattle.fx_term.specs.Meaning.{assemble, read, term_of}
use Rattle.fx_term.specs.Tree.{children, ChildrenComeFirst}
use Rattle.fx_term.proofs.AllParts.{all_from_map}
use Rattle.fx_term.proofs.SignatureLaws.{node_same}

-- a node's term depends on the terms of its children alone
pub assemble_same : (n : Node) (f g : ℕ → Term) → All (λ c. f c ≡ g c) (children n) → assemble (Some n) f ≡ assemble (Some n) g
assemble_same n f g h =
    node_same n f g (recursion_from_All (λ (p : Part). f p.node.0 ≡ g p.node.0) (parts n)
    (all_from_map (λ c. f c ≡ g c) (λ (p : Part). p.node.0) (parts n) h))

-- what holds of each number below holds of each child
below_children : (P : ℕ → Type 0) (id : ℕ) (cs : List ℕ) → All (λ c. c < id) cs → ((j : ℕ) → j < id → P j) → All P cs
below_children P id cs h each k d lt = each _ (h k d lt)

module _ (nodes : List Node) (tree : ChildrenComeFirst nodes) where
  -- a node reads the same at each depth above its number
  read_same : (k m id : ℕ) → id < k → id < m → read k nodes id ≡ read m nodes id
  unfolding read
  read_same zero m id p q = absurd (omega arith)
  read_same (suc k) zero id p q = absurd (omega arith)
  read_same (suc k) (suc m) id p q = by_node (slice_get nodes id) refl (λ j h. read_same k m j (omega arith) (omega arith))
    where
      by_node : (o : Option Node) → slice_get nodes id ≡ o → ((j : ℕ) → j < id → read k nodes j ≡ read m nodes j)
          → assemble o (read k nodes) ≡ assemble o (read m nodes)
      by_node None e same = refl
      by_node (Some n) e same =
          assemble_same n (read k nodes) (read m nodes) (below_children (λ j. read k nodes j ≡ read m nodes j) id (children n) (tree id n e) same)

  -- a node's term is made of its children's
  pub term_of_node : (id : ℕ) (n : Node) → slice_get nodes id ≡ Some n → term_of nodes id ≡ assemble (Some n) (term_of nodes)
  unfolding term_of read
  term_of_node id n e =
      rw e (assemble_same n (read id nodes) (term_of nodes)
      (below_children (λ j. read id nodes j ≡ read (suc j) nodes j) id (children n) (tree id n e) (λ j h. read_same id (suc j) j h (omega arith))))

-- reading a list with one more element at its end
pub get_before : {X : Type 0} (xs : List X) (y : X) (i : ℕ) → i < length xs → slice_get (xs ++ y ∷ []) i ≡ slice_get xs i
get_before [] y i h = absurd (omega arith)
get_before (x ∷ xs) y zero h = refl
get_before (x ∷ xs) y (suc i) h = get_before xs y i (omega arith)

pub get_last : {X : Type 0} (xs : List X) (y : X) → slice_get (xs ++ y ∷ []) (length xs) ≡ Some y
get_last [] y = refl
get_last (x ∷ xs) y = get_last xs y

pub get_past : {X : Type 0} (xs : List X) (i : ℕ) (n : X) → slice_get xs i ≡ Some n → i < length xs
get_past [] i n e = absurd cc
get_past (x ∷ xs) zero n e = omega arith
get_past (x ∷ xs) (suc i) n e = let h = get_past xs i n e in omega arith

pub length_push : {X : Type 0} (xs : List X) (y : X) → length (xs ++ y ∷ []) ≡ length xs + 1
length_push [] y = refl
length_push (x ∷ xs) y = let h = length_push xs y in omega arith

-- what a list of nodes in which children come first keeps as a node is added at its end
module _ (xs : List Node) (y : Node) (tree : ChildrenComeFirst xs) where
  read_push : (k id : ℕ) → id < length xs → read k (xs ++ y ∷ []) id ≡ read k xs id
  unfolding read
  read_push zero id h = refl
  read_push (suc k) id h = rw (get_before xs y id h) (by_node (slice_get xs id) refl (λ j p. read_push k j p))
    where
      by_node : (o : Option Node) → slice_get xs id ≡ o → ((j : ℕ) → j < length xs → read k (xs ++ y ∷ []) j ≡ read k xs j)
          → assemble o (read k (xs ++ y ∷ [])) ≡ assemble o (read k xs)
      by_node None e same = refl
      by_node (Some n) e same =
          assemble_same n (read k (xs ++ y ∷ [])) (read k xs)
          (below_children (λ j. read k (xs ++ y ∷ []) j ≡ read k xs j) id (children n) (tree id n e) (λ j p. same j (omega arith)))

  -- the nodes before keep their terms
  pub term_before : (id : ℕ) → id < length xs → term_of (xs ++ y ∷ []) id ≡ term_of xs id
  unfolding term_of
  term_before id h = read_push (suc id) id h

  pub children_first_push : All (λ c. c < length xs) (children y) → ChildrenComeFirst (xs ++ y ∷ [])
  children_first_push below id n e = elim (cases_lt id (length xs)) [
    | inl lt ↦ tree id n (sym (get_before xs y id lt) ∙ e)
    | inr le ↦ let p = get_past (xs ++ y ∷ []) id n e in let q = length_push xs y in let at : id ≡ length xs = omega arith in
        let e2 : slice_get (xs ++ y ∷ []) (length xs) ≡ Some n = subst (λ (i : ℕ). slice_get (xs ++ y ∷ []) i ≡ Some n) at e in
        let last = get_last xs y in
        let same : y ≡ n = cc in
        subst (λ (i : ℕ). All (λ c. c < i) (children n)) (sym at) (subst (λ (m : Node). All (λ c. c < length xs) (children m)) same below)
  ]

  -- the term of the new node
  pub term_push : All (λ c. c < length xs) (children y) → term_of (xs ++ y ∷ []) (length xs) ≡ assemble (Some y) (term_of (xs ++ y ∷ []))
  term_push below = term_of_node (xs ++ y ∷ []) (children_first_push below) (length xs) y (get_last xs y)
