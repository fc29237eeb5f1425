-- The fiber numbers that the terms of nodes can use.
use Rattle.std.proofs.Common.{◌≡◌, ℕ, zero, suc, ◌+◌, ◌-◌, ◌*◌, ◌<◌, ◌≤◌, Option, Some, None, List, [], ◌∷◌, ◌++◌, length, drop, get_or}
use Rattle.std.proofs.Common.{refl, sym, ◌∙◌, ap, subst, inl, inr, arith}
use Rattle.std.specs.Prelude.{All, Contains, slice_get, slice_index}
use Rattle.std.proofs.lemmas.Bool.{cases_lt}
use Rattle.std.proofs.lemmas.List.{length_push, get_or_append_left, get_or_push}
use Rattle.std.proofs.lemmas.Option.{slice_get-get_or}
use Rattle.std.proofs.lemmas.List.Elements.{All-head, All-tail, All-from_recursion, Contains-append_cases}
use Rattle.fx_term.specs.declared.node.Node.{Node}
use Rattle.fx_term.specs.declared.code.signature.Part.{Part}
use Rattle.fx_term.specs.declared.code.signature.Running.{Running}
use Rattle.fx_term.specs.declared.code.signature.Running.TheVariants.{Beside, Instead}
use Rattle.fx_term.specs.Signature.{parts, present}
use Rattle.fx_term.specs.Term.{Term, Let, Handle, If, For, Mask, Poll, OnCancel, Bracket, BracketCase, Start, Join, TryTake, Masked, Opened}
use Rattle.fx_term.specs.Term.{InUse, InUseCase, InRelease, Loop}
use Rattle.fx_term.specs.Need.{need, most_need, NeedsFew}
use Rattle.fx_term.specs.NodeNeed.{capped, in_all_turns, need_of_part, need_of_both, need_of_all, need_of_node, AreNeeds}
use Rattle.fx_term.specs.Meaning.{term_of}
use Rattle.fx_term.specs.Tree.{children, all_children, ChildrenComeFirst, IsOneTree}
use Rattle.fx_term.specs.Code.{IsCode}
use Rattle.fx_term.proofs.AllParts.{all_map, all_from_map}
use Rattle.fx_term.proofs.NodeTerms.{term_of_node, get_past}
use Rattle.fx_term.proofs.PresentLaws.{present_from, absent_from}
use Rattle.fx_term.proofs.SignatureLaws.{NeedsFewInside, few_of_node, need_is}

-- a term whose parts can use few fiber numbers can use few itself
pub few_need : (t : Term) → NeedsFew t → need t ≤ most_need
few_need (Let x a b) h = h.0
few_need (Handle a x b) h = h.0
few_need (If v a b) h = h.0
few_need (For i c a) h = h.0
few_need (Mask p a) h = h.0
few_need (Poll p a) h = h.0
few_need (OnCancel a f) h = h.0
few_need (Bracket x a u r) h = h.0
few_need (BracketCase x a u y s z e d) h = h.0
few_need (Start i a b) h = h.0
few_need (Join f x a e b c) h = h.0
few_need (TryTake q x a b) h = h.0
few_need (Masked r a) h = h.0
few_need (Opened r a) h = h.0
few_need (InUse k a r) h = h.0
few_need (InUseCase k u y s z e d) h = h.0
few_need (InRelease k a v) h = h.0
few_need (Loop i k n a) h = h.0
few_need _ h = omega arith

-- a number that is no more than the most stands for itself
pub capped_few : (n : ℕ) → capped n ≤ most_need → capped n ≡ n
capped_few n h = omega arith

pub few_capped : (n : ℕ) → n ≤ most_need → capped n ≤ most_need
few_capped n h = omega arith

pub few_from_capped : (n : ℕ) → capped n ≤ most_need → n ≤ most_need
few_from_capped n h = omega arith

-- sums, greatest numbers and products of numbers above the most are such too
module _ (n m : ℕ) where
  both_capped : (how : Running) (i j : ℕ) → capped n ≡ capped i → capped m ≡ capped j → capped (need_of_both how n m) ≡ capped (need_of_both how i j)
  both_capped Beside i j p q = omega arith
  both_capped Instead i j p q = omega arith

times_capped : (count n m : ℕ) → capped n ≡ capped m → capped (count * n) ≡ capped (count * m)
times_capped zero n m e = omega arith
times_capped (suc k) n m e = let rest = times_capped k n m e in omega arith

turns_capped : (count : Option ℕ) (n m : ℕ) → capped n ≡ capped m → capped (in_all_turns count n) ≡ capped (in_all_turns count m)
turns_capped None n m e = e
turns_capped (Some count) n m e = times_capped count n m e

-- so a node's need comes from the needs of its parts, those above the most capped
module _ (f g : ℕ → ℕ) where
  part_capped : (p : Part) → capped (f p.node.0) ≡ capped (g p.node.0) → capped (need_of_part f p) ≡ capped (need_of_part g p)
  part_capped p e = let turns = turns_capped p.count (f p.node.0) (g p.node.0) e in omega arith

  all_capped : (ps : List Part) → All (λ (p : Part). capped (f p.node.0) ≡ capped (g p.node.0)) ps → capped (need_of_all f ps) ≡ capped (need_of_all g ps)
  all_capped [] h = refl
  all_capped (p ∷ ps) h =
      let Same = λ (q : Part). capped (f q.node.0) ≡ capped (g q.node.0) in
      both_capped (need_of_part f p) (need_of_all f ps) p.running (need_of_part g p) (need_of_all g ps)
      (part_capped p (All-head Same p ps h)) (all_capped ps (All-tail Same p ps h))

-- the needs of the parts from an entry on, as far as they are there
abbrev pub need_from : (ℕ → ℕ) → List (Option Part) → ℕ → ℕ
need_from needs entries i = capped (need_of_all needs (present (drop i entries)))

pub need_of_entry : (needs : ℕ → ℕ) (entries : List (Option Part)) (i : ℕ) (d : Option Part) (p : Part) → i < length entries
    → get_or entries i d ≡ Some p → (part after : ℕ) → part ≡ capped (need_of_part needs p) → after ≡ need_from needs entries (suc i)
    → capped (need_of_both p.running part after) ≡ need_from needs entries i
need_of_entry needs entries i d p lt e part after this rest =
    both_capped part after p.running (need_of_part needs p) (need_of_all needs (present (drop (suc i) entries))) (omega arith) (omega arith)
    ∙ ap (λ ps. capped (need_of_all needs ps)) (sym (present_from entries i d p lt e))

pub need_of_no_entry : (needs : ℕ → ℕ) (entries : List (Option Part)) (i : ℕ) (d : Option Part) → i < length entries
    → get_or entries i d ≡ None → need_from needs entries (suc i) ≡ need_from needs entries i
need_of_no_entry needs entries i d lt e = ap (λ ps. capped (need_of_all needs ps)) (sym (absent_from entries i d lt e))

-- the needs of the first nodes, one after another
pub needs_of_none : (nodes : List Node) (needs : List ℕ) → needs ≡ [] → AreNeeds nodes 0 needs
needs_of_none nodes needs e = record { each = ap length e; need = λ id lt. absurd (omega arith) }

module _ (nodes : List Node) (tree : ChildrenComeFirst nodes) where
  next_need : (id : ℕ) (n : Node) → slice_get nodes id ≡ Some n → (needs : List ℕ) → AreNeeds nodes id needs
      → capped (need_of_node (λ i. slice_index needs i) n) ≡ capped (need (term_of nodes id))
  next_need id n e needs are =
      let Same = λ (c : ℕ). capped (slice_index needs c) ≡ capped (need (term_of nodes c)) in
      let below : All Same (children n) = λ i d lt. let before = tree id n e i d lt in let here = are.need _ before in omega arith in
      all_capped (λ i. slice_index needs i) (λ i. need (term_of nodes i)) (parts n) (all_from_map Same (λ (p : Part). p.node.0) (parts n) below)
      ∙ ap capped (sym (need_is (term_of nodes) n) ∙ ap need (sym (term_of_node nodes tree id n e)))

  module _ (count : ℕ) (d : Node) (within : count < length nodes) (needs : List ℕ) (are : AreNeeds nodes count needs) where
    -- the needs of the next node's children are there
    pub children_have_needs : All (λ c. c < length needs) (children (get_or nodes count d))
    children_have_needs i c lt =
        let before = tree count (get_or nodes count d) (slice_get-get_or nodes count d within) i c lt in
        let each = are.each in
        omega arith

    -- and then its own is
    pub needs_push : (n : ℕ) → n ≡ capped (need_of_node (λ i. slice_index needs i) (get_or nodes count d)) → (new : List ℕ) → new ≡ needs ++ n ∷ []
        → AreNeeds nodes (count + 1) new
    needs_push n e new pushed = record {
      each = ap length pushed ∙ length_push needs n ∙ ap (λ k. k + 1) are.each;
      need = λ id lt. elim (cases_lt id count) [
        | inl before ↦ ap (λ xs. slice_index xs id) pushed ∙ get_or_append_left needs (n ∷ []) 0 id (omega (arith, are.each)) ∙ are.need id before
        | inr last ↦
            let at : id ≡ count = omega arith in
            ap (λ xs. slice_index xs id) pushed ∙ get_or_push needs n 0 id (are.each ∙ sym at) ∙ e
            ∙ next_need count (get_or nodes count d) (slice_get-get_or nodes count d within) needs are
            ∙ ap (λ i. capped (need (term_of nodes i))) (sym at)
      ];
    }

-- each node but the last has a parent
parent_of : (nodes : List Node) (k : ℕ) → Contains (all_children nodes) k → (id : ℕ) × (n : Node) × (slice_get nodes id ≡ Some n) × Contains (children n) k
parent_of [] k h = absurd (omega (arith, h.1))
parent_of (n ∷ nodes) k h = elim (Contains-append_cases (children n) (all_children nodes) k h) [
  | inl here ↦ (0, n, refl, here)
  | inr later ↦ let up = parent_of nodes k later in (suc up.0, up.1, up.2, up.3)
]

-- what holds of the root, and of a node's children where it holds of the node, holds of each node
module _ (nodes : List Node) (tree : IsOneTree nodes) (P : ℕ → Type 0) (root : P (length nodes - 1))
    (down : (id : ℕ) (n : Node) → slice_get nodes id ≡ Some n → P id → All P (children n)) where
  from_root : (k id : ℕ) → id < length nodes → length nodes ≤ id + suc k → P id
  from_root zero id lt near = let at : length nodes - 1 ≡ id = omega arith in subst P at root
  from_root (suc k) id lt near = elim (cases_lt (id + 1) (length nodes)) [
    | inl before ↦
        let up = parent_of nodes id (tree.each id before) in
        let at = up.3 in
        let above : id < up.0 = subst (λ c. c < up.0) at.2 (tree.forest.before up.0 up.1 up.2 at.0 id at.1) in
        let within = get_past nodes up.0 up.1 up.2 in
        subst P at.2 (down up.0 up.1 up.2 (from_root k up.0 within (omega arith)) at.0 id at.1)
    | inr last ↦ let at : length nodes - 1 ≡ id = omega arith in subst P at root
  ]

  pub holds_of_each : (id : ℕ) → id < length nodes → P id
  holds_of_each id lt = from_root (length nodes) id lt (omega arith)

-- no node of a code can use more than the most
pub each_needs_few : (queues : ℕ) (nodes : List Node) → IsCode queues nodes → (id : ℕ) → id < length nodes → need (term_of nodes id) ≤ most_need
each_needs_few queues nodes code id lt =
    let Few = λ (i : ℕ). NeedsFew (term_of nodes i) in
    few_need (term_of nodes id) (holds_of_each nodes code.tree Few code.needs
    (λ j n e few. all_map Few (λ (p : Part). p.node.0) (parts n) (All-from_recursion (NeedsFewInside (term_of nodes)) (parts n)
    (few_of_node (term_of nodes) n (subst NeedsFew (term_of_node nodes code.tree.forest.before j n e) few)))) id lt)

-- the need that a code keeps of a node is that of its term
pub kept_need : (queues : ℕ) (nodes : List Node) (needs : List ℕ) → IsCode queues nodes → AreNeeds nodes (length nodes) needs → (id : ℕ) → id < length nodes
    → slice_index needs id ≡ need (term_of nodes id)
kept_need queues nodes needs code are id lt =
    let kept = are.need id lt in
    let few = each_needs_few queues nodes code id lt in
    omega arith

pub within_needs : (nodes : List Node) (needs : List ℕ) → AreNeeds nodes (length nodes) needs → (id : ℕ) → id < length nodes → id < length needs
within_needs nodes needs are id lt = let each = are.each in omega arith
