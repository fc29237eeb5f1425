-- The nodes of the reader, as a node is added.
use Rattle.std.proofs.Common.{◌≡◌, ℕ, zero, suc, ◌+◌, ◌<◌, List, [], ◌∷◌, ◌++◌, length, All, IsPermutation, refl, sym, ◌∙◌, ap, subst, arith}
use Rattle.std.proofs.Common.{append_assoc, get_or}
use Rattle.std.specs.Prelude.{slice_index}
use Rattle.std.proofs.lemmas.List.{append-nil, length-append, get_or_push}
use Rattle.fx_term.specs.declared.node.Node.{Node}
use Rattle.fx_term.specs.Tree.{children}
use Rattle.fx_term.specs.Need.{need}
use Rattle.fx_term.specs.NodeNeed.{capped, need_of_node, AreNeeds}
use Rattle.fx_term.proofs.NeedLaws.{needs_push}
use Rattle.fx_term.proofs.NodeTerms.{length_push, term_before, children_first_push, term_push}
use Rattle.fx_text.specs.declared.reader.Reader.{Reader}
use Rattle.fx_text.specs.Needs.{AreMade}
use Rattle.fx_text.specs.Trees.{Trees, empty, more, GrowsBy, AllBelow}
use Rattle.fx_text.specs.ReaderState.{Adds}

pub all_below : (n : ℕ) (cs : List ℕ) → AllBelow n cs → All (λ c. c < n) cs
all_below n [] h k d lt = absurd (omega arith)
all_below n (c ∷ cs) h zero d lt = h.0
all_below n (c ∷ cs) h (suc k) d lt = all_below n cs h.1 k d (omega arith)

-- no node more
pub grows_none : (xs : List Node) → GrowsBy xs xs []
grows_none xs = record { added = []; is = sym (append-nil xs); trees = empty }

trees_append : (from middle : ℕ) (ns ms : List Node) (rs qs : List ℕ) → Trees from ns rs → middle ≡ from + length ns → Trees middle ms qs
    → Trees from (ns ++ ms) (rs ++ qs)
trees_append from middle ns _ rs _ d at empty = subst (λ (l : List Node). Trees from l (rs ++ [])) (sym (append-nil ns))
    (subst (λ (l : List ℕ). Trees from ns l) (sym (append-nil rs)) d)
trees_append from middle ns ms rs qs d at (more before below others parts n d1 d2 order whole roots) = more (ns ++ before) below (rs ++ others) parts n
    (trees_append from middle ns before rs others d at d1)
    (subst (λ (i : ℕ). Trees i below parts) (omega (arith, length-append ns before)) d2)
    order
    (ap (λ (l : List Node). ns ++ l) whole ∙ sym (append_assoc ns before (below ++ n ∷ [])))
    (ap (λ (l : List ℕ). rs ++ l) roots ∙ sym (append_assoc rs others _) ∙ ap (λ (i : ℕ). (rs ++ others) ++ i ∷ []) (omega (arith, length-append ns before)))

-- some trees, and then some more
pub grows_append : (a b c : List Node) (rs qs : List ℕ) → GrowsBy a b rs → GrowsBy b c qs → GrowsBy a c (rs ++ qs)
grows_append a b c rs qs g h = record {
  added = g.added ++ h.added;
  is = h.is ∙ ap (λ (l : List Node). l ++ h.added) g.is ∙ append_assoc a g.added h.added;
  trees = trees_append (length a) (length b) g.added h.added rs qs g.trees (ap length g.is ∙ length-append a g.added) h.trees;
}

-- the last tree, and those before it
record LastTree (from : ℕ) (all : List Node) (rs : List ℕ) (r : ℕ) : Type 0 where
  before : List Node
  tree : List Node
  is : all ≡ before ++ tree
  firsts : Trees from before rs
  last : Trees (from + length before) tree (r ∷ [])
  root : r + 1 ≡ from + length all

same_front : (rs qs : List ℕ) (r q : ℕ) → rs ++ r ∷ [] ≡ qs ++ q ∷ [] → (rs ≡ qs) × (r ≡ q)
same_front [] [] r q e = (refl, cc)
same_front [] (x ∷ qs) r q e = absurd (let h = ap length e in omega (arith, length-append qs (q ∷ [])))
same_front (x ∷ rs) [] r q e = absurd (let h = ap length e in omega (arith, length-append rs (r ∷ [])))
same_front (x ∷ rs) (y ∷ qs) r q e = let h : rs ++ r ∷ [] ≡ qs ++ q ∷ [] = cc in let k = same_front rs qs r q h in let f = k.0 in let g : x ≡ y = cc in
    (cc, k.1)

last_tree : (from : ℕ) (all : List Node) (some rs : List ℕ) (r : ℕ) → Trees from all some → some ≡ rs ++ r ∷ [] → LastTree from all rs r
last_tree from _ _ rs r empty e = absurd (let h = ap length e in omega (arith, length-append rs (r ∷ [])))
last_tree from all some rs r (more before below others parts n d1 d2 order whole roots) e =
    let h = same_front rs others r (from + length before + length below) (sym e ∙ roots) in
    record {
      before = before;
      tree = below ++ n ∷ [];
      is = whole;
      firsts = subst (λ (l : List ℕ). Trees from before l) (sym h.0) d1;
      last = more [] below [] parts n empty (subst (λ (i : ℕ). Trees i below parts) (omega arith) d2) order refl (ap (λ (i : ℕ). i ∷ []) (omega (arith, h.1)));
      root = omega (arith, h.1, ap length whole, length-append before (below ++ n ∷ []), length-append below (n ∷ []));
    }

-- a list that grew by some trees grew by those before the last, and then by the last
pub record GrewBefore (a c : List Node) (rs qs : List ℕ) : Type 0 where
  pub middle : List Node
  pub firsts : GrowsBy a middle rs
  pub lasts : GrowsBy middle c qs

pub grew_before_last : (a c : List Node) (rs : List ℕ) (r : ℕ) → GrowsBy a c (rs ++ r ∷ []) → GrewBefore a c rs (r ∷ [])
grew_before_last a c rs r g =
    let l = last_tree (length a) g.added (rs ++ r ∷ []) rs r g.trees refl in
    record {
      middle = a ++ l.before;
      firsts = record { added = l.before; is = refl; trees = l.firsts };
      lasts = record {
        added = l.tree;
        is = g.is ∙ ap (λ (x : List Node). a ++ x) l.is ∙ sym (append_assoc a l.before l.tree);
        trees = subst (λ (i : ℕ). Trees i l.tree (r ∷ [])) (sym (length-append a l.before)) l.last;
      };
    }

pub grew_before_two : (a c : List Node) (rs : List ℕ) (q r : ℕ) → GrowsBy a c (rs ++ q ∷ r ∷ []) → GrewBefore a c rs (q ∷ r ∷ [])
grew_before_two a c rs q r g =
    let one = grew_before_last a c (rs ++ q ∷ []) r (subst (λ (l : List ℕ). GrowsBy a c l) (sym (append_assoc rs (q ∷ []) (r ∷ []))) g) in
    let two = grew_before_last a one.middle rs q one.firsts in
    record { middle = two.middle; firsts = two.firsts; lasts = grows_append two.middle one.middle c (q ∷ []) (r ∷ []) two.lasts one.lasts }

pub grew_before_three : (a c : List Node) (rs : List ℕ) (q r s : ℕ) → GrowsBy a c (rs ++ q ∷ r ∷ s ∷ []) → GrewBefore a c rs (q ∷ r ∷ s ∷ [])
grew_before_three a c rs q r s g =
    let one = grew_before_two a c (rs ++ q ∷ []) r s (subst (λ (l : List ℕ). GrowsBy a c l) (sym (append_assoc rs (q ∷ []) (r ∷ s ∷ []))) g) in
    let two = grew_before_last a one.middle rs q one.firsts in
    record { middle = two.middle; firsts = two.firsts; lasts = grows_append two.middle one.middle c (q ∷ []) (r ∷ s ∷ []) two.lasts one.lasts }

-- the last root is the last node
pub last_root : (a c : List Node) (rs : List ℕ) (r : ℕ) → GrowsBy a c (rs ++ r ∷ []) → r + 1 ≡ length c
last_root a c rs r g = let l = last_tree (length a) g.added (rs ++ r ∷ []) rs r g.trees refl in omega (arith, l.root, ap length g.is, length-append a g.added)

-- the trees of a node's children, and then the node
grows_node : (a b : List Node) (n : Node) (root : ℕ) (parts : List ℕ) → root ≡ length b → IsPermutation parts (children n) → GrowsBy a b parts
    → GrowsBy a (b ++ n ∷ []) (root ∷ [])
grows_node a b n root parts at order g = record {
  added = g.added ++ n ∷ [];
  is = ap (λ (l : List Node). l ++ n ∷ []) g.is ∙ append_assoc a g.added (n ∷ []);
  trees = more [] g.added [] parts n empty (subst (λ (i : ℕ). Trees i g.added parts) (omega arith) g.trees) order refl
      (ap (λ (i : ℕ). i ∷ []) (omega (arith, at, ap length g.is, length-append a g.added)));
}

-- a node and its need more
module _ (nodes : List Node) (n : Node) (needs more : List ℕ) (made : AreMade nodes needs) (below : All (λ c. c < length nodes) (children n))
    (pushed : more ≡ needs ++ capped (need_of_node (λ id. slice_index needs id) n) ∷ []) where
  node_made : AreMade (nodes ++ n ∷ []) more
  node_made =
      let tree = children_first_push nodes n made.tree below in
      let long = length_push nodes n in
      let within : length nodes < length (nodes ++ n ∷ []) = omega arith in
      let before : AreNeeds (nodes ++ n ∷ []) (length nodes) needs = record {
        each = made.each.each;
        need = λ id lt. made.each.need id lt ∙ ap (λ t. capped (need t)) (sym (term_before nodes n made.tree id lt));
      } in
      let last : get_or (nodes ++ n ∷ []) (length nodes) n ≡ n = get_or_push nodes n n (length nodes) refl in
      record {
        tree = tree;
        each = subst (λ count. AreNeeds (nodes ++ n ∷ []) count more) (sym long)
            (needs_push (nodes ++ n ∷ []) tree (length nodes) n within needs before (capped (need_of_node (λ id. slice_index needs id) n))
            (ap (λ m. capped (need_of_node (λ id. slice_index needs id) m)) (sym last)) more pushed);
      }

pub adds : (old new : Reader) (n : Node) (root : ℕ) → new.nodes.items ≡ old.nodes.items ++ n ∷ []
    → new.needs.items ≡ old.needs.items ++ capped (need_of_node (λ id. slice_index old.needs.items id) n) ∷ []
    → new.names.items ≡ old.names.items → new.place ≡ old.place → root ≡ length old.nodes.items
    → AreMade old.nodes.items old.needs.items → AllBelow (length old.nodes.items) (children n) → Adds old new n root
adds old new n root e pushed names place at made below =
    let first = all_below (length old.nodes.items) (children n) below in
    let long = length_push old.nodes.items n in
    record {
      names = names;
      place = place;
      made = rw e (node_made old.nodes.items n old.needs.items new.needs.items made first pushed);
      keeps = record { longer = rw e (omega arith); same = λ id h. rw e (term_before old.nodes.items n made.tree id h) };
      last = rw e (omega arith);
      one = rw e long;
      term = rw (e, at) (term_push old.nodes.items n made.tree first);
      grows = λ start parts order g. rw e (grows_node start old.nodes.items n root parts at order g);
    }
