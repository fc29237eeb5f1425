-- Whole trees: each of their nodes is one node's child, or a root.
use Rattle.std.proofs.Common.{
  ◌≡◌,
  ℕ,
  zero,
  suc,
  ◌+◌,
  ◌<◌,
  false,
  List,
  [],
  ◌∷◌,
  ◌++◌,
  length,
  Contains,
  IsPermutation,
  nat_eq,
  refl,
  sym,
  ◌∙◌,
  ap,
  subst,
  inl,
  inr,
  arith,
  append_assoc,
}
use Rattle.std.specs.List.{AllByRecursion, IsDistinct, range_with_len}
use Rattle.std.proofs.lemmas.Bool.Decides.{nat_tests}
use Rattle.std.proofs.lemmas.Cmp.{nat_eq_equiv}
use Rattle.std.proofs.lemmas.Grind.{flat_map-append}
use Rattle.std.proofs.lemmas.List.{append-nil, length-append}
use Rattle.std.proofs.lemmas.List.Elements.{Contains-append_cases}
use Rattle.std.proofs.lemmas.List.FromFn.{length-range_with_len, get_or-range_with_len}
use Rattle.std.proofs.lemmas.List.Sorted.{
  IsPermutation-refl,
  IsPermutation-sym,
  IsPermutation-trans,
  IsPermutation-append,
  IsPermutation-append_left,
  IsPermutation-append_right,
  IsPermutation-append_comm,
  Contains-permutation,
}
use Rattle.std.proofs.lemmas.Map.Keys.{IsDistinct-IsPermutation}
use Rattle.fx_term.specs.declared.node.Node.{Node}
use Rattle.fx_term.specs.Tree.{children, all_children, ChildrenComeFirst, IsOneTree}
use Rattle.fx_text.specs.Trees.{Trees, empty, more, GrowsBy}

-- ---- numbers from a first one on

range_append : (a m n : ℕ) → range_with_len a (m + n) ≡ range_with_len a m ++ range_with_len (a + m) n
range_append a zero n = let e : 0 + n ≡ n = omega arith in let f : a + 0 ≡ a = omega arith in rw (e, f) refl
range_append a (suc m) n =
    let e : suc m + n ≡ suc (m + n) = omega arith in
    let f : a + suc m ≡ (a + 1) + m = omega arith in
    rw (e, f) (ap (λ (l : List ℕ). a ∷ l) (range_append (a + 1) m n))

range_apart : (a b n : ℕ) → a < b → AllByRecursion (λ y. nat_eq a y ≡ false) (range_with_len b n)
range_apart a b zero h = tt
range_apart a b (suc n) h = (grind (arith, nat_tests), range_apart a (b + 1) n (omega arith))

range_distinct : (a n : ℕ) → IsDistinct nat_eq (range_with_len a n)
unfolding IsDistinct
range_distinct a zero = tt
range_distinct a (suc n) = (range_apart a (a + 1) n (omega arith), range_distinct (a + 1) n)

range_has : (n i : ℕ) → i < n → Contains (range_with_len 0 n) i
range_has n i h = (i, omega (arith, length-range_with_len 0 n), get_or-range_with_len 0 n i i h ∙ omega arith)

-- ---- the front of a list

all_front : (P : ℕ → Type 0) (xs ys : List ℕ) → AllByRecursion P (xs ++ ys) → AllByRecursion P xs
all_front P [] ys h = tt
all_front P (x ∷ xs) ys h = (h.0, all_front P xs ys h.1)

distinct_front : (xs ys : List ℕ) → IsDistinct nat_eq (xs ++ ys) → IsDistinct nat_eq xs
unfolding IsDistinct
distinct_front [] ys h = tt
distinct_front (x ∷ xs) ys h = (all_front (λ y. nat_eq x y ≡ false) xs ys h.0, distinct_front xs ys h.1)

-- ---- trees

exchange : (a b c d : List ℕ) → IsPermutation ((a ++ b) ++ (c ++ d)) ((a ++ c) ++ (b ++ d))
exchange a b c d =
    let e : (a ++ b) ++ (c ++ d) ≡ a ++ ((b ++ c) ++ d) = append_assoc a b (c ++ d) ∙ ap (λ (l : List ℕ). a ++ l) (sym (append_assoc b c d)) in
    let f : a ++ ((c ++ b) ++ d) ≡ (a ++ c) ++ (b ++ d) = ap (λ (l : List ℕ). a ++ l) (append_assoc c b d) ∙ sym (append_assoc a c (b ++ d)) in
    let p = IsPermutation-append_right a ((b ++ c) ++ d) ((c ++ b) ++ d) (IsPermutation-append_left d (b ++ c) (c ++ b) (IsPermutation-append_comm b c)) in
    subst (λ (l : List ℕ). IsPermutation l ((a ++ c) ++ (b ++ d))) (sym e) (subst (λ (l : List ℕ). IsPermutation (a ++ ((b ++ c) ++ d)) l) f p)

children_over : (before below : List Node) (n : Node) → all_children (before ++ (below ++ n ∷ [])) ≡ all_children before ++ (all_children below ++ children n)
children_over before below n =
    flat_map-append children before (below ++ n ∷ [])
    ∙ ap (λ (l : List ℕ). all_children before ++ l) (flat_map-append children below (n ∷ [])
    ∙ ap (λ (l : List ℕ). all_children below ++ l) (append-nil (children n)))

numbers_over : (from : ℕ) (before below : List Node) (n : Node) → range_with_len from (length (before ++ (below ++ n ∷ [])))
    ≡ range_with_len from (length before) ++ (range_with_len (from + length before) (length below) ++ (from + length before + length below) ∷ [])
numbers_over from before below n =
    ap (λ (k : ℕ). range_with_len from k) (length-append before (below ++ n ∷ []))
    ∙ range_append from (length before) (length (below ++ n ∷ []))
    ∙ ap (λ (l : List ℕ). range_with_len from (length before) ++ l) (ap (λ (k : ℕ). range_with_len (from + length before) k) (length-append below (n ∷ []))
    ∙ range_append (from + length before) (length below) 1)

-- the children and the roots of whole trees are their nodes, each once
pub numbered : (from : ℕ) (ns : List Node) (rs : List ℕ) → Trees from ns rs → IsPermutation (all_children ns ++ rs) (range_with_len from (length ns))
numbered from _ _ empty = IsPermutation-refl []
numbered from ns rs (more before below others parts n d1 d2 order whole roots) =
    let root = (from + length before + length below) ∷ [] in
    let children_of_n = IsPermutation-trans _ _ _ (IsPermutation-append_right (all_children below) (children n) parts (IsPermutation-sym _ _ order))
    (numbered (from + length before) below parts d2) in
    let one = exchange (all_children before) (all_children below ++ children n) others root in
    let two = IsPermutation-append (all_children before ++ others) (range_with_len from (length before))
    ((all_children below ++ children n) ++ root) (range_with_len (from + length before) (length below) ++ root)
    (numbered from before others d1)
    (IsPermutation-append_left root (all_children below ++ children n) (range_with_len (from + length before) (length below)) children_of_n) in
    let both = IsPermutation-trans _ _ _ one two in
    let left : all_children ns ++ rs ≡ (all_children before ++ (all_children below ++ children n)) ++ (others ++ root) =
    ap (λ (l : List Node). all_children l ++ rs) whole ∙ ap (λ (l : List ℕ). all_children (before ++ (below ++ n ∷ [])) ++ l) roots
    ∙ ap (λ (l : List ℕ). l ++ (others ++ root)) (children_over before below n) in
    let right : range_with_len from (length ns) ≡ range_with_len from (length before) ++ (range_with_len (from + length before) (length below) ++ root) =
    ap (λ (l : List Node). range_with_len from (length l)) whole ∙ numbers_over from before below n in
    subst (λ (l : List ℕ). IsPermutation l (range_with_len from (length ns))) (sym left)
    (subst (λ (l : List ℕ). IsPermutation ((all_children before ++ (all_children below ++ children n)) ++ (others ++ root)) l) (sym right) both)

-- one whole tree, whose root is its last node
one_tree : (ns : List Node) (root : ℕ) → Trees 0 ns (root ∷ []) → ChildrenComeFirst ns → root + 1 ≡ length ns → IsOneTree ns
one_tree ns root d first last =
    let p = IsPermutation-sym _ _ (numbered 0 ns (root ∷ []) d) in
    record {
      some_node = λ e. absurd (let h = ap length e in omega arith);
      forest = record {
        before = first;
        once = distinct_front (all_children ns) (root ∷ [])
            (IsDistinct-IsPermutation nat_eq nat_eq_equiv.symm _ _ p (range_distinct 0 (length ns)));
      };
      each = λ id h. elim (Contains-append_cases (all_children ns) (root ∷ []) id (Contains-permutation _ _ id p (range_has (length ns) id (omega arith)))) [
        | inl c ↦ c
        | inr c ↦ absurd (is_root id root c (omega arith))
      ];
    }
  where
    is_root : (id r : ℕ) → Contains (r ∷ []) id → id < r → ⊥
    is_root id r (zero, lt, e) h = omega arith
    is_root id r (suc k, lt, e) h = omega arith

-- what a list without nodes grows to by one tree
pub grown_tree : (start ns : List Node) (root : ℕ) → start ≡ [] → GrowsBy start ns (root ∷ []) → ChildrenComeFirst ns → root + 1 ≡ length ns → IsOneTree ns
grown_tree start ns root none g first last = one_tree ns root (subst (λ (l : List Node). Trees 0 l (root ∷ [])) (sym all)
    (subst (λ (i : ℕ). Trees i g.added (root ∷ [])) (ap length none) g.trees)) first last
  where
    all : ns ≡ g.added
    all = g.is ∙ ap (λ (l : List Node). l ++ g.added) none
