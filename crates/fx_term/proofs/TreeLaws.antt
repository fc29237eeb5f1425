-- Forests, node by node.
use Rattle.std.proofs.Common.{◌≡◌, ◌≢◌, ℕ, zero, suc, ◌+◌, ◌<◌, nat_eq, Bool, true, false, Some, List, [], ◌∷◌}
use Rattle.std.proofs.Common.{◌++◌, length, get_or, take, drop, add-one, refl, sym, ◌∙◌, ap, subst, arith}
use Rattle.std.specs.Prelude.{slice_get}
use Rattle.std.specs.List.{IsDistinct}
use Rattle.std.proofs.lemmas.List.{append-nil, take-append-drop, take_more, length-take-le}
use Rattle.std.proofs.lemmas.List.Concat.{flat_map-append}
use Rattle.fx_term.specs.declared.node.Node.{Node}
use Rattle.fx_term.specs.Tree.{children, all_children, IsForest}
use Rattle.fx_term.specs.Children.{AreMarks, MayFollow, TakesChildren}
use Rattle.fx_term.proofs.DistinctNumbers.{distinct_front}
use Rattle.fx_term.proofs.NodeTerms.{get_last, children_first_push}

pub length_positive : (nodes : List Node) → nodes ≢ [] → 0 < length nodes
length_positive [] some = absurd (some refl)
length_positive (n ∷ nodes) some = omega arith

pub children_push : (xs : List Node) (n : Node) → all_children (xs ++ n ∷ []) ≡ all_children xs ++ children n
children_push xs n = flat_map-append children xs (n ∷ []) ∙ ap (λ cs. all_children xs ++ cs) (append-nil (children n))

pub forest_none : IsForest []
unfolding IsDistinct
forest_none = record { before = λ id n e. absurd cc; once = tt }

-- a forest with one more node
pub forest_push : (xs : List Node) (n : Node) → IsForest xs → MayFollow (all_children xs) (length xs) (children n) → IsForest (xs ++ n ∷ [])
forest_push xs n forest may = record {
  before = children_first_push xs n forest.before may.before;
  once = subst (IsDistinct nat_eq) (sym (children_push xs n)) may.once;
}

pub forest_last : (xs : List Node) (n : Node) → IsForest (xs ++ n ∷ []) → MayFollow (all_children xs) (length xs) (children n)
forest_last xs n forest = record {
  before = forest.before (length xs) n (get_last xs n);
  once = subst (IsDistinct nat_eq) (children_push xs n) forest.once;
}

get_front : (xs ys : List Node) (i : ℕ) (n : Node) → slice_get xs i ≡ Some n → slice_get (xs ++ ys) i ≡ Some n
get_front [] ys i n e = absurd cc
get_front (x ∷ xs) ys zero n e = e
get_front (x ∷ xs) ys (suc i) n e = get_front xs ys i n e

pub forest_front : (xs ys : List Node) → IsForest (xs ++ ys) → IsForest xs
forest_front xs ys forest = record {
  before = λ id n e. forest.before id n (get_front xs ys id n e);
  once = distinct_front (all_children xs) (all_children ys) (subst (IsDistinct nat_eq) (flat_map-append children xs ys) forest.once);
}

-- the first nodes of a forest are one
pub forest_take : (count : ℕ) (nodes : List Node) → IsForest nodes → IsForest (take count nodes)
forest_take count nodes forest = forest_front (take count nodes) (drop count nodes) (subst IsForest (sym (take-append-drop count nodes)) forest)

-- the first nodes and one more, whose children are marked
module _ (nodes : List Node) (id : ℕ) (d : Node) (old new : List Bool) (within : id < length nodes) (forest : IsForest (take id nodes))
    (marks : AreMarks (all_children (take id nodes)) old) where
  more : take (id + 1) nodes ≡ take id nodes ++ get_or nodes id d ∷ []
  more = take_more nodes id d within

  number : length (take id nodes) ≡ id
  number = length-take-le id nodes (omega arith)

  pub forest_more : TakesChildren id (children (get_or nodes id d)) old true new → IsForest (take (id + 1) nodes)
  forest_more takes = rw more (forest_push (take id nodes) (get_or nodes id d) forest (rw number (takes (all_children (take id nodes)) forest.once marks).0))

  pub marks_more : TakesChildren id (children (get_or nodes id d)) old true new → AreMarks (all_children (take (id + 1) nodes)) new
  marks_more takes =
      subst (λ cs. AreMarks cs new) (sym (ap all_children more ∙ children_push (take id nodes) (get_or nodes id d)))
      (takes (all_children (take id nodes)) forest.once marks).1

  pub stray_more : TakesChildren id (children (get_or nodes id d)) old false new → IsForest (take (suc id) nodes) → ⊥
  stray_more takes grown =
      takes (all_children (take id nodes)) forest.once marks
      (rw number at (forest_last (take id nodes) (get_or nodes id d) (rw more at (subst (λ (k : ℕ). IsForest (take k nodes)) (sym (add-one id)) grown))))
