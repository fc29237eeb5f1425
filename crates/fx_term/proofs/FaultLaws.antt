-- A list of nodes has one fault at most.
use Rattle.std.proofs.Common.{◌≡◌, ℕ, suc, ◌^◌, ◌<◌, ◌≤◌, List, [], ◌∷◌, ◌++◌, length, take, refl, sym, subst, inl, inr, ◌∙◌, arith}
use Rattle.std.specs.Prelude.{All, Contains, slice_get}
use Rattle.std.proofs.lemmas.Bool.{cases_lt}
use Rattle.std.proofs.lemmas.List.{take-take}
use Rattle.std.proofs.lemmas.List.Elements.{All-nil, All-cons, All-head, All-tail, All-push}
use Rattle.fx_term.specs.declared.node.Node.{Node}
use Rattle.fx_term.specs.declared.code.CodeFault.{CodeFault}
use Rattle.fx_term.specs.declared.code.CodeFault.TheVariants.{Child, Slot, Kind, Limit}
use Rattle.fx_term.specs.Tree.{all_children, IsForest, IsOneTree}
use Rattle.fx_term.specs.Need.{need}
use Rattle.fx_term.specs.Meaning.{term_of}
use Rattle.fx_term.specs.Walk.{Spot, spots}
use Rattle.fx_term.specs.WellPlaced.{HasRightNumbers, HasRightKinds, IsWithinLimits, IsWellPlaced}
use Rattle.fx_term.specs.Code.{IsFault, node_id, no_node, too_many, stray, orphan, slot, kind, limit}
use Rattle.fx_term.proofs.AllParts.{all_middle}
use Rattle.fx_term.proofs.TreeLaws.{length_positive, forest_take}

-- of two first faults of a kind neither comes before the other
same_stray : (nodes : List Node) (i j : ℕ) → (IsForest (take (suc i) nodes) → ⊥) → IsForest (take j nodes) → j ≤ i
same_stray nodes i j at front = elim (cases_lt i j) [
  | inl lt ↦ absurd (at (subst IsForest (take-take (suc i) j nodes (omega arith)) (forest_take (suc i) (take j nodes) front)))
  | inr le ↦ le
]

same_orphan : (xs : List ℕ) (i j : ℕ) → (Contains xs i → ⊥) → ((k : ℕ) → k < j → Contains xs k) → j ≤ i
same_orphan xs i j at before = elim (cases_lt i j) [ inl lt ↦ absurd (at (before i lt)) | inr le ↦ le ]

-- the first element of which something does not hold
same_first : {X : Type 0} (P : X → Type 0) (before after : List X) (x : X) (sooner later : List X) (y : X) → before ++ x ∷ after ≡ sooner ++ y ∷ later
    → All P before → All P sooner → (P x → ⊥) → (P y → ⊥) → x ≡ y
same_first P [] after x [] later y e h k at also = cc
same_first P [] after x (z ∷ sooner) later y e h k at also = let same : z ≡ x = cc in absurd (at (subst P same (All-head P z sooner k)))
same_first P (z ∷ before) after x [] later y e h k at also = let same : z ≡ y = cc in absurd (also (subst P same (All-head P z before h)))
same_first P (z ∷ before) after x (w ∷ sooner) later y e h k at also =
    let rest : before ++ x ∷ after ≡ sooner ++ y ∷ later = cc in
    same_first P before after x sooner later y rest (All-tail P z before h) (All-tail P w sooner k) at also

child_same : (i j : ℕ) → i ≤ j → j ≤ i → ◌≡◌ {A = CodeFault} (Child (node_id i)) (Child (node_id j))
child_same i j le ge = let same : i ≡ j = omega arith in cc

-- the tests of a whole list, in their order
data Test : Type 0 where
  OfCount : Test
  OfChildren : Test
  OfParents : Test
  OfPlaces : Test

abbrev tests : List Test
tests = OfCount ∷ OfChildren ∷ OfParents ∷ OfPlaces ∷ []

abbrev Passes : ℕ → List Node → Test → Type 0
Passes queues nodes OfCount = (0 < length nodes) × (length nodes < 2 ^ 32)
Passes queues nodes OfChildren = IsForest nodes
Passes queues nodes OfParents = IsOneTree nodes
Passes queues nodes OfPlaces = All (IsWellPlaced queues nodes) (spots nodes)

-- the tests at one spot
data IsSpotFault (queues : ℕ) (nodes : List Node) (s : Spot) : CodeFault → Type 0 where
  of_numbers : (HasRightNumbers queues (length s.kinds) (slice_get nodes s.id) → ⊥) → IsSpotFault queues nodes s (Slot (node_id s.id))
  of_kinds : HasRightNumbers queues (length s.kinds) (slice_get nodes s.id)
      → (HasRightKinds s.kinds (slice_get nodes s.id) → ⊥) → IsSpotFault queues nodes s (Kind (node_id s.id))
  of_limits : HasRightNumbers queues (length s.kinds) (slice_get nodes s.id) → HasRightKinds s.kinds (slice_get nodes s.id)
      → (IsWithinLimits s.turns (need (term_of nodes s.id)) (slice_get nodes s.id) → ⊥) → IsSpotFault queues nodes s (Limit (node_id s.id))

not_placed : (queues : ℕ) (nodes : List Node) (s : Spot) (f : CodeFault) → IsSpotFault queues nodes s f → IsWellPlaced queues nodes s → ⊥
not_placed queues nodes s f (of_numbers at) placed = at placed.numbers
not_placed queues nodes s f (of_kinds right at) placed = at placed.kinds
not_placed queues nodes s f (of_limits right of_kind at) placed = at placed.limits

one_at_spot : (queues : ℕ) (nodes : List Node) (s : Spot) (f g : CodeFault) → IsSpotFault queues nodes s f → IsSpotFault queues nodes s g → f ≡ g
one_at_spot queues nodes s f g (of_numbers at) (of_numbers also) = refl
one_at_spot queues nodes s f g (of_numbers at) (of_kinds right also) = absurd (at right)
one_at_spot queues nodes s f g (of_numbers at) (of_limits right of_kind also) = absurd (at right)
one_at_spot queues nodes s f g (of_kinds right at) (of_numbers also) = absurd (also right)
one_at_spot queues nodes s f g (of_kinds right at) (of_kinds right2 also) = refl
one_at_spot queues nodes s f g (of_kinds right at) (of_limits right2 of_kind also) = absurd (at of_kind)
one_at_spot queues nodes s f g (of_limits right of_kind at) (of_numbers also) = absurd (also right)
one_at_spot queues nodes s f g (of_limits right of_kind at) (of_kinds right2 also) = absurd (also of_kind)
one_at_spot queues nodes s f g (of_limits right of_kind at) (of_limits right2 of_kind2 also) = refl

-- what a test answers where it is the first that fails
data Answers (queues : ℕ) (nodes : List Node) : Test → CodeFault → Type 0 where
  by_count : Answers queues nodes OfCount (Child (node_id 0))
  by_children : (id : ℕ) → IsForest (take id nodes) → (IsForest (take (suc id) nodes) → ⊥) → Answers queues nodes OfChildren (Child (node_id id))
  by_parents : (id : ℕ) → ((k : ℕ) → k < id → Contains (all_children nodes) k) → (Contains (all_children nodes) id → ⊥)
      → Answers queues nodes OfParents (Child (node_id id))
  by_places : (before after : List Spot) (s : Spot) (f : CodeFault) → spots nodes ≡ before ++ s ∷ after → All (IsWellPlaced queues nodes) before
      → IsSpotFault queues nodes s f → Answers queues nodes OfPlaces f

one_answer : (queues : ℕ) (nodes : List Node) (t : Test) (f g : CodeFault) → Answers queues nodes t f → Answers queues nodes t g → f ≡ g
one_answer queues nodes t f g by_count by_count = refl
one_answer queues nodes t f g (by_children i front at) (by_children j also at2) = child_same i j (same_stray nodes j i at2 front) (same_stray nodes i j at also)
one_answer queues nodes t f g (by_parents i front at) (by_parents j also at2) =
    child_same i j (same_orphan (all_children nodes) j i at2 front) (same_orphan (all_children nodes) i j at also)
one_answer queues nodes t f g (by_places before after s f2 split placed at) (by_places sooner later r g2 split2 placed2 at2) =
    let same = same_first (IsWellPlaced queues nodes) before after s sooner later r (sym split ∙ split2) placed placed2 (not_placed queues nodes s f at)
    (not_placed queues nodes r g at2) in
    one_at_spot queues nodes s f g at (subst (λ (q : Spot). IsSpotFault queues nodes q g) (sym same) at2)

-- a fault is the answer of the first test that fails
record IsAnswered (queues : ℕ) (nodes : List Node) (f : CodeFault) : Type 0 where
  test : Test
  before : List Test
  after : List Test
  split : tests ≡ before ++ test ∷ after
  passed : All (Passes queues nodes) before
  fails : Passes queues nodes test → ⊥
  answer : Answers queues nodes test f

module _ (queues : ℕ) (nodes : List Node) where
  passes_count : 0 < length nodes → length nodes < 2 ^ 32 → All (Passes queues nodes) (OfCount ∷ [])
  passes_count some fits = All-cons (Passes queues nodes) OfCount [] (some, fits) (All-nil (Passes queues nodes))

  passes_children : 0 < length nodes → length nodes < 2 ^ 32 → IsForest nodes → All (Passes queues nodes) (OfCount ∷ OfChildren ∷ [])
  passes_children some fits forest = All-push (Passes queues nodes) (OfCount ∷ []) OfChildren (passes_count some fits) forest

  passes_parents : length nodes < 2 ^ 32 → IsOneTree nodes → All (Passes queues nodes) (OfCount ∷ OfChildren ∷ OfParents ∷ [])
  passes_parents fits tree =
      All-push (Passes queues nodes) (OfCount ∷ OfChildren ∷ []) OfParents (passes_children (length_positive nodes tree.some_node) fits tree.forest) tree

  count_answered : (Passes queues nodes OfCount → ⊥) → IsAnswered queues nodes (Child (node_id 0))
  count_answered fails = record {
    test = OfCount;
    before = [];
    after = OfChildren ∷ OfParents ∷ OfPlaces ∷ [];
    split = refl;
    passed = All-nil (Passes queues nodes);
    fails = fails;
    answer = by_count;
  }

  spot_answered : (before after : List Spot) (s : Spot) (f : CodeFault) → length nodes < 2 ^ 32 → IsOneTree nodes → spots nodes ≡ before ++ s ∷ after
      → All (IsWellPlaced queues nodes) before → IsSpotFault queues nodes s f → IsAnswered queues nodes f
  spot_answered before after s f fits tree split placed at = record {
    test = OfPlaces;
    before = OfCount ∷ OfChildren ∷ OfParents ∷ [];
    after = [];
    split = refl;
    passed = passes_parents fits tree;
    fails = λ all. not_placed queues nodes s f at (all_middle (IsWellPlaced queues nodes) before s after (subst (All (IsWellPlaced queues nodes)) split all));
    answer = by_places before after s f split placed at;
  }

  answered : (f : CodeFault) → IsFault queues nodes f → IsAnswered queues nodes f
  answered f (no_node e) = count_answered (λ count. absurd (omega arith))
  answered f (too_many m) = count_answered (λ count. absurd (omega arith))
  answered f (stray {id} fits within front at) = record {
    test = OfChildren;
    before = OfCount ∷ [];
    after = OfParents ∷ OfPlaces ∷ [];
    split = refl;
    passed = passes_count (omega arith) fits;
    fails = λ forest. at (forest_take (suc id) nodes forest);
    answer = by_children id front at;
  }
  answered f (orphan {id} fits forest within before at) = record {
    test = OfParents;
    before = OfCount ∷ OfChildren ∷ [];
    after = OfPlaces ∷ [];
    split = refl;
    passed = passes_children (omega arith) fits forest;
    fails = λ tree. at (tree.each id within);
    answer = by_parents id before at;
  }
  answered f (slot before after s fits tree split placed at) = spot_answered before after s f fits tree split placed (of_numbers at)
  answered f (kind before after s fits tree split placed right at) = spot_answered before after s f fits tree split placed (of_kinds right at)
  answered f (limit before after s fits tree split placed right of_kind at) = spot_answered before after s f fits tree split placed (of_limits right of_kind at)

-- a list of nodes has one fault at most
pub one_fault : (queues : ℕ) (nodes : List Node) (f g : CodeFault) → IsFault queues nodes f → IsFault queues nodes g → f ≡ g
one_fault queues nodes f g first second =
    let a = answered queues nodes f first in
    let b = answered queues nodes g second in
    let same = same_first (Passes queues nodes) a.before a.after a.test b.before b.after b.test (sym a.split ∙ b.split) a.passed b.passed a.fails b.fails in
    one_answer queues nodes a.test f g a.answer (subst (λ (t : Test). Answers queues nodes t g) (sym same) b.answer)
