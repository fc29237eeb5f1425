-- Marking children one after another.
use Rattle.std.proofs.Common.{◌≡◌, ℕ, suc, ◌+◌, Option, Some, None, map, take, drop, ◌<◌, ◌≤◌, Bool, true, false, nat_eq, List, [], ◌∷◌, ◌++◌, length}
use Rattle.std.proofs.Common.{get_or, set, replicate, refl, sym, ◌∙◌, ap, subst, inl, inr, arith, append_assoc, eq-eqb, eqb-true}
use Rattle.std.proofs.Common.{get_or-set_same, get_or-set_other}
use Rattle.std.specs.Prelude.{Contains, ◌||◌}
use Rattle.std.specs.List.{IsDistinct, list_any}
use Rattle.std.specs.Cmp.{nat_eq_equiv}
use Rattle.std.proofs.lemmas.Bool.{cases_eq, or_right, ne_eqb}
use Rattle.std.proofs.lemmas.List.{map-append, take-append-drop, append-nil, length-set, length-replicate, get_or-replicate}
use Rattle.std.proofs.lemmas.List.Elements.{filter_map-append, All-append, All-nil, All-cons, All-head}
use Rattle.std.proofs.lemmas.List.Folds.{list_any-append}
use Rattle.std.proofs.lemmas.Map.Keys.{IsDistinct-push}
use Rattle.std.proofs.lemmas.Map.Views.{Contains-from_any, list_any-from_Contains}
use Rattle.fx_term.specs.Children.{AreMarks, MayFollow, TakesChildren}
use Rattle.fx_term.specs.declared.code.signature.Part.{Part}
use Rattle.fx_term.specs.Signature.{present}
use Rattle.fx_term.proofs.PresentLaws.{present_push, present_skip, present_from}
use Rattle.fx_term.proofs.AllParts.{all_front, all_back}
use Rattle.fx_term.proofs.DistinctNumbers.{distinct_front, distinct_push_absurd}

or_false : (b : Bool) → (b || false) ≡ b
or_false true = refl
or_false false = refl

any_push : (p : ℕ → Bool) (xs : List ℕ) (y : ℕ) → list_any p (xs ++ y ∷ []) ≡ (list_any p xs || p y)
any_push p xs y = list_any-append p xs (y ∷ []) ∙ ap (λ (b : Bool). list_any p xs || b) (or_false (p y))

marks_push : (seen : List ℕ) (old : List Bool) (c : ℕ) → c < length old → AreMarks seen old → AreMarks (seen ++ c ∷ []) (set old c true)
marks_push seen old c within marks k h = elim (cases_eq k c) [
  | inl same ↦
      let at : get_or (set old c true) k false ≡ true = subst (λ (i : ℕ). get_or (set old c true) i false ≡ true) (sym same)
      (get_or-set_same old c true false within) in
      let stands = any_push (nat_eq k) seen c ∙ or_right (list_any (nat_eq k) seen) (nat_eq k c) (eq-eqb k c same) in
      at ∙ sym stands
  | inr other ↦
      let here : k < length old = omega (arith, length-set old c true) in
      let stands = any_push (nat_eq k) seen c ∙ ap (λ (b : Bool). list_any (nat_eq k) seen || b) (ne_eqb k c other) ∙ or_false (list_any (nat_eq k) seen) in
      get_or-set_other old c k true false other ∙ marks k here ∙ sym stands
]

-- what it says of children that follow others
pub first_may_follow : (seen : List ℕ) (parent : ℕ) (front back : List ℕ) → MayFollow seen parent (front ++ back) → MayFollow seen parent front
first_may_follow seen parent front back h = record {
  before = all_front (λ c. c < parent) front back h.before;
  once = distinct_front (seen ++ front) back (rw append_assoc h.once);
}

second_may_follow : (seen : List ℕ) (parent : ℕ) (front back : List ℕ) → MayFollow seen parent (front ++ back) → MayFollow (seen ++ front) parent back
second_may_follow seen parent front back h = record {
  before = all_back (λ c. c < parent) front back h.before;
  once = rw append_assoc h.once;
}

both_may_follow : (seen : List ℕ) (parent : ℕ) (front back : List ℕ) → MayFollow seen parent front → MayFollow (seen ++ front) parent back
    → MayFollow seen parent (front ++ back)
both_may_follow seen parent front back h k = record {
  before = All-append (λ c. c < parent) front back h.before k.before;
  once = rw append_assoc at k.once;
}

pub takes_no_children : (parent : ℕ) (old : List Bool) → TakesChildren parent [] old true old
takes_no_children parent old seen distinct marks =
    let same = append-nil seen in
    (record { before = All-nil (λ c. c < parent); once = subst (IsDistinct nat_eq) (sym same) distinct }, subst (λ xs. AreMarks xs old) (sym same) marks)

pub takes_first_then_second : (parent : ℕ) (front back : List ℕ) (old mid new : List Bool) (answer : Bool) → TakesChildren parent front old true mid
    → TakesChildren parent back mid answer new → TakesChildren parent (front ++ back) old answer new
takes_first_then_second parent front back old mid new true first second seen distinct marks =
    let f = first seen distinct marks in
    let s = second (seen ++ front) f.0.once f.1 in
    (both_may_follow seen parent front back f.0 s.0, subst (λ xs. AreMarks xs new) (append_assoc seen front back) s.1)
takes_first_then_second parent front back old mid new false first second seen distinct marks =
    let f = first seen distinct marks in
    λ h. second (seen ++ front) f.0.once f.1 (second_may_follow seen parent front back h)

pub fails_at_first : (parent : ℕ) (front back : List ℕ) (old mid : List Bool) → TakesChildren parent front old false mid
    → TakesChildren parent (front ++ back) old false mid
fails_at_first parent front back old mid first seen distinct marks h = first seen distinct marks (first_may_follow seen parent front back h)

-- the children of the entries that are there, one after another
abbrev pub ids : List Part → List ℕ
ids ps = map (λ p. p.node.0) ps

module _ (parent : ℕ) (entries : List (Option Part)) (i : ℕ) (d : Option Part) (lt : i < length entries) (old mid : List Bool)
    (taken : TakesChildren parent (ids (present (take i entries))) old true mid) where
  pub takes_child_of_entry : (p : Part) (new : List Bool) → get_or entries i d ≡ Some p → TakesChildren parent (p.node.0 ∷ []) mid true new
      → TakesChildren parent (ids (present (take (i + 1) entries))) old true new
  takes_child_of_entry p new e next =
      subst (λ cs. TakesChildren parent cs old true new)
      (sym (ap ids (present_push entries i d p lt e) ∙ map-append (λ (q : Part). q.node.0) (present (take i entries)) (p ∷ [])))
      (takes_first_then_second parent (ids (present (take i entries))) (p.node.0 ∷ []) old mid new true taken next)

  pub takes_no_entry : get_or entries i d ≡ None → TakesChildren parent (ids (present (take (i + 1) entries))) old true mid
  takes_no_entry e = subst (λ cs. TakesChildren parent cs old true mid) (sym (ap ids (present_skip entries i d lt e))) taken

  pub refuses_child_of_entry : (p : Part) (new : List Bool) → get_or entries i d ≡ Some p → TakesChildren parent (p.node.0 ∷ []) mid false new
      → TakesChildren parent (ids (present entries)) old false new
  refuses_child_of_entry p new e next =
      subst (λ cs. TakesChildren parent cs old false new)
      (sym (ap ids whole ∙ map-append (λ (q : Part). q.node.0) (present (take i entries)) (p ∷ present (drop (suc i) entries))))
      (takes_first_then_second parent (ids (present (take i entries))) (p.node.0 ∷ ids (present (drop (suc i) entries))) old mid new false taken
      (fails_at_first parent (p.node.0 ∷ []) (ids (present (drop (suc i) entries))) mid new next))
    where
      whole : present entries ≡ present (take i entries) ++ p ∷ present (drop (suc i) entries)
      whole = ap present (sym (take-append-drop i entries)) ∙ filter_map-append (λ entry. entry) (take i entries) (drop i entries)
          ∙ ap (λ ps. present (take i entries) ++ ps) (present_from entries i d p lt e)

-- one child: it stands before its parent and is not marked, or it may not follow
pub takes_free_child : (parent child : ℕ) (old : List Bool) → child < parent → parent ≤ length old → get_or old child false ≡ false
    → TakesChildren parent (child ∷ []) old true (set old child true)
takes_free_child parent child old before fits free seen distinct marks =
    let within : child < length old = omega arith in
    let absent : list_any (nat_eq child) seen ≡ false = sym (marks child within) ∙ free in
    let may : MayFollow seen parent (child ∷ []) = record {
      before = All-cons (λ c. c < parent) child [] before (All-nil (λ c. c < parent));
      once = IsDistinct-push nat_eq_equiv seen child distinct absent;
    } in
    (may, marks_push seen old child within marks)

pub refuses_later_child : (parent child : ℕ) (old new : List Bool) → parent ≤ child → TakesChildren parent (child ∷ []) old false new
refuses_later_child parent child old new late seen distinct marks h =
    let before : child < parent = All-head (λ c. c < parent) child [] h.before in absurd (omega arith)

pub refuses_marked_child : (parent child : ℕ) (old new : List Bool) → child < parent → parent ≤ length old → get_or old child false ≡ true
    → TakesChildren parent (child ∷ []) old false new
refuses_marked_child parent child old new before fits marked seen distinct marks h =
    let within : child < length old = omega arith in
    distinct_push_absurd seen child (sym (marks child within) ∙ marked) h.once

-- what a mark says of the list
pub marked_stands : (seen : List ℕ) (marks : List Bool) (k : ℕ) → AreMarks seen marks → k < length marks → get_or marks k false ≡ true → Contains seen k
marked_stands seen marks k agree within marked = Contains-from_any {eq = nat_eq} eqb-true k seen (sym (agree k within) ∙ marked)

pub unmarked_absent : (seen : List ℕ) (marks : List Bool) (k : ℕ) → AreMarks seen marks → k < length marks → get_or marks k false ≡ false → Contains seen k → ⊥
unmarked_absent seen marks k agree within unmarked stands =
    let e = agree k within in
    let any = list_any-from_Contains nat_eq_equiv k seen stands in
    cc

pub marks_none : (n : ℕ) (marks : List Bool) → marks ≡ replicate n false → AreMarks [] marks
marks_none n marks e k h =
    ap (λ (xs : List Bool). get_or xs k false) e ∙ get_or-replicate n k false false (omega (arith, ap length e, length-replicate n false))
