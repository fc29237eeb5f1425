-- Places that rise along a list.
use Rattle.std.proofs.Common.{◌≡◌, ℕ, suc, ◌<◌, ◌≤◌, Bool, true, false, Option, Some, None, List, length, sym, ◌∙◌, ap, subst, arith, inl, inr}
use Rattle.std.proofs.Common.{true≢false}
use Rattle.std.specs.Prelude.{slice_get, if◌then◌else◌, ◌==◌}
use Rattle.std.proofs.lemmas.Bool.{cases_eq, cases_lt, eq-eqb, ne_eqb, ltb-true, lt-ltb}
use Rattle.std.proofs.lemmas.Option.{none-some, same_Some, slice_get_within}
use Rattle.fx_order.specs.declared.occurrence.Occurrence.{Occurrence}
use Rattle.fx_counts.specs.KeepsOrder.{PlacesRise, is_next}

-- of the first n events places rise, and of each fiber that has some among them the last one's place is known
pub record HasRisen (list : List Occurrence) (latest : ℕ → Option ℕ) (n : ℕ) : Type 0 where
  pub rise : (i j : ℕ) (x y : Occurrence) → i < j → j < n → slice_get list i ≡ Some x → slice_get list j ≡ Some y → x.fiber ≡ y.fiber → x.place < y.place
  pub known : (i : ℕ) (x : Occurrence) → i < n → slice_get list i ≡ Some x → (p : ℕ) × (latest x.fiber ≡ Some p) × (x.place ≤ p)
  pub is_one : (f p : ℕ) → latest f ≡ Some p
      → (i : ℕ) × (x : Occurrence) × (i < n) × (slice_get list i ≡ Some x) × (x.fiber ≡ f) × (x.place ≡ p)

pub none_risen : (list : List Occurrence) (latest : ℕ → Option ℕ) → ((f : ℕ) → latest f ≡ None) → HasRisen list latest 0
none_risen list latest none = record {
  rise = λ i j x y lt within. absurd (omega arith);
  known = λ i x within. absurd (omega arith);
  is_one = λ f p is. absurd (none-some p (sym (none f) ∙ is));
}

pub all_risen : (list : List Occurrence) (latest : ℕ → Option ℕ) (n : ℕ) → HasRisen list latest n → length list ≤ n → PlacesRise list
all_risen list latest n risen all i j x y lt at_i at_j same =
    let within = slice_get_within list j y at_j in risen.rise i j x y lt (omega arith) at_i at_j same

next_is : (place : ℕ) (o : Option ℕ) (p : ℕ) → is_next place o ≡ true → o ≡ Some p → p < place
next_is place None p is e = absurd (none-some p e)
next_is place (Some b) p is e = let same = same_Some b p e in let lt = ltb-true b place is in omega arith

module _ (list : List Occurrence) (latest : ℕ → Option ℕ) (n : ℕ) (x : Occurrence) (before : Option ℕ) (risen : HasRisen list latest n)
    (at : slice_get list n ≡ Some x) (is : before ≡ latest x.fiber) where
  -- the next one comes after those of its fiber
  pub comes_last : is_next x.place before ≡ true → (i : ℕ) (y : Occurrence) → i < n → slice_get list i ≡ Some y → y.fiber ≡ x.fiber
      → y.place < x.place
  comes_last next i y lt at_i same =
      let known = risen.known i y lt at_i in
      let below = next_is x.place before known.0 next (is ∙ ap latest (sym same) ∙ known.1) in
      let le = known.2 in
      omega arith

  -- or it does not, and then places do not rise
  pub falls : is_next x.place before ≡ false → PlacesRise list → ⊥
  falls past rises = by_before before is past
    where
      by_before : (o : Option ℕ) → o ≡ latest x.fiber → is_next x.place o ≡ false → ⊥
      by_before None e past = true≢false past
      by_before (Some p) e past =
          let one = risen.is_one x.fiber p (sym e) in
          let lt = rises one.0 n one.1 x one.2 one.3 at one.4 in
          let place : one.1.place ≡ p = one.5 in
          true≢false (sym (lt-ltb p x.place (omega arith)) ∙ past)

  module _ (next : is_next x.place before ≡ true) (after : ℕ → Option ℕ)
      (set : (f : ℕ) → after f ≡ (if x.fiber == f then Some x.place else latest f)) where
    here : (f : ℕ) → x.fiber ≡ f → after f ≡ Some x.place
    here f same = set f ∙ ap (λ (b : Bool). if b then Some x.place else latest f) (eq-eqb x.fiber f same)

    other : (f : ℕ) → (x.fiber ≡ f → ⊥) → after f ≡ latest f
    other f apart = set f ∙ ap (λ (b : Bool). if b then Some x.place else latest f) (ne_eqb x.fiber f apart)

    rise : (i j : ℕ) (y z : Occurrence) → i < j → j < suc n → slice_get list i ≡ Some y → slice_get list j ≡ Some z → y.fiber ≡ z.fiber
        → y.place < z.place
    rise i j y z lt within at_i at_j same = elim (cases_lt j n) [
      | inl earlier ↦ risen.rise i j y z lt earlier at_i at_j same
      | inr last ↦
          (let place : j ≡ n = omega arith in
          let one : x ≡ z = same_Some x z (sym at ∙ ap (slice_get list) (sym place) ∙ at_j) in
          let below = comes_last next i y (omega arith) at_i (same ∙ ap (λ (w : Occurrence). w.fiber) (sym one)) in
          let own : x.place ≡ z.place = ap (λ (w : Occurrence). w.place) one in
          omega arith)
    ]

    known : (i : ℕ) (y : Occurrence) → i < suc n → slice_get list i ≡ Some y → (p : ℕ) × (after y.fiber ≡ Some p) × (y.place ≤ p)
    known i y within at_i = elim (cases_lt i n) [
      | inl earlier ↦ elim (cases_eq x.fiber y.fiber) [
        | inl same ↦ (x.place, here y.fiber same, let lt = comes_last next i y earlier at_i (sym same) in omega arith)
        | inr apart ↦ (let was = risen.known i y earlier at_i in (was.0, other y.fiber apart ∙ was.1, was.2))
      ]
      | inr last ↦
          (let place : i ≡ n = omega arith in
          let one : x ≡ y = same_Some x y (sym at ∙ ap (slice_get list) (sym place) ∙ at_i) in
          let own : x.place ≡ y.place = ap (λ (w : Occurrence). w.place) one in
          (x.place, here y.fiber (ap (λ (w : Occurrence). w.fiber) one), omega arith))
    ]

    is_one : (f p : ℕ) → after f ≡ Some p
        → (i : ℕ) × (y : Occurrence) × (i < suc n) × (slice_get list i ≡ Some y) × (y.fiber ≡ f) × (y.place ≡ p)
    is_one f p e = elim (cases_eq x.fiber f) [
      | inl same ↦ (n, x, omega arith, at, same, same_Some x.place p (sym (here f same) ∙ e))
      | inr apart ↦
          (let was = risen.is_one f p (sym (other f apart) ∙ e) in
          let lt = was.2 in
          (was.0, was.1, omega arith, was.3, was.4, was.5))
    ]

    pub one_more : (m : ℕ) → m ≡ suc n → HasRisen list after m
    one_more m is_m = subst (HasRisen list after) (sym is_m) (record { rise = rise; known = known; is_one = is_one })
