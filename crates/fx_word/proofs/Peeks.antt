-- The steps by which an end is learnt: the state word is loaded, and then the value word and the stamp.
use Rattle.std.proofs.Common.{◌≡◌, ℕ, ◌+◌, ◌*◌, ◌<◌, Bool, false, List, ◌⊎◌, inl, inr}
use Rattle.std.proofs.Common.{⊎_elim, slice_index, Option, Some, None, refl, sym, ◌∙◌, ap, subst, arith}
use Rattle.std.proofs.lemmas.Option.{none-some, same_Some}
use mathlib.Core.Option.{none}
use Rattle.atomic_table.specs.Table.{State, Allows, Me, step}
use Rattle.atomic_table.specs.Table.Act.{keeps}
use Rattle.fx_term.specs.Lists.{Among}
use Rattle.fx_term.specs.Maps.{with_at}
use Rattle.fx_term.specs.declared.outcome.Outcome.{Outcome}
use Rattle.fx_word.specs.declared.entry.Entry.{Entry}
use Rattle.fx_word.specs.declared.seat_view.SeatView.{SeatView}
use Rattle.fx_word.specs.declared.state_word.EndKind.{EndKind}
use Rattle.fx_word.specs.StateWord.{state_word, value_of, end_kind}
use Rattle.fx_word.specs.Entry.{telling, learning, learning_stamp}
use Rattle.fx_word.specs.SeatView.{with_own, Knows, KnowsEndStamp}
use Rattle.fx_word.specs.Stamps.{end_stamp, KeepsStamps}
use Rattle.fx_word.specs.Rule.{Book, outcome_in, Facts, Fits, Kept, Dealt, Ruled}
use Rattle.fx_word.specs.Steps.{tells_then, learns_then, learns_stamp_then}
use Rattle.fx_word.proofs.OwnSteps.{Same, out_same, calm_kept, stamped_kept, own_entry, own_loaded}
use Rattle.fx_word.proofs.Stamps.{SameStamps, calm_stamps, learn_keeps}

pub telling_same : (i : ℕ) (o : Option Outcome) (e : Entry) → Same e (telling i o e)
telling_same i None e = record { id = refl; begin = refl; next = refl; end = refl; parts = refl; ended = λ o h. h }
telling_same i (Some o) e = record { id = refl; begin = refl; next = refl; end = refl; parts = refl; ended = λ o h. h }

telling_fits : (z : Facts) (i : ℕ) (o : Option Outcome) (e : Entry) → z.out i ≡ o → Fits z e → Fits z (telling i o e)
telling_fits z i None e is f = f
telling_fits z i (Some o) e is f = record {
  asks = f.asks;
  sees = f.sees;
  ends = f.ends;
  tells = λ j k q. ⊎_elim (λ y. (o, ap z.out (ap (λ (x : ℕ × EndKind). x.0) y) ∙ is, sym (ap (λ (x : ℕ × EndKind). x.1) y))) (f.tells j k) q;
  learns = f.learns;
  splits = f.splits;
  once = f.once;
  above = f.above;
  range = f.range;
}

telling_kept : (n : ℕ) (words : List ℕ) (book : Book) (bit : ℕ → Bool) (keeper : ℕ → Option ℕ) → Kept n words book bit keeper
    → (e : Entry) → book e.id ≡ Some e → (i : ℕ) (o : Option Outcome) → outcome_in (book i) ≡ o
    → Kept n words (with_at e.id (Some (telling i o e)) book) bit keeper
telling_kept n words book bit keeper kept e at i None is = calm_kept n words book bit keeper kept e e at (telling_same i None e) refl refl refl (λ f. f)
telling_kept n words book bit keeper kept e at i (Some o) is =
    calm_kept n words book bit keeper kept e (telling i (Some o) e) at (telling_same i (Some o) e) refl refl refl
    (telling_fits _ i (Some o) e (out_same n words words book bit bit keeper kept e (telling i (Some o) e) at (telling_same i (Some o) e) (λ j q. q)
    refl i ∙ is))

pub learning_same : (i : ℕ) (o : Outcome) (e : Entry) → Same e (learning i o e)
learning_same i o e = record { id = refl; begin = refl; next = refl; end = refl; parts = refl; ended = λ o h. h }

learning_kept : (n : ℕ) (words : List ℕ) (book : Book) (bit : ℕ → Bool) (keeper : ℕ → Option ℕ) → Kept n words book bit keeper
    → (e : Entry) → book e.id ≡ Some e → (i : ℕ) (o : Outcome) → outcome_in (book i) ≡ Some o
    → Kept n words (with_at e.id (Some (learning i o e)) book) bit keeper
learning_kept n words book bit keeper kept e at i o is = calm_kept n words book bit keeper kept e (learning i o e) at (learning_same i o e) refl refl refl
    (λ f. record {
      asks = f.asks;
      sees = f.sees;
      ends = f.ends;
      tells = f.tells;
      learns = λ j q h. ⊎_elim
          (λ y. ap (λ (k : ℕ). outcome_in (with_at e.id (Some (learning i o e)) book k)) (ap (λ (x : ℕ × Outcome). x.0) y)
          ∙ (out_same n words words book bit bit keeper kept e (learning i o e) at (learning_same i o e) (λ j q. q) refl i ∙ (is
          ∙ ap Some (sym (ap (λ (x : ℕ × Outcome). x.1) y)))))
          (f.learns j q) h;
      splits = f.splits;
      once = f.once;
      above = f.above;
      range = f.range;
    })

-- what a view knows of an end is so
known : (n : ℕ) (words : List ℕ) (book : Book) (bit : ℕ → Bool) (keeper : ℕ → Option ℕ) → Kept n words book bit keeper
    → (seat : ℕ → ℕ) (p : ℕ) (v : SeatView) → Dealt book seat p v → (i : ℕ) (o : Outcome) → Knows v i o → outcome_in (book i) ≡ Some o
known n words book bit keeper kept seat p v d i o h = let at = (d.here h.0 h.1).0 in ⊎_elim
    (λ t. (kept.fits h.0.id h.0 at).learns i o t)
    (λ t. ap (λ (k : ℕ). outcome_in (book k)) (sym t.0) ∙ (ap outcome_in at ∙ t.1)) h.2

-- where an end is known, the word has its value
end_value : (n : ℕ) (words : List ℕ) (book : Book) (bit : ℕ → Bool) (keeper : ℕ → Option ℕ) → Kept n words book bit keeper
    → (i : ℕ) (o : Outcome) (m : Option Entry) → book i ≡ m → outcome_in m ≡ Some o → slice_index words (4 * i + 1) ≡ value_of o
end_value n words book bit keeper kept i o None at h = absurd (none-some o h)
end_value n words book bit keeper kept i o (Some d) at h = kept.value i d (value_of o) at ((kept.fits i d at).ends o h)

telling_knows : (i : ℕ) (o : Option Outcome) (e : Entry) (j : ℕ) (k : Outcome) → Among (j, k) e.learnt ⊎ ((e.id ≡ j) × (e.ended ≡ Some k))
    → Among (j, k) (telling i o e).learnt ⊎ (((telling i o e).id ≡ j) × ((telling i o e).ended ≡ Some k))
telling_knows i None e j k h = h
telling_knows i (Some o) e j k h = h

-- what it knew it knows after it was told of another end
pub still_knows : (v w : SeatView) (i : ℕ) (o : Option Outcome) (k : Outcome) → w ≡ with_own v (telling i o v.own) → Knows v i k → Knows w i k
still_knows v w i o k same h = subst (λ (u : SeatView). Knows u i k) (sym same) (⊎_elim
    (λ y. (telling i o v.own, inl refl, telling_knows i o v.own i k (subst (λ (e : Entry). Among (i, k) e.learnt ⊎ ((e.id ≡ i) × (e.ended ≡ Some k))) y h.2)))
    (λ y. (h.0, inr y, h.2)) h.1)

-- a stamp that a view knows an end by is that of the word
known_stamp : (words : List ℕ) (book : Book) (bit : ℕ → Bool) → KeepsStamps words book bit → (seat : ℕ → ℕ) (p : ℕ) (v : SeatView) → Dealt book seat p v
    → (i t : ℕ) → KnowsEndStamp v i t → end_stamp words i ≡ t
known_stamp words book bit k seat p v d i t h = let at = (d.here h.0 h.1).0 in ⊎_elim
    (λ l. let o = k.learns h.0.id i t h.0 at l in k.stored i t o.0 o.2 o.4)
    (λ u. k.stored i t h.0 (ap book (sym u.1) ∙ at) u.3) h.2

-- who has ended has an entry
ended_entry : (book : Book) (i : ℕ) (o : Outcome) (m : Option Entry) → book i ≡ m → outcome_in m ≡ Some o
    → (d : Entry) × (book i ≡ Some d) × (d.ended ≡ Some o)
ended_entry book i o None at h = absurd (none-some o h)
ended_entry book i o (Some d) at h = (d, at, h)

telling_stamps : (i : ℕ) (o : Option Outcome) (e : Entry) → SameStamps e (telling i o e)
telling_stamps i None e = record { asked_with = refl; loaded = refl; stored_stamp = refl; learnt_stamps = refl }
telling_stamps i (Some o) e = record { asked_with = refl; loaded = refl; stored_stamp = refl; learnt_stamps = refl }

telling_ended : (i : ℕ) (o : Option Outcome) (e : Entry) → (telling i o e).ended ≡ e.ended
telling_ended i None e = refl
telling_ended i (Some o) e = refl

-- a stamp that it knew an end by it still knows, where its own entry says the same of stamps and ends
with_own_stamp : (v : SeatView) (e : Entry) (i t : ℕ) → SameStamps v.own e → e.id ≡ v.own.id → e.ended ≡ v.own.ended
    → KnowsEndStamp v i t → KnowsEndStamp (with_own v e) i t
with_own_stamp v e i t same id ended h = ⊎_elim
    (λ y. (
      e,
      inl refl,
      ⊎_elim (λ l. inl (subst (Among (i, t)) (sym same.learnt_stamps) l))
          (λ u. inr (u.0, id ∙ u.1, ended ∙ u.2, same.stored_stamp ∙ u.3))
          (subst (λ (d : Entry). Among (i, t) d.learnt_stamps ⊎ ((o : Outcome) × (d.id ≡ i) × (d.ended ≡ Some o) × (d.stored_stamp ≡ Some t))) y h.2),
    ))
    (λ y. (h.0, inr y, h.2)) h.1

pub still_knows_stamp : (v u w : SeatView) (i : ℕ) (o : Option Outcome) (q : Outcome) (t : ℕ) → u ≡ with_own v (telling i o v.own)
    → w ≡ with_own u (learning i q u.own) → KnowsEndStamp v i t → KnowsEndStamp w i t
still_knows_stamp v u w i o q t told learnt h =
    subst (λ (x : SeatView). KnowsEndStamp x i t) (sym learnt)
    (with_own_stamp u (learning i q u.own) i t record { asked_with = refl; loaded = refl; stored_stamp = refl; learnt_stamps = refl } refl refl
    (subst (λ (x : SeatView). KnowsEndStamp x i t) (sym told)
    (with_own_stamp v (telling i o v.own) i t (telling_stamps i o v.own) (telling_same i o v.own).id (telling_ended i o v.own) h)))

module _ (n slots seat : ℕ) (me : Me (Unit {0}) SeatView) (fresh : me.0.spent ≡ false) where
  abbrev Holds : State (Unit {0}) SeatView → Type 0
  Holds s = Ruled n s.words s.views

  pub tells : (i : ℕ) → i < n → Allows Holds slots seat me (4 * i) (λ k. k) (tells_then (step slots (4 * i) 0 0 none) me)
  tells i lt s h no_slots here small =
      let e = me.0.own in
      let was = h.5 seat me.0 here fresh in
      let at = own_entry n s.words s.views h seat me.0 fresh here in
      let o = outcome_in (h.0 i) in (
        with_own me.0 (telling i o e),
        keeps,
        tt,
        own_loaded n s.words s.views h seat me.0 fresh here (4 * i) (telling i o e) (telling_same i o e).id
            (telling_kept n s.words h.0 h.1 h.2 h.4 e at i o refl)
            (calm_stamps s.words h.1 h.0 h.7 e at s.words (telling i o e) (λ j. refl) (λ j. refl) (telling_stamps i o e) (telling_ended i o e)),
        (λ j y. let same : i ≡ j = omega (arith, y) in
            subst (λ (k : ℕ). (b : Bool) × (u : Option Outcome) × (slice_index s.words (4 * i) ≡ state_word b u)
            × (with_own me.0 (telling i o e) ≡ with_own me.0 (telling k u e)) × (me.1 ≡ me.1) × ((q : Outcome) → Knows me.0 k q → u ≡ Some q)) same
            (h.1 i, o, h.4.state i lt, refl, refl, known n s.words h.0 h.1 h.2 h.4 h.3 seat me.0 was i)),
      )

  pub learns : (i : ℕ) (k : EndKind) → Among (i, k) me.0.own.told
      → Allows Holds slots seat me (4 * i + 1) (λ x. x) (learns_then (step slots (4 * i + 1) 0 0 none) me)
  learns i k told s h no_slots here small =
      let e = me.0.own in
      let was = h.5 seat me.0 here fresh in
      let at = own_entry n s.words s.views h seat me.0 fresh here in
      let t = (h.4.fits e.id e at).tells i k told in
      let o = t.0 in (
        with_own me.0 (learning i o e),
        keeps,
        tt,
        own_loaded n s.words s.views h seat me.0 fresh here (4 * i + 1) (learning i o e) refl
            (learning_kept n s.words h.0 h.1 h.2 h.4 e at i o t.1)
            (calm_stamps s.words h.1 h.0 h.7 e at s.words (learning i o e) (λ j. refl) (λ j. refl)
            record { asked_with = refl; loaded = refl; stored_stamp = refl; learnt_stamps = refl } refl),
        (λ j m y told'. let same : i ≡ j = omega (arith, y) in
            subst (λ (x : ℕ). (u : Outcome) × (end_kind u ≡ m) × (value_of u ≡ slice_index s.words (4 * i + 1))
            × (with_own me.0 (learning i o e) ≡ with_own me.0 (learning x u e)) × (me.1 ≡ me.1) × ((q : Outcome) → Knows me.0 x q → u ≡ q)) same
            (let t' = (h.4.fits e.id e at).tells i m (subst (λ (x : ℕ). Among (x, m) e.told) (sym same) told') in (
              o,
              ap end_kind (same_Some o t'.0 (sym t.1 ∙ t'.1)) ∙ t'.2,
              sym (end_value n s.words h.0 h.1 h.2 h.4 i o (h.0 i) refl t.1),
              refl,
              refl,
              (λ q w. same_Some o q (sym t.1 ∙ known n s.words h.0 h.1 h.2 h.4 h.3 seat me.0 was i q w)),
            ))),
      )

  pub learns_stamp : (i : ℕ) (k : EndKind) → Among (i, k) me.0.own.told
      → Allows Holds slots seat me (4 * i + 3) (λ x. x) (learns_stamp_then (step slots (4 * i + 3) 0 0 none) me)
  learns_stamp i k told s h no_slots here small =
      let e = me.0.own in
      let was = h.5 seat me.0 here fresh in
      let at = own_entry n s.words s.views h seat me.0 fresh here in
      let t = (h.4.fits e.id e at).tells i k told in
      let d = ended_entry h.0 i t.0 (h.0 i) refl t.1 in
      let x = end_stamp s.words i in (
        with_own me.0 (learning_stamp i x e),
        keeps,
        tt,
        own_loaded n s.words s.views h seat me.0 fresh here (4 * i + 3) (learning_stamp i x e) refl
            (stamped_kept n s.words h.0 h.1 h.2 h.4 e at _ _ _ _)
            (learn_keeps s.words h.1 h.0 h.7 e at i d.0 t.0 d.1 d.2),
        (λ j y. let same : i ≡ j = omega (arith, y) in
            subst (λ (k : ℕ). (with_own me.0 (learning_stamp i x e) ≡ with_own me.0 (learning_stamp k x e)) × (me.1 ≡ me.1)
            × ((q : ℕ) → KnowsEndStamp me.0 k q → x ≡ q)) same
            (refl, refl, known_stamp s.words h.0 h.1 h.7 h.3 seat me.0 was i)),
      )
