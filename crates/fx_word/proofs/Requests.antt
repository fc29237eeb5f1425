-- The steps on requests: a stamp is raised and a bit is set, and the own ones are looked at.
use Rattle.std.proofs.Common.{◌≡◌, ℕ, ◌+◌, ◌*◌, ◌<◌, Bool, true, false, List, ◌∷◌, inl, inr}
use Rattle.std.proofs.Common.{◌≤◌, max, ⊎_elim, length, slice_index, bit_or, Option, Some, refl, sym, ◌∙◌, ap, subst, arith}
use Rattle.std.proofs.lemmas.List.{length-set, get_or-set_same, get_or-set_other}
use mathlib.Core.Logic.{dite}
use mathlib.Core.Option.{none}
use native.Mathlib.Decide.{ℕ_discrete}
use lib.ListN.{set}
use Rattle.atomic_table.specs.Table.{State, Allows, Me, step}
use Rattle.atomic_table.specs.Table.Act.{keeps}
use Rattle.fx_term.specs.Maps.{with_at}
use Rattle.fx_term.proofs.MapLaws.{at_that, at_other}
use Rattle.fx_term.specs.Lists.{Among}
use Rattle.fx_word.specs.declared.entry.Entry.{Entry}
use Rattle.fx_word.specs.declared.seat_view.SeatView.{SeatView}
use Rattle.fx_word.specs.StateWord.{state_word}
use Rattle.fx_word.specs.Entry.{raising, setting, asking, seeing, loading}
use Rattle.fx_word.specs.SeatView.{with_own, IsAsked, KnowsRequestStamp}
use Rattle.fx_word.specs.Stamps.{request_stamp, KeepsStamps}
use Rattle.fx_word.specs.Rule.{Book, outcome_in, Facts, facts, Fits, Kept, Dealt, Ruled}
use Rattle.fx_word.specs.Steps.{raises_then, asks_then, outside_asks_then, looks_then, loads_stamp_then}
use Rattle.fx_word.proofs.OwnSteps.{Fits-grows, Same, own_at, own_grows, own_kept, out_same, value_same, asked_same, calm_kept, stamped_kept, stamped_set}
use Rattle.fx_word.proofs.OwnSteps.{own_entry, own_ruled, own_loaded}
use Rattle.fx_word.proofs.Stamps.{SameStamps, calm_stamps, raise_keeps, set_keeps, outside_keeps, load_keeps}
use Rattle.fx_word.proofs.StateWords.{or_one}

-- it set the request bit of i, and has asked with these stamps
abbrev setting_with : ℕ → List (ℕ × ℕ) → Entry → Entry
setting_with i asked e = record e { asked = i ∷ e.asked; asked_with = asked }

setting_same : (i : ℕ) (asked : List (ℕ × ℕ)) (e : Entry) → Same e (setting_with i asked e)
setting_same i asked e = record { id = refl; begin = refl; next = refl; end = refl; parts = refl; ended = λ o h. h }

put_true : (bit : ℕ → Bool) (i j : ℕ) → bit j ≡ true → with_at i true bit j ≡ true
put_true bit i j h = dite (ℕ_discrete j i) (at_that i true bit j) (λ m. at_other i true bit j m ∙ h)

sets_kept : (n i : ℕ) (asked : List (ℕ × ℕ)) (words : List ℕ) (book : Book) (bit : ℕ → Bool) (keeper : ℕ → Option ℕ) → Kept n words book bit keeper
    → (e : Entry) → book e.id ≡ Some e → i < n
    → Kept n (set words (4 * i) (bit_or (slice_index words (4 * i)) 1)) (with_at e.id (Some (setting_with i asked e)) book) (with_at i true bit) keeper
sets_kept n i asked words book bit keeper kept e at lt =
    let e' : Entry = setting_with i asked e in
    let bit' : ℕ → Bool = with_at i true bit in
    let words' : List ℕ = set words (4 * i) (bit_or (slice_index words (4 * i)) 1) in
    let same = setting_same i asked e in
    let fit = kept.fits e.id e at in
    let bits : (j : ℕ) → bit j ≡ true → bit' j ≡ true = put_true bit i in
    let grows = own_grows n words words' book bit bit' keeper kept e e' at same bits in
    let old : Fits (facts (with_at e.id (Some e') book) bit' keeper) e = Fits-grows _ _ e grows (λ k q. q) fit in
    let long : 4 * i < length words = subst (λ (k : ℕ). 4 * i < k) (sym kept.long) (omega arith) in
    own_kept n words words' book bit bit' keeper kept e e' at same bits
    (length-set words (4 * i) _)
    record {
      asks =
          λ j h. ⊎_elim (λ y. at_that i true bit j y) (old.asks j) h;
      sees =
          old.sees;
      ends = old.ends;
      tells = old.tells;
      learns = old.learns;
      splits = old.splits;
      once = old.once;
      above = old.above;
      range = old.range;
    }
    (λ j lt'. dite (ℕ_discrete j i)
    (λ y. ap (λ (k : ℕ). slice_index words' (4 * k)) y
    ∙ (get_or-set_same words (4 * i) _ 0 long
    ∙ (ap (λ (k : ℕ). bit_or k 1) (kept.state i lt)
    ∙ (or_one (bit i) (outcome_in (book i))
    ∙ (ap (λ (k : ℕ). state_word true (outcome_in (book k))) (sym y)
    ∙ (ap (λ (b : Bool). state_word b (outcome_in (book j))) (sym (at_that i true bit j y)) ∙ ends j))))))
    (λ m. get_or-set_other words (4 * i) (4 * j) _ 0 (λ z. m (omega (arith, z)))
    ∙ (kept.state j lt' ∙ (ap (λ (b : Bool). state_word b (outcome_in (book j))) (sym (at_other i true bit j m)) ∙ ends j))))
    (λ j d x h st. get_or-set_other words (4 * i) (4 * j + 1) _ 0 (λ z. omega (arith, z))
    ∙ value_same n words words' book bit bit' keeper kept e e' at same bits refl j d x h st)
    (λ j h. dite (ℕ_discrete j i)
    (λ y. (e.id, e', at_that e.id (Some e') book e.id refl, inl y))
    (λ m. asked_same n words words' book bit bit' keeper kept e e' at same bits (λ k q. inr q) j (sym (at_other i true bit j m) ∙ h)))
  where
    e'' : Entry
    e'' = setting_with i asked e

    ends : (j : ℕ) → state_word (with_at i true bit j) (outcome_in (book j)) ≡ state_word (with_at i true bit j) (outcome_in (with_at e.id (Some e'') book j))
    ends j =
        ap (state_word (with_at i true bit j)) (sym (out_same n words words book bit (with_at i true bit) keeper kept e e'' at (setting_same i asked e)
        (put_true bit i) refl j))

seeing_same : (b : Bool) (e : Entry) → Same e (seeing b e)
seeing_same false e = record { id = refl; begin = refl; next = refl; end = refl; parts = refl; ended = λ o h. h }
seeing_same true e = record { id = refl; begin = refl; next = refl; end = refl; parts = refl; ended = λ o h. h }

seeing_stamps : (b : Bool) (e : Entry) → SameStamps e (seeing b e)
seeing_stamps false e = record { asked_with = refl; loaded = refl; stored_stamp = refl; learnt_stamps = refl }
seeing_stamps true e = record { asked_with = refl; loaded = refl; stored_stamp = refl; learnt_stamps = refl }

seeing_ended : (b : Bool) (e : Entry) → (seeing b e).ended ≡ e.ended
seeing_ended false e = refl
seeing_ended true e = refl

seeing_fits : (z : Facts) (b : Bool) (e : Entry) → z.bit e.id ≡ b → Fits z e → Fits z (seeing b e)
seeing_fits z false e is f = f
seeing_fits z true e is f =
    record {
      asks = f.asks;
      sees = λ _. is;
      ends = f.ends;
      tells = f.tells;
      learns = f.learns;
      splits = f.splits;
      once = f.once;
      above = f.above;
      range = f.range;
    }

seeing_kept : (n : ℕ) (words : List ℕ) (book : Book) (bit : ℕ → Bool) (keeper : ℕ → Option ℕ) → Kept n words book bit keeper
    → (e : Entry) → book e.id ≡ Some e → (b : Bool) → bit e.id ≡ b → Kept n words (with_at e.id (Some (seeing b e)) book) bit keeper
seeing_kept n words book bit keeper kept e at false is =
    calm_kept n words book bit keeper kept e (seeing false e) at (seeing_same false e) refl refl refl (seeing_fits _ false e is)
seeing_kept n words book bit keeper kept e at true is =
    calm_kept n words book bit keeper kept e (seeing true e) at (seeing_same true e) refl refl refl (seeing_fits _ true e is)

-- a seat that knows of a request finds it
is_asked : (n : ℕ) (words : List ℕ) (book : Book) (bit : ℕ → Bool) (keeper : ℕ → Option ℕ) → Kept n words book bit keeper
    → (seat : ℕ → ℕ) (p : ℕ) (v : SeatView) → Dealt book seat p v → IsAsked v → bit v.own.id ≡ true
is_asked n words book bit keeper kept seat p v d h = ⊎_elim
    (λ t. (kept.fits v.own.id v.own (own_at book seat p v d)).sees t)
    (λ t. (kept.fits t.0.id t.0 (d.here t.0 t.1).0).asks v.own.id t.2) h

-- it knows of no request with a higher stamp than the word has
highest_known : (words : List ℕ) (book : Book) (bit : ℕ → Bool) → KeepsStamps words book bit → (seat : ℕ → ℕ) (p : ℕ) (v : SeatView) → Dealt book seat p v
    → (t : ℕ) → KnowsRequestStamp v t → t ≤ request_stamp words v.own.id
highest_known words book bit k seat p v d t h = k.highest v.own.id t (⊎_elim
    (λ l. k.loads v.own.id t v.own (own_at book seat p v d) l)
    (λ a. (a.0.id, a.0, (d.here a.0 a.1).0, a.2)) h)

-- a stamp that it knew of it still knows of after it has seen the request
pub seeing_knows : (v : SeatView) (t : ℕ) → KnowsRequestStamp v t → KnowsRequestStamp (with_own v (seeing true v.own)) t
seeing_knows v t h = ⊎_elim inl
    (λ a. inr (⊎_elim
    (λ y. (seeing true v.own, inl refl, subst (λ (e : Entry). Among (v.own.id, t) e.asked_with) y a.2))
    (λ y. (a.0, inr y, a.2)) a.1)) h

module _ (n slots seat : ℕ) (me : Me (Unit {0}) SeatView) (fresh : me.0.spent ≡ false) where
  abbrev Holds : State (Unit {0}) SeatView → Type 0
  Holds s = Ruled n s.words s.views

  pub raises : (i t : ℕ) → i < n
      → Allows Holds slots seat me (4 * i + 2) (λ k. max k t) (raises_then (step slots (4 * i + 2) t 0 none) me)
  raises i t lt s h no_slots here small =
      let e = me.0.own in
      let at = own_entry n s.words s.views h seat me.0 fresh here in
      let long : 4 * i + 2 < length s.words = subst (λ (k : ℕ). 4 * i + 2 < k) (sym h.4.long) (omega (arith, lt)) in (
        with_own me.0 (raising i t e),
        keeps,
        tt,
        own_ruled n s.words s.views h seat me.0 fresh here _ (raising i t e) h.1 refl
            (stamped_set n s.words h.0 h.1 h.2 h.4 e at _ _ _ _ (4 * i + 2) _ (λ j. (λ z. omega (arith, z), λ z. omega (arith, z))))
            (raise_keeps s.words h.1 h.0 h.7 e at i t long),
        (λ j y. (ap (λ (k : ℕ). with_own me.0 (raising k t e)) (omega (arith, y)), refl)),
      )

  pub asks : (i t : ℕ) → i < n → Among (i, t) me.0.own.asked_with → 0 < t
      → Allows Holds slots seat me (4 * i) (λ k. bit_or k 1) (asks_then (step slots (4 * i) 1 0 none) me)
  asks i t lt asked above s h no_slots here small =
      let e = me.0.own in
      let at = own_entry n s.words s.views h seat me.0 fresh here in (
        with_own me.0 (setting i e),
        keeps,
        tt,
        own_ruled n s.words s.views h seat me.0 fresh here _ (setting i e) (with_at i true h.1) refl
            (sets_kept n i e.asked_with s.words h.0 h.1 h.2 h.4 e at lt)
            (set_keeps s.words h.1 h.0 h.7 e at i _ t asked above),
        (λ j y. (ap (λ (k : ℕ). with_own me.0 (setting k e)) (omega (arith, y)), refl)),
      )

  pub outside_asks : (i : ℕ) → i < n → Allows Holds slots seat me (4 * i) (λ k. bit_or k 1) (outside_asks_then (step slots (4 * i) 1 0 none) me)
  outside_asks i lt s h no_slots here small =
      let e = me.0.own in
      let at = own_entry n s.words s.views h seat me.0 fresh here in (
        with_own me.0 (asking i 0 e),
        keeps,
        tt,
        own_ruled n s.words s.views h seat me.0 fresh here _ (asking i 0 e) (with_at i true h.1) refl
            (sets_kept n i ((i, 0) ∷ e.asked_with) s.words h.0 h.1 h.2 h.4 e at lt)
            (outside_keeps s.words h.1 h.0 h.7 e at i _),
        (λ j y. (ap (λ (k : ℕ). with_own me.0 (asking k 0 e)) (omega (arith, y)), refl)),
      )

  pub looks : Allows Holds slots seat me (4 * me.0.own.id) (λ k. k) (looks_then (step slots (4 * me.0.own.id) 0 0 none) me)
  looks s h no_slots here small =
      let e = me.0.own in
      let at = own_entry n s.words s.views h seat me.0 fresh here in
      let b = h.1 e.id in (
        with_own me.0 (seeing b e),
        keeps,
        tt,
        own_loaded n s.words s.views h seat me.0 fresh here (4 * e.id) (seeing b e) (seeing_same b e).id
            (seeing_kept n s.words h.0 h.1 h.2 h.4 e at b refl)
            (calm_stamps s.words h.1 h.0 h.7 e at s.words (seeing b e) (λ i. refl) (λ i. refl) (seeing_stamps b e) (seeing_ended b e)),
        (λ y. (
          b,
          outcome_in (h.0 e.id),
          h.4.state e.id (h.4.named e.id e at).1,
          refl,
          refl,
          is_asked n s.words h.0 h.1 h.2 h.4 h.3 seat me.0 (h.5 seat me.0 here fresh),
        )),
      )

  pub loads_stamp : me.0.own.seen ≡ true
      → Allows Holds slots seat me (4 * me.0.own.id + 2) (λ k. k) (loads_stamp_then (step slots (4 * me.0.own.id + 2) 0 0 none) me)
  loads_stamp seen s h no_slots here small =
      let e = me.0.own in
      let at = own_entry n s.words s.views h seat me.0 fresh here in
      let t = request_stamp s.words e.id in (
        with_own me.0 (loading t e),
        keeps,
        tt,
        own_loaded n s.words s.views h seat me.0 fresh here (4 * e.id + 2) (loading t e) refl
            (stamped_kept n s.words h.0 h.1 h.2 h.4 e at _ _ _ _)
            (load_keeps s.words h.1 h.0 h.7 e at ((h.4.fits e.id e at).sees seen)),
        (λ y. (refl, refl, highest_known s.words h.0 h.1 h.7 h.3 seat me.0 (h.5 seat me.0 here fresh))),
      )
