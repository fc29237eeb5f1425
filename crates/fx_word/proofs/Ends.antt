-- The steps by which a fiber ends: the number that it ends with is stored, and the stamp of its end, and its done bits are set.
use Rattle.std.proofs.Common.{◌≡◌, ℕ, ◌+◌, ◌*◌, ◌<◌, Bool, true, false, List, ⊎_elim, length}
use Rattle.std.proofs.Common.{slice_index, bit_or, Option, Some, None, refl, sym, ◌∙◌, ap, subst, arith}
use Rattle.std.proofs.lemmas.List.{length-set, get_or-set_same, get_or-set_other}
use Rattle.std.proofs.lemmas.Option.{none-some, same_Some}
use mathlib.Core.Logic.{dite}
use mathlib.Core.Option.{none}
use native.Mathlib.Decide.{ℕ_discrete}
use lib.ListN.{set}
use Rattle.atomic_table.specs.Table.{State, Allows, Me, step}
use Rattle.atomic_table.specs.Table.Act.{keeps}
use Rattle.fx_term.specs.Maps.{with_at}
use Rattle.fx_term.proofs.MapLaws.{at_that, at_other}
use Rattle.fx_term.specs.declared.outcome.Outcome.{Outcome}
use Rattle.fx_word.specs.declared.entry.Entry.{Entry}
use Rattle.fx_word.specs.declared.seat_view.SeatView.{SeatView}
use Rattle.fx_word.specs.StateWord.{state_word, done_bits, value_of}
use Rattle.fx_word.specs.Entry.{storing, storing_stamp, ending}
use Rattle.fx_word.specs.SeatView.{with_own}
use Rattle.fx_word.specs.Rule.{Book, outcome_in, Kept, Ruled}
use Rattle.fx_word.specs.Steps.{stores_then, stores_stamp_then, ends_then}
use Rattle.fx_word.proofs.OwnSteps.{Fits-grows, Same, entry_cases, own_grows, own_kept, out_same, value_same, asked_same, stamped_set, own_entry, own_ruled}
use Rattle.fx_word.proofs.Stamps.{calm_stamps, store_keeps, end_keeps}
use Rattle.fx_word.proofs.StateWords.{or_done, outcome_same}

storing_same : (x : ℕ) (e : Entry) → Same e (storing x e)
storing_same x e = record { id = refl; begin = refl; next = refl; end = refl; parts = refl; ended = λ o h. h }

stores_kept : (n x : ℕ) (words : List ℕ) (book : Book) (bit : ℕ → Bool) (keeper : ℕ → Option ℕ) → Kept n words book bit keeper
    → (e : Entry) → book e.id ≡ Some e → e.ended ≡ None
    → Kept n (set words (4 * e.id + 1) x) (with_at e.id (Some (storing x e)) book) bit keeper
stores_kept n x words book bit keeper kept e at running =
    let e' : Entry = storing x e in
    let words' : List ℕ = set words (4 * e.id + 1) x in
    let same = storing_same x e in
    let bits : (j : ℕ) → bit j ≡ true → bit j ≡ true = λ j q. q in
    let old = Fits-grows _ _ e (own_grows n words words' book bit bit keeper kept e e' at same bits) (λ k q. q) (kept.fits e.id e at) in
    let lt = (kept.named e.id e at).1 in
    let long : 4 * e.id + 1 < length words = subst (λ (k : ℕ). 4 * e.id + 1 < k) (sym kept.long) (omega (arith, lt)) in
    own_kept n words words' book bit bit keeper kept e e' at same bits
    (length-set words (4 * e.id + 1) x)
    record {
      asks = old.asks;
      sees = old.sees;
      ends = λ o q. absurd (none-some o (sym running
          ∙ q));
      tells = old.tells;
      learns = old.learns;
      splits = old.splits;
      once = old.once;
      above = old.above;
      range = old.range;
    }
    (λ j lt'. get_or-set_other words (4 * e.id + 1) (4 * j) x 0 (λ z. omega (arith, z))
    ∙ (kept.state j lt' ∙ ap (state_word (bit j)) (sym (out_same n words words' book bit bit keeper kept e e' at same bits refl j))))
    (λ j d y h st. ⊎_elim
    (λ t. ap (λ (k : ℕ). slice_index words' (4 * k + 1)) t.0 ∙ (get_or-set_same words (4 * e.id + 1) x 0 long
    ∙ same_Some x y (ap (λ (u : Entry). u.stored) t.1 ∙ st)))
    (λ t. get_or-set_other words (4 * e.id + 1) (4 * j + 1) x 0 (λ z. t.0 (omega (arith, z))) ∙ kept.value j d y t.1 st)
    (entry_cases n words words' book bit bit keeper kept e e' at same bits j d h))
    (asked_same n words words' book bit bit keeper kept e e' at same bits (λ i q. q))

ending_same : (o : Outcome) (e : Entry) → e.ended ≡ None → Same e (ending o e)
ending_same o e running = record { id = refl; begin = refl; next = refl; end = refl; parts = refl; ended = λ q h. absurd (none-some q (sym running ∙ h)) }

ends_kept : (n : ℕ) (o : Outcome) (words : List ℕ) (book : Book) (bit : ℕ → Bool) (keeper : ℕ → Option ℕ) → Kept n words book bit keeper
    → (e : Entry) → book e.id ≡ Some e → e.ended ≡ None → e.stored ≡ Some (value_of o)
    → Kept n (set words (4 * e.id) (bit_or (slice_index words (4 * e.id)) (done_bits (Some o)))) (with_at e.id (Some (ending o e)) book) bit keeper
ends_kept n o words book bit keeper kept e at running stored =
    let e' : Entry = ending o e in
    let words' : List ℕ = set words (4 * e.id) (bit_or (slice_index words (4 * e.id)) (done_bits (Some o))) in
    let same = ending_same o e running in
    let bits : (j : ℕ) → bit j ≡ true → bit j ≡ true = λ j q. q in
    let old = Fits-grows _ _ e (own_grows n words words' book bit bit keeper kept e e' at same bits) (λ k q. q) (kept.fits e.id e at) in
    let lt = (kept.named e.id e at).1 in
    let long : 4 * e.id < length words = subst (λ (k : ℕ). 4 * e.id < k) (sym kept.long) (omega (arith, lt)) in
    own_kept n words words' book bit bit keeper kept e e' at same bits
    (length-set words (4 * e.id) _)
    record {
      asks = old.asks;
      sees = old.sees;
      ends = λ q h. stored
          ∙ ap (λ (u : Outcome). Some (value_of u)) (same_Some o q h);
      tells = old.tells;
      learns = old.learns;
      splits = old.splits;
      once = old.once;
      above = old.above;
      range = old.range;
    }
    (λ j lt'. dite (ℕ_discrete j e.id)
    (λ y. ap (λ (k : ℕ). slice_index words' (4 * k)) y
    ∙ (get_or-set_same words (4 * e.id) _ 0 long
    ∙ (ap (λ (k : ℕ). bit_or k (done_bits (Some o))) (kept.state e.id lt ∙ ap (state_word (bit e.id)) (ap outcome_in at ∙ running))
    ∙ (or_done (bit e.id) o ∙ (ap (λ (k : ℕ). state_word (bit k) (Some o)) (sym y)
    ∙ ap (state_word (bit j)) (sym (ap outcome_in (at_that e.id (Some e') book j y))))))))
    (λ m. get_or-set_other words (4 * e.id) (4 * j) _ 0 (λ z. m (omega (arith, z)))
    ∙ (kept.state j lt' ∙ ap (state_word (bit j)) (sym (ap outcome_in (at_other e.id (Some e') book j m))))))
    (λ j d x h st. get_or-set_other words (4 * e.id) (4 * j + 1) _ 0 (λ z. omega (arith, z))
    ∙ value_same n words words' book bit bit keeper kept e e' at same bits refl j d x h st)
    (asked_same n words words' book bit bit keeper kept e e' at same bits (λ i q. q))

module _ (n slots seat : ℕ) (me : Me (Unit {0}) SeatView) (fresh : me.0.spent ≡ false) where
  abbrev Holds : State (Unit {0}) SeatView → Type 0
  Holds s = Ruled n s.words s.views

  pub stores : (x : ℕ) → me.0.own.ended ≡ None
      → Allows Holds slots seat me (4 * me.0.own.id + 1) (λ _. x) (λ _. stores_then (step slots (4 * me.0.own.id + 1) x 0 none) me x)
  stores x running s h no_slots here small =
      let e = me.0.own in
      let at = own_entry n s.words s.views h seat me.0 fresh here in (
        with_own me.0 (storing x e),
        keeps,
        tt,
        own_ruled n s.words s.views h seat me.0 fresh here _ (storing x e) h.1 refl
            (stores_kept n x s.words h.0 h.1 h.2 h.4 e at running)
            (calm_stamps s.words h.1 h.0 h.7 e at _ (storing x e)
            (λ i. get_or-set_other s.words (4 * e.id + 1) (4 * i + 2) x 0 (λ z. omega (arith, z)))
            (λ i. get_or-set_other s.words (4 * e.id + 1) (4 * i + 3) x 0 (λ z. omega (arith, z)))
            record { asked_with = refl; loaded = refl; stored_stamp = refl; learnt_stamps = refl } refl),
        (λ y. (refl, refl)),
      )

  pub stores_stamp : (t : ℕ) → me.0.own.ended ≡ None
      → Allows Holds slots seat me (4 * me.0.own.id + 3) (λ _. t) (λ _. stores_stamp_then (step slots (4 * me.0.own.id + 3) t 0 none) me t)
  stores_stamp t running s h no_slots here small =
      let e = me.0.own in
      let at = own_entry n s.words s.views h seat me.0 fresh here in
      let lt = (h.4.named e.id e at).1 in
      let long : 4 * e.id + 3 < length s.words = subst (λ (k : ℕ). 4 * e.id + 3 < k) (sym h.4.long) (omega (arith, lt)) in (
        with_own me.0 (storing_stamp t e),
        keeps,
        tt,
        own_ruled n s.words s.views h seat me.0 fresh here _ (storing_stamp t e) h.1 refl
            (stamped_set n s.words h.0 h.1 h.2 h.4 e at _ _ _ _ (4 * e.id + 3) t (λ i. (λ z. omega (arith, z), λ z. omega (arith, z))))
            (store_keeps s.words h.1 h.0 h.7 e at t running long),
        (λ y. (refl, refl)),
      )

  pub ends : (o : Outcome) (t : ℕ) → me.0.own.ended ≡ None → me.0.own.stored ≡ Some (value_of o) → me.0.own.stored_stamp ≡ Some t
      → Allows Holds slots seat me (4 * me.0.own.id) (λ k. bit_or k (done_bits (Some o)))
      (ends_then (step slots (4 * me.0.own.id) (done_bits (Some o)) 0 none) me)
  ends o t running stored stamped s h no_slots here small =
      let e = me.0.own in
      let at = own_entry n s.words s.views h seat me.0 fresh here in (
        with_own me.0 (ending o e),
        keeps,
        tt,
        own_ruled n s.words s.views h seat me.0 fresh here _ (ending o e) h.1 refl
            (ends_kept n o s.words h.0 h.1 h.2 h.4 e at running stored)
            (end_keeps s.words h.1 h.0 h.7 e at e.id _ o t stamped),
        (λ q st k. (ap (λ (u : Outcome). with_own me.0 (ending u e)) (outcome_same o q (omega (arith, k)) (same_Some _ _ (sym stored ∙ st))), refl)),
      )
