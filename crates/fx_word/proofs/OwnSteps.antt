-- What a step on the own entry keeps.
use Rattle.std.proofs.Common.{◌≡◌, ◌≢◌, ℕ, ◌+◌, ◌*◌, ◌<◌, Bool, true, false, List, ◌⊎◌, inl, inr, ⊎_elim}
use Rattle.std.proofs.Common.{length, slice_index, Option, Some, refl, sym, ◌∙◌, ap, subst, arith, zero, suc, [], ◌∷◌}
use Rattle.std.proofs.lemmas.List.{length-set, set-get_or, get_or-set_other}
use Rattle.std.proofs.lemmas.Option.{none-some, same_Some}
use mathlib.Core.Logic.{dite}
use mathlib.Core.Option.{some, some-injective, some-ne-none}
use native.Mathlib.Decide.{ℕ_discrete}
use lib.ListN.{get_elem?, set}
use Rattle.atomic_table.proofs.Lists.{at_set, set_here, set_else}
use Rattle.fx_term.specs.Lists.{Among}
use Rattle.fx_term.specs.Maps.{with_at}
use Rattle.fx_term.proofs.MapLaws.{at_that, at_other, at_cases}
use Rattle.fx_term.specs.declared.begin.Begin.{Begin}
use Rattle.fx_term.specs.declared.outcome.Outcome.{Outcome}
use Rattle.fx_word.specs.declared.entry.Entry.{Entry}
use Rattle.fx_word.specs.declared.seat_view.SeatView.{SeatView}
use Rattle.fx_word.specs.StateWord.{state_word}
use Rattle.fx_word.specs.SeatView.{In, with_own}
use Rattle.fx_word.specs.Stamps.{KeepsStamps}
use Rattle.fx_word.specs.Rule.{Book, outcome_in, begin_in, Facts, facts, Fits, Root, Kept, Dealt, Held, Ruled}

-- z' knows all that z does
pub record Grows (z z' : Facts) : Type 0 where
  pub bits : (i : ℕ) → z.bit i ≡ true → z'.bit i ≡ true
  pub outs : (i : ℕ) (o : Outcome) → z.out i ≡ Some o → z'.out i ≡ Some o
  pub begins : (i : ℕ) (b : ℕ × Begin) → z.begun i ≡ Some b → z'.begun i ≡ Some b

pub Fits-grows : (z z' : Facts) (e : Entry) → Grows z z' → ((i : ℕ) → z.keeper i ≡ Some e.id → z'.keeper i ≡ Some e.id) → Fits z e → Fits z' e
Fits-grows z z' e g k f = record {
  asks = λ i h. g.bits i (f.asks i h);
  sees = λ h. g.bits e.id (f.sees h);
  ends = f.ends;
  tells = λ i k h. let t = f.tells i k h in (t.0, g.outs i t.0 t.1, t.2);
  learns = λ i o h. g.outs i o (f.learns i o h);
  splits = λ i b h. g.begins i (e.id, b) (f.splits i b h);
  once = f.once;
  above = f.above;
  range = λ i a b. k i (f.range i a b);
}

-- the entry e' says the same of where its fiber comes from
pub record Same (e e' : Entry) : Type 0 where
  pub id : e'.id ≡ e.id
  pub begin : e'.begin ≡ e.begin
  pub next : e'.next ≡ e.next
  pub end : e'.end ≡ e.end
  pub parts : e'.parts ≡ e.parts
  pub ended : (o : Outcome) → e.ended ≡ Some o → e'.ended ≡ Some o

-- the own entry as the book has it
pub own_at : (book : Book) (seat : ℕ → ℕ) (p : ℕ) (v : SeatView) → Dealt book seat p v → book v.own.id ≡ Some v.own
own_at book seat p v d = (d.here v.own (inl refl)).0

pub Root-grows : (book book' : Book) (i : ℕ) (m : Option (ℕ × Begin))
    → ((f : ℕ) (d : Entry) → book f ≡ Some d → (d' : Entry) × (book' f ≡ Some d') × ((x : ℕ × Begin) → Among x d.parts → Among x d'.parts))
    → Root book i m → Root book' i m
Root-grows book book' i m g r = ⊎_elim inl (λ t. let w = g t.0 t.1 t.4 in inr (t.0, w.0, t.2, t.3, w.1, w.2 (i, t.2) t.5, t.6)) r

module _ (n : ℕ) (words words' : List ℕ) (book : Book) (bit bit' : ℕ → Bool) (keeper : ℕ → Option ℕ) (kept : Kept n words book bit keeper)
    (e e' : Entry) (at : book e.id ≡ Some e) (same : Same e e') (bits : (i : ℕ) → bit i ≡ true → bit' i ≡ true) where
  -- an entry of the book after the step was there before, or is the changed one
  pub entry_cases : (i : ℕ) (d : Entry) → with_at e.id (Some e') book i ≡ Some d → ((i ≡ e.id) × (e' ≡ d)) ⊎ ((i ≢ e.id) × (book i ≡ Some d))
  entry_cases i d h = ⊎_elim (λ t. inl (t.0, same_Some e' d t.1)) inr (at_cases e.id (Some e') book i (Some d) h)

  pub own_grows : Grows (facts book bit keeper) (facts (with_at e.id (Some e') book) bit' keeper)
  own_grows = record {
    bits = bits;
    outs = λ i o h. dite (ℕ_discrete i e.id)
        (λ y. ap outcome_in (at_that e.id (Some e') book i y) ∙ same.ended o (sym (ap outcome_in (ap book y ∙ at)) ∙ h))
        (λ m. ap outcome_in (at_other e.id (Some e') book i m) ∙ h);
    begins = λ i b h. dite (ℕ_discrete i e.id)
        (λ y. ap begin_in (at_that e.id (Some e') book i y) ∙ (same.begin ∙ (sym (ap begin_in (ap book y ∙ at)) ∙ h)))
        (λ m. ap begin_in (at_other e.id (Some e') book i m) ∙ h);
  }

  -- the rule after a step on the own entry
  pub own_kept : length words' ≡ length words
      → Fits (facts (with_at e.id (Some e') book) bit' keeper) e'
      → ((i : ℕ) → i < n → slice_index words' (4 * i) ≡ state_word (bit' i) (outcome_in (with_at e.id (Some e') book i)))
      → ((i : ℕ) (d : Entry) (x : ℕ) → with_at e.id (Some e') book i ≡ Some d → d.stored ≡ Some x → slice_index words' (4 * i + 1) ≡ x)
      → ((i : ℕ) → bit' i ≡ true → (f : ℕ) × (d : Entry) × (with_at e.id (Some e') book f ≡ Some d) × Among i d.asked)
      → Kept n words' (with_at e.id (Some e') book) bit' keeper
  own_kept long fit state value asked = record {
    long = long ∙ kept.long;
    named = λ i d h. ⊎_elim (λ t. (sym (ap (λ (u : Entry). u.id) t.1) ∙ (same.id ∙ sym t.0), subst (λ (k : ℕ). k < n) (sym t.0) (kept.named e.id e at).1))
        (λ t. kept.named i d t.1) (entry_cases i d h);
    fits = λ i d h. ⊎_elim (λ t. subst (λ (u : Entry). Fits (facts (with_at e.id (Some e') book) bit' keeper) u) t.1 fit)
        (λ t. Fits-grows _ _ d own_grows (λ k q. q) (kept.fits i d t.1)) (entry_cases i d h);
    state = state;
    value = value;
    asked = asked;
    free = λ i f h. let t = kept.free i f h in
        (at_other e.id (Some e') book i (λ y. none-some e (sym t.0 ∙ (ap book y ∙ at))) ∙ t.0, t.1);
    rooted = λ i d h. ⊎_elim
        (λ t. subst (λ (m : Option (ℕ × Begin)). Root (with_at e.id (Some e') book) i m) (ap (λ (u : Entry). u.begin) t.1)
        (subst (λ (m : Option (ℕ × Begin)). Root (with_at e.id (Some e') book) i m) (sym same.begin)
        (Root-grows book (with_at e.id (Some e') book) i e.begin parts_grow (kept.rooted i e (ap book t.0 ∙ at)))))
        (λ t. Root-grows book (with_at e.id (Some e') book) i d.begin parts_grow (kept.rooted i d t.1)) (entry_cases i d h);
  }
    where
      parts_grow : (f : ℕ) (d : Entry) → book f ≡ Some d → (d' : Entry) × (with_at e.id (Some e') book f ≡ Some d') × ((x : ℕ × Begin) → Among x d.parts
          → Among x d'.parts)
      parts_grow f d h = dite (ℕ_discrete f e.id)
          (λ y. (
            e',
            at_that e.id (Some e') book f y,
            (λ x k. subst (λ (l : List (ℕ × Begin)). Among x l) (ap (λ (u : Entry). u.parts) (same_Some d e (sym h ∙ (ap book y ∙ at))) ∙ sym same.parts) k),
          ))
          (λ m. (d, at_other e.id (Some e') book f m ∙ h, λ x k. k))

  -- where the end stays as it was, all ends do
  pub out_same : e'.ended ≡ e.ended → (i : ℕ) → outcome_in (with_at e.id (Some e') book i) ≡ outcome_in (book i)
  out_same k i = dite (ℕ_discrete i e.id)
      (λ y. ap outcome_in (at_that e.id (Some e') book i y) ∙ (k ∙ sym (ap outcome_in (ap book y ∙ at))))
      (λ m. ap outcome_in (at_other e.id (Some e') book i m))

  pub value_same : e'.stored ≡ e.stored → (i : ℕ) (d : Entry) (x : ℕ) → with_at e.id (Some e') book i ≡ Some d → d.stored ≡ Some x
      → slice_index words (4 * i + 1) ≡ x
  value_same k i d x h st = ⊎_elim
      (λ t. kept.value i e x (ap book t.0 ∙ at) (sym k ∙ (ap (λ (u : Entry). u.stored) t.1 ∙ st)))
      (λ t. kept.value i d x t.1 st) (entry_cases i d h)

  -- who asked for it has still asked
  pub asked_same : ((i : ℕ) → Among i e.asked → Among i e'.asked)
      → (i : ℕ) → bit i ≡ true → (f : ℕ) × (d : Entry) × (with_at e.id (Some e') book f ≡ Some d) × Among i d.asked
  asked_same grow i h = let t = kept.asked i h in dite (ℕ_discrete t.0 e.id)
      (λ y. (t.0, e', at_that e.id (Some e') book t.0 y, grow i (subst (λ (u : Entry). Among i u.asked) (same_Some t.1 e (sym t.2 ∙ (ap book y ∙ at))) t.3)))
      (λ m. (t.0, t.1, at_other e.id (Some e') book t.0 m ∙ t.2, t.3))

-- a step that leaves the words as they are, and of the own entry what it asked, stored and ended with
pub calm_kept : (n : ℕ) (words : List ℕ) (book : Book) (bit : ℕ → Bool) (keeper : ℕ → Option ℕ) → Kept n words book bit keeper
    → (e e' : Entry) → book e.id ≡ Some e → Same e e' → e'.asked ≡ e.asked → e'.stored ≡ e.stored → e'.ended ≡ e.ended
    → (Fits (facts (with_at e.id (Some e') book) bit keeper) e → Fits (facts (with_at e.id (Some e') book) bit keeper) e')
    → Kept n words (with_at e.id (Some e') book) bit keeper
calm_kept n words book bit keeper kept e e' at same asked stored ended fit =
    let bits : (j : ℕ) → bit j ≡ true → bit j ≡ true = λ j q. q in
    own_kept n words words book bit bit keeper kept e e' at same bits refl
    (fit (Fits-grows _ _ e (own_grows n words words book bit bit keeper kept e e' at same bits) (λ k q. q) (kept.fits e.id e at)))
    (λ j lt. kept.state j lt ∙ ap (state_word (bit j)) (sym (out_same n words words book bit bit keeper kept e e' at same bits ended j)))
    (value_same n words words book bit bit keeper kept e e' at same bits stored)
    (asked_same n words words book bit bit keeper kept e e' at same bits (λ i q. subst (λ (l : List ℕ). Among i l) (sym asked) q))

-- the entry with other stamps
abbrev with_stamps : List (ℕ × ℕ) → List ℕ → Option ℕ → List (ℕ × ℕ) → Entry → Entry
with_stamps asked loaded stored learnt e = record e { asked_with = asked; loaded = loaded; stored_stamp = stored; learnt_stamps = learnt }

-- a step that changes stamps alone, of the own entry and in a word
module _ (n : ℕ) (words : List ℕ) (book : Book) (bit : ℕ → Bool) (keeper : ℕ → Option ℕ) (kept : Kept n words book bit keeper) (e : Entry)
    (at : book e.id ≡ Some e) (asked : List (ℕ × ℕ)) (loaded : List ℕ) (stored : Option ℕ) (learnt : List (ℕ × ℕ)) where
  abbrev stamped : Entry
  stamped = with_stamps asked loaded stored learnt e

  pub stamped_kept : Kept n words (with_at e.id (Some stamped) book) bit keeper
  stamped_kept = calm_kept n words book bit keeper kept e stamped at
      record { id = refl; begin = refl; next = refl; end = refl; parts = refl; ended = λ o h. h } refl refl refl
      (λ f. record {
        asks = f.asks;
        sees = f.sees;
        ends = f.ends;
        tells = f.tells;
        learns = f.learns;
        splits = f.splits;
        once = f.once;
        above = f.above;
        range = f.range;
      })

  pub stamped_set : (k x : ℕ) → ((i : ℕ) → (4 * i ≢ k) × (4 * i + 1 ≢ k)) → Kept n (set words k x) (with_at e.id (Some stamped) book) bit keeper
  stamped_set k x aside = record {
    long = length-set words k x ∙ kept.long;
    named = stamped_kept.named;
    fits = stamped_kept.fits;
    state = λ i lt. get_or-set_other words k (4 * i) x 0 (aside i).0 ∙ stamped_kept.state i lt;
    value = λ i d y h st. get_or-set_other words k (4 * i + 1) x 0 (aside i).1 ∙ stamped_kept.value i d y h st;
    asked = stamped_kept.asked;
    free = stamped_kept.free;
    rooted = stamped_kept.rooted;
  }

pub at_below : {A : Type 0} (l : List A) (j : ℕ) (b : A) → get_elem? l j ≡ some b → j < length l
at_below [] j b e = absurd (some-ne-none b (sym e))
at_below (x ∷ xs) zero b e = omega arith
at_below (x ∷ xs) (suc j) b e = let k = at_below xs j b e in omega (arith, k)

-- each view after it has its entries
module _ (book : Book) (e e' : Entry) (same_id : e'.id ≡ e.id) where
  pub own_dealt : (seat : ℕ → ℕ) (p : ℕ) (v : SeatView) (views : List SeatView) → v.own ≡ e → v.spent ≡ false → get_elem? views p ≡ some v
      → ((q : ℕ) (u : SeatView) → get_elem? views q ≡ some u → u.spent ≡ false → Dealt book seat q u)
      → (q : ℕ) (u : SeatView) → get_elem? (set views p (with_own v e')) q ≡ some u → u.spent ≡ false → Dealt (with_at e.id (Some e') book) seat q u
  own_dealt seat p v views own fresh here all q u h open_ = ⊎_elim
      (λ t. subst (λ (w : SeatView). Dealt (with_at e.id (Some e') book) seat q w) t.1 (mine t.0))
      (λ t. theirs t.0 (all q u t.1 open_)) (at_set views p q (with_own v e') u h)
    where
      was : Dealt book seat p v
      was = all p v here fresh

      seat_own : seat e.id ≡ p
      seat_own = (subst (λ (d : Entry). (book d.id ≡ Some d) × (seat d.id ≡ p)) own (was.here v.own (inl refl))).1

      mine : q ≡ p → Dealt (with_at e.id (Some e') book) seat q (with_own v e')
      mine y = record {
        here = λ d k. ⊎_elim
            (λ s. (
              ap (with_at e.id (Some e') book) (ap (λ (u : Entry). u.id) s ∙ same_id) ∙ (at_that e.id (Some e') book e.id refl ∙ ap Some (sym s)),
              ap seat (ap (λ (u : Entry). u.id) s ∙ same_id) ∙ (seat_own ∙ sym y),
            ))
            (λ s. let w = was.here d (inr s) in
            (at_other e.id (Some e') book d.id (λ z. was.apart.0 d s (z ∙ sym (ap (λ (u : Entry). u.id) own))) ∙ w.0, w.1 ∙ sym y)) k;
        apart = ((λ d k z. was.apart.0 d k (z ∙ (same_id ∙ sym (ap (λ (u : Entry). u.id) own)))), was.apart.1);
      }

      theirs : q ≢ p → Dealt book seat q u → Dealt (with_at e.id (Some e') book) seat q u
      theirs m w = record {
        here = λ d k. let t = w.here d k in
            (at_other e.id (Some e') book d.id (λ z. m (sym t.1 ∙ (ap seat z ∙ seat_own))) ∙ t.0, t.1);
        apart = w.apart;
      }

  -- and each entry is in a view
  pub own_held : (seat : ℕ → ℕ) (p : ℕ) (v : SeatView) (views : List SeatView) → v.own ≡ e → v.spent ≡ false → get_elem? views p ≡ some v
      → Dealt book seat p v → ((i : ℕ) (d : Entry) → book i ≡ Some d → d.id ≡ i) → ((i : ℕ) (d : Entry) → book i ≡ Some d → Held seat views i d)
      → (i : ℕ) (d : Entry) → with_at e.id (Some e') book i ≡ Some d → Held seat (set views p (with_own v e')) i d
  own_held seat p v views own fresh here was named held i d h = ⊎_elim
      (λ t. changed t.0 (same_Some e' d t.1)) (λ t. other t.0 t.1 (held i d t.1)) (at_cases e.id (Some e') book i (Some d) h)
    where
      w : SeatView
      w = with_own v e'

      below : p < length views
      below = at_below views p v here

      seat_own : seat e.id ≡ p
      seat_own = (subst (λ (d : Entry). (book d.id ≡ Some d) × (seat d.id ≡ p)) own (was.here v.own (inl refl))).1

      at_p : (i : ℕ) → seat i ≡ p → get_elem? (set views p w) (seat i) ≡ some w
      at_p i y = ap (get_elem? (set views p w)) y ∙ set_here views p w below

      changed : i ≡ e.id → e' ≡ d → Held seat (set views p w) i d
      changed y z = (w, at_p i (ap seat y ∙ seat_own), fresh, inl (sym z))

      kept_in : (i ≢ e.id) → book i ≡ Some d → In d v → In d w
      kept_in n at k = ⊎_elim (λ y. absurd (n (sym (named i d at) ∙ ap (λ (u : Entry). u.id) (y ∙ own)))) (λ m. inr m) k

      other : (i ≢ e.id) → book i ≡ Some d → Held seat views i d → Held seat (set views p w) i d
      other n at t = dite (ℕ_discrete (seat i) p)
          (λ y. (w, at_p i y, fresh, kept_in n at (subst (λ (u : SeatView). In d u) (some-injective t.0 v (sym t.1 ∙ (ap (get_elem? views) y ∙ here))) t.3)))
          (λ m. (t.0, set_else views p (seat i) w m ∙ t.1, t.2, t.3))

-- the rule after a step on the own entry of a seat
module _ (n : ℕ) (words : List ℕ) (views : List SeatView) (h : Ruled n words views) (p : ℕ) (v : SeatView) (fresh : v.spent ≡ false)
    (here : get_elem? views p ≡ some v) where
  abbrev entered : Entry → Book
  entered e = with_at v.own.id (Some e) h.0

  pub own_entry : h.0 v.own.id ≡ Some v.own
  own_entry = own_at h.0 h.3 p v (h.5 p v here fresh)

  pub own_ruled : (words' : List ℕ) (e : Entry) (bit : ℕ → Bool) → e.id ≡ v.own.id → Kept n words' (entered e) bit h.2
      → KeepsStamps words' (entered e) bit → Ruled n words' (set views p (with_own v e))
  own_ruled words' e bit same kept stamps = (
    entered e,
    bit,
    h.2,
    h.3,
    kept,
    own_dealt h.0 v.own e same h.3 p v views refl fresh here h.5,
    own_held h.0 v.own e same h.3 p v views refl fresh here (h.5 p v here fresh) (λ j d k. (h.4.named j d k).0) h.6,
    stamps,
  )

  -- where the step loads the word at k
  pub own_loaded : (k : ℕ) (e : Entry) → e.id ≡ v.own.id → Kept n words (entered e) h.1 h.2 → KeepsStamps words (entered e) h.1
      → Ruled n (set words k (slice_index words k)) (set views p (with_own v e))
  own_loaded k e same kept stamps =
      subst (λ (l : List ℕ). Ruled n l (set views p (with_own v e))) (sym (set-get_or words k 0)) (own_ruled words e h.1 same kept stamps)
