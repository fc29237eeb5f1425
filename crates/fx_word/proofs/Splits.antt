-- A seat is split.
use Rattle.std.proofs.Common.{◌≡◌, ◌≢◌, ℕ, ◌+◌, ◌<◌, ◌≤◌, Bool, false, List, [], ◌∷◌, ◌++◌, ◌⊎◌}
use Rattle.std.proofs.Common.{inl, inr, ⊎_elim, length, Option, Some, None, refl, sym, ◌∙◌, ap, subst, arith}
use Rattle.std.proofs.lemmas.Option.{none-some, same_Some}
use mathlib.Core.Logic.{dite}
use mathlib.Core.Option.{some}
use native.Mathlib.Decide.{ℕ_discrete, dec_lt}
use lib.ListN.{get_elem?, set}
use Rattle.atomic_table.specs.Table.{State, Splits}
use Rattle.atomic_table.proofs.Lists.{at_last, at_longer}
use Rattle.fx_term.specs.Lists.{Among}
use Rattle.fx_term.specs.Maps.{with_at}
use Rattle.fx_term.proofs.ListLaws.{at_end}
use Rattle.fx_term.proofs.MapLaws.{at_that, at_other, at_cases, pick, pick_yes, pick_no}
use Rattle.fx_term.specs.declared.begin.Begin.{Begin}
use Rattle.fx_word.specs.declared.entry.Entry.{Entry}
use Rattle.fx_word.specs.declared.seat_view.SeatView.{SeatView}
use Rattle.fx_word.specs.StateWord.{state_word}
use Rattle.fx_word.specs.Entry.{new_entry}
use Rattle.fx_word.specs.SeatView.{alone, with_own, kept_part, given_part}
use Rattle.fx_word.specs.Rule.{Book, outcome_in, begin_in, facts, Fits, Root, Kept, Dealt, Held, Ruled}
use Rattle.fx_word.proofs.SplitCounts.{splits_once}
use Rattle.fx_word.proofs.Stamps.{calm_stamps, new_keeps}
use Rattle.fx_word.proofs.OwnSteps.{Grows, Fits-grows, own_at, Root-grows, own_dealt, own_held}

-- the numbers above id, up to end, are id's, and id is nobody's any more
passed : (ℕ → Option ℕ) → ℕ → ℕ → ℕ → Option ℕ
passed keeper id end i = pick (dec_lt i id) (keeper i) (pick (ℕ_discrete i id) None (pick (dec_lt i end) (Some id) (keeper i)))

module _ (keeper : ℕ → Option ℕ) (id end : ℕ) where
  passed_self : passed keeper id end id ≡ None
  unfolding passed
  passed_self = pick_no (dec_lt id id) _ _ (λ h. omega (arith, h)) ∙ pick_yes (ℕ_discrete id id) _ _ refl

  passed_in : (i : ℕ) → id < i → i < end → passed keeper id end i ≡ Some id
  unfolding passed
  passed_in i a b = pick_no (dec_lt i id) _ _ (λ h. omega (arith, h, a)) ∙ (pick_no (ℕ_discrete i id) _ _ (λ h. omega (arith, h, a))
      ∙ pick_yes (dec_lt i end) _ _ b)

  passed_below : (i : ℕ) → i < id → passed keeper id end i ≡ keeper i
  unfolding passed
  passed_below i a = pick_yes (dec_lt i id) _ _ a

  passed_above : (i : ℕ) → id < i → end ≤ i → passed keeper id end i ≡ keeper i
  unfolding passed
  passed_above i a b = pick_no (dec_lt i id) _ _ (λ h. omega (arith, h, a)) ∙ (pick_no (ℕ_discrete i id) _ _ (λ h. omega (arith, h, a))
      ∙ pick_no (dec_lt i end) _ _ (λ h. omega (arith, h, b)))

  passed_cases : (i f : ℕ) → passed keeper id end i ≡ Some f → (i ≢ id) × (((id < i) × (i < end) × (id ≡ f)) ⊎ (keeper i ≡ Some f))
  passed_cases i f h = dite (ℕ_discrete i id)
      (λ y. absurd (none-some f (sym passed_self ∙ (ap (passed keeper id end) (sym y) ∙ h))))
      (λ m. (
        m,
        dite (dec_lt i id) (λ a. inr (sym (passed_below i a) ∙ h))
            (λ na. dite (dec_lt i end)
            (λ b. let a : id < i = omega (arith, m, na) in inl (a, b, same_Some id f (sym (passed_in i a b) ∙ h)))
            (λ nb. let a : id < i = omega (arith, m, na) in inr (sym (passed_above i a (omega (arith, nb))) ∙ h))),
      ))

module _ (n : ℕ) (words : List ℕ) (book : Book) (bit : ℕ → Bool) (keeper : ℕ → Option ℕ) (kept : Kept n words book bit keeper)
    (e : Entry) (at : book e.id ≡ Some e) (b : Begin) (follows : b.next ≡ e.next + 1) (fits : b.next ≤ b.end) (inside : b.end ≤ e.end) where
  abbrev left : Entry
  left = record e { next = b.end; parts = (e.next, b) ∷ e.parts }

  abbrev right : Entry
  right = new_entry e.next (Some (e.id, b)) b.next b.end

  abbrev book1 : Book
  book1 = with_at e.id (Some left) book

  abbrev book2 : Book
  book2 = with_at e.next (Some right) book1

  abbrev keeper2 : ℕ → Option ℕ
  keeper2 = passed keeper e.next b.end

  fit : Fits (facts book bit keeper) e
  fit = kept.fits e.id e at

  -- the numbers of the range are e's
  held : (i : ℕ) → e.next ≤ i → i < b.end → keeper i ≡ Some e.id
  held i a c = fit.range i a (omega (arith, c, inside))

  unborn : (book e.next ≡ None) × (e.next < n)
  unborn = kept.free e.next e.id (held e.next (omega arith) (omega (arith, follows, fits)))

  apart : e.next ≢ e.id
  apart h = let a = fit.above in omega (arith, h, a)

  unborn1 : book1 e.next ≡ None
  unborn1 = at_other e.id (Some left) book e.next apart ∙ unborn.0

  -- who is in the book afterwards
  cases2 : (i : ℕ) (d : Entry) → book2 i ≡ Some d → ((i ≡ e.next) × (right ≡ d)) ⊎ (((i ≡ e.id) × (left ≡ d)) ⊎ ((i ≢ e.next) × (i ≢ e.id)
      × (book i ≡ Some d)))
  cases2 i d h = ⊎_elim (λ t. inl (t.0, same_Some right d t.1))
      (λ t. inr (⊎_elim (λ u. inl (u.0, same_Some left d u.1)) (λ u. inr (t.0, u.0, u.1)) (at_cases e.id (Some left) book i (Some d) t.1)))
      (at_cases e.next (Some right) book1 i (Some d) h)

  here2 : book2 e.next ≡ Some right
  here2 = at_that e.next (Some right) book1 e.next refl

  left2 : book2 e.id ≡ Some left
  left2 = at_other e.next (Some right) book1 e.id (λ h. apart (sym h)) ∙ at_that e.id (Some left) book e.id refl

  else2 : (i : ℕ) → i ≢ e.next → i ≢ e.id → book2 i ≡ book i
  else2 i a c = at_other e.next (Some right) book1 i a ∙ at_other e.id (Some left) book i c

  out2 : (i : ℕ) → outcome_in (book2 i) ≡ outcome_in (book i)
  out2 i = dite (ℕ_discrete i e.next)
      (λ y. ap outcome_in (at_that e.next (Some right) book1 i y) ∙ sym (ap outcome_in (ap book y ∙ unborn.0)))
      (λ m. dite (ℕ_discrete i e.id)
      (λ y. ap outcome_in (ap book2 y ∙ left2) ∙ sym (ap outcome_in (ap book y ∙ at)))
      (λ k. ap outcome_in (else2 i m k)))

  begun2 : (i : ℕ) (c : ℕ × Begin) → begin_in (book i) ≡ Some c → begin_in (book2 i) ≡ Some c
  begun2 i c h = dite (ℕ_discrete i e.next)
      (λ y. absurd (none-some c (sym (ap begin_in (ap book y ∙ unborn.0)) ∙ h)))
      (λ m. dite (ℕ_discrete i e.id)
      (λ y. ap begin_in (ap book2 y ∙ left2) ∙ (sym (ap begin_in (ap book y ∙ at)) ∙ h))
      (λ k. ap begin_in (else2 i m k) ∙ h))

  grows2 : Grows (facts book bit keeper) (facts book2 bit keeper2)
  grows2 = record { bits = λ i h. h; outs = λ i o h. out2 i ∙ h; begins = begun2 }

  -- what others keep
  others2 : (i f : ℕ) → f ≢ e.id → keeper i ≡ Some f → keeper2 i ≡ Some f
  others2 i f ne h = dite (dec_lt i e.next) (λ a. passed_below keeper e.next b.end i a ∙ h)
      (λ na. dite (dec_lt i b.end)
      (λ c. absurd (ne (same_Some f e.id (sym h ∙ held i (omega (arith, na)) c))))
      (λ nc. passed_above keeper e.next b.end i (omega (arith, na, nc, follows, fits)) (omega (arith, nc)) ∙ h))

  fits2 : (i : ℕ) (d : Entry) → book2 i ≡ Some d → Fits (facts book2 bit keeper2) d
  fits2 i d h = ⊎_elim
      (λ t. subst (λ (u : Entry). Fits (facts book2 bit keeper2) u) t.1
      record {
        asks = λ j q. absurd q;
        sees = λ q. let z : ⊥ = cc in absurd z;
        ends = λ o q. absurd (none-some o q);
        tells = λ j k q. absurd q;
        learns = λ j o q. absurd q;
        splits = λ j c q. absurd q;
        once = λ j. omega arith;
        above = omega (arith, follows);
        range = λ j a c. passed_in keeper e.next b.end j (omega (arith, a, follows)) c;
      })
      (λ t. ⊎_elim
      (λ u. subst (λ (w : Entry). Fits (facts book2 bit keeper2) w) u.1
      record {
        asks = λ j q. grows2.bits j (fit.asks j q);
        sees = λ q. fit.sees q;
        ends = fit.ends;
        tells = λ j k q. let w = fit.tells j k q in (w.0, out2 j ∙ w.1, w.2);
        learns = λ j o q. out2 j ∙ fit.learns j o q;
        splits = λ j c q. ⊎_elim
            (λ y. ap begin_in (ap book2 (ap (λ (x : ℕ × Begin). x.0) y) ∙ here2) ∙ ap (λ (x : Begin). Some (e.id, x)) (sym (ap (λ (x : ℕ × Begin). x.1) y)))
            (λ y. begun2 j (e.id, c) (fit.splits j c y)) q;
        once = splits_once (e.next, b) e.parts (λ c y. none-some (e.id, c) (sym (ap begin_in unborn.0) ∙ fit.splits e.next c y)) fit.once;
        above = (let a = fit.above in omega (arith, a, follows, fits));
        range = λ j a c. passed_above keeper e.next b.end j (omega (arith, a, follows, fits)) a ∙ fit.range j (omega (arith, a, follows, fits)) c;
      })
      (λ u. let named = (kept.named i d u.2).0 in
      Fits-grows _ _ d grows2 (λ j k. others2 j d.id (λ y. u.1 (sym named ∙ y)) k) (kept.fits i d u.2)) t)
      (cases2 i d h)

  parts2 : (f : ℕ) (d : Entry) → book f ≡ Some d → (d' : Entry) × (book2 f ≡ Some d') × ((x : ℕ × Begin) → Among x d.parts → Among x d'.parts)
  parts2 f d h = dite (ℕ_discrete f e.id)
      (λ y. (left, ap book2 y ∙ left2, λ x k. inr (subst (λ (u : Entry). Among x u.parts) (same_Some d e (sym h ∙ (ap book y ∙ at))) k)))
      (λ m. (d, else2 f (λ y. none-some d (sym unborn.0 ∙ (ap book (sym y) ∙ h))) m ∙ h, λ x k. k))

  kept2 : Kept n words book2 bit keeper2
  kept2 = record {
    long = kept.long;
    named = λ i d h. ⊎_elim
        (λ t. (sym (ap (λ (u : Entry). u.id) t.1) ∙ sym t.0, subst (λ (k : ℕ). k < n) (sym t.0) unborn.1))
        (λ t. ⊎_elim (λ u. (
          sym (ap (λ (w : Entry). w.id) u.1)
              ∙ sym u.0,
          subst (λ (k : ℕ). k < n) (sym u.0) (kept.named e.id e at).1,
        )) (λ u. kept.named i d u.2) t)
        (cases2 i d h);
    fits = fits2;
    state = λ i lt. kept.state i lt ∙ ap (state_word (bit i)) (sym (out2 i));
    value = λ i d x h st. ⊎_elim (λ t. absurd (none-some x (ap (λ (u : Entry). u.stored) t.1 ∙ st)))
        (λ t. ⊎_elim (λ u. kept.value i e x (ap book u.0 ∙ at) (ap (λ (w : Entry). w.stored) u.1 ∙ st)) (λ u. kept.value i d x u.2 st) t) (cases2 i d h);
    asked = λ i h. let t = kept.asked i h in dite (ℕ_discrete t.0 e.id)
        (λ y. (t.0, left, ap book2 y ∙ left2, subst (λ (u : Entry). Among i u.asked) (same_Some t.1 e (sym t.2 ∙ (ap book y ∙ at))) t.3))
        (λ m. (t.0, t.1, else2 t.0 (λ y. none-some t.1 (sym unborn.0 ∙ (ap book (sym y) ∙ t.2))) m ∙ t.2, t.3));
    free = λ i f h. let t = passed_cases keeper e.next b.end i f h in
        let was : (g : ℕ) × (keeper i ≡ Some g) = ⊎_elim (λ u. (e.id, held i (let a = u.0 in omega (arith, a)) u.1)) (λ u. (f, u)) t.1 in
        let free = kept.free i was.0 was.1 in
        (else2 i t.0 (λ y. none-some e (sym free.0 ∙ (ap book y ∙ at))) ∙ free.0, free.1);
    rooted = λ i d h. ⊎_elim
        (λ t. subst (λ (u : Entry). Root book2 i u.begin) t.1
        (inr (e.id, left, b, subst (λ (k : ℕ). e.id < k) (sym t.0) fit.above, left2, inl (ap (λ (k : ℕ). (k, b)) t.0), refl)))
        (λ t. ⊎_elim
        (λ u. subst (λ (w : Entry). Root book2 i w.begin) u.1 (Root-grows book book2 i e.begin parts2 (kept.rooted i e (ap book u.0 ∙ at))))
        (λ u. Root-grows book book2 i d.begin parts2 (kept.rooted i d u.2)) t)
        (cases2 i d h);
  }

  -- the new view goes behind the others
  dealt2 : (seat : ℕ → ℕ) (p : ℕ) (v : SeatView) (views : List SeatView) → v.own ≡ e → v.spent ≡ false → get_elem? views p ≡ some v
      → ((q : ℕ) (u : SeatView) → get_elem? views q ≡ some u → u.spent ≡ false → Dealt book seat q u)
      → (q : ℕ) (u : SeatView) → get_elem? (set views p (record v { own = left }) ++ alone right ∷ []) q ≡ some u → u.spent ≡ false
      → Dealt book2 (with_at e.next (length (set views p (record v { own = left }))) seat) q u
  dealt2 seat p v views own fresh here all q u h open_ = ⊎_elim
      (λ t. subst (λ (w : SeatView). Dealt book2 seat2 q w) t.1 record {
        here = λ d k. ⊎_elim (λ y. (
          ap book2 (ap (λ (w : Entry). w.id) y) ∙ (here2 ∙ ap Some (sym y)),
          ap seat2 (ap (λ (w : Entry). w.id) y)
              ∙ (at_that e.next last seat e.next refl ∙ sym t.0),
        )) (λ y. absurd y) k;
        apart = ((λ d k. absurd k), tt);
      })
      (λ t. let was = own_dealt book e left refl seat p v views own fresh here all q u t open_ in record {
        here = λ d k. let w = was.here d k in let new : d.id ≢ e.next = λ y. none-some d (sym unborn1 ∙ (ap book1 (sym y) ∙ w.0)) in
            (at_other e.next (Some right) book1 d.id new ∙ w.0, at_other e.next last seat d.id new ∙ w.1);
        apart = was.apart;
      })
      (at_end (set views p (record v { own = left })) (alone right) u q h)
    where
      last : ℕ
      last = length (set views p (record v { own = left }))

      seat2 : ℕ → ℕ
      seat2 = with_at e.next last seat

  -- and its entry is in it
  held2 : (seat : ℕ → ℕ) (p : ℕ) (v : SeatView) (views : List SeatView) → v.own ≡ e → v.spent ≡ false → get_elem? views p ≡ some v
      → Dealt book seat p v → ((i : ℕ) (d : Entry) → book i ≡ Some d → Held seat views i d)
      → (i : ℕ) (d : Entry) → book2 i ≡ Some d
      → Held (with_at e.next (length (set views p (with_own v left))) seat) (set views p (with_own v left) ++ alone right ∷ []) i d
  held2 seat p v views own fresh here was held i d h = ⊎_elim
      (λ t. (
        alone right,
        ap (get_elem? after) (at_that e.next last seat i t.0)
            ∙ at_last front (alone right) last refl,
        refl,
        inl (sym (same_Some right d t.1)),
      ))
      (λ t. let k = own_held book e left refl seat p v views own fresh here was (λ j c m. (kept.named j c m).0) held i d t.1 in
      (k.0, ap (get_elem? after) (at_other e.next last seat i t.0) ∙ at_longer front (alone right ∷ []) (seat i) k.0 k.1, k.2, k.3))
      (at_cases e.next (Some right) book1 i (Some d) h)
    where
      front : List SeatView
      front = set views p (with_own v left)

      last : ℕ
      last = length front

      after : List SeatView
      after = front ++ alone right ∷ []

pub splits : (n seat : ℕ) (v : SeatView) (b : Begin) → v.spent ≡ false → b.next ≡ v.own.next + 1 → b.next ≤ b.end → b.end ≤ v.own.end
    → Splits (λ (s : State (Unit {0}) SeatView). Ruled n s.words s.views) seat v (kept_part b v) (given_part b v)
splits n seat v b fresh follows fits inside s h here =
    let was = h.5 seat v here fresh in
    let at = own_at h.0 h.3 seat v was in (
      book2 n s.words h.0 h.1 h.2 h.4 v.own at b follows fits inside,
      h.1,
      keeper2 n s.words h.0 h.1 h.2 h.4 v.own at b follows fits inside,
      _,
      kept2 n s.words h.0 h.1 h.2 h.4 v.own at b follows fits inside,
      dealt2 n s.words h.0 h.1 h.2 h.4 v.own at b follows fits inside h.3 seat v s.views refl fresh here h.5,
      held2 n s.words h.0 h.1 h.2 h.4 v.own at b follows fits inside h.3 seat v s.views refl fresh here was h.6,
      new_keeps s.words h.1 (book1 n s.words h.0 h.1 h.2 h.4 v.own at b follows fits inside)
          (calm_stamps s.words h.1 h.0 h.7 v.own at s.words (left n s.words h.0 h.1 h.2 h.4 v.own at b follows fits inside) (λ i. refl) (λ i. refl)
          record { asked_with = refl; loaded = refl; stored_stamp = refl; learnt_stamps = refl } refl)
          v.own.next (unborn1 n s.words h.0 h.1 h.2 h.4 v.own at b follows fits inside) (Some (v.own.id, b)) b.next b.end,
    )
