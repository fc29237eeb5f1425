-- A seat takes another one in.
use Rattle.std.proofs.Common.{◌≡◌, ◌≢◌, ℕ, ◌<◌, Bool, true, false, List, ◌⊎◌, inl, inr}
use Rattle.std.proofs.Common.{⊎_elim, Option, Some, None, refl, sym, ◌∙◌, ap, subst, arith, zero, suc}
use Rattle.std.proofs.lemmas.Option.{none-some, same_Some}
use mathlib.Core.Logic.{dite}
use mathlib.Core.Option.{some, some-injective}
use native.Mathlib.Decide.{ℕ_discrete}
use lib.ListN.{get_elem?, set}
use Rattle.atomic_table.specs.Table.{State, Joins, Seen, Final}
use Rattle.atomic_table.proofs.Lists.{at_set, set_here, set_else}
use Rattle.fx_term.specs.Lists.{Among}
use Rattle.fx_term.proofs.ListLaws.{Among-append, Among-append_left, Among-append_right}
use Rattle.fx_term.proofs.MapLaws.{pick, pick_yes, pick_no}
use Rattle.fx_term.specs.declared.begin.Begin.{Begin}
use Rattle.fx_term.specs.declared.outcome.Outcome.{Outcome}
use Rattle.fx_word.specs.declared.entry.Entry.{Entry}
use Rattle.fx_word.specs.declared.seat_view.SeatView.{SeatView}
use Rattle.fx_word.specs.Entry.{splits_of}
use Rattle.fx_word.specs.SeatView.{spent_view, In, entries, all_parts, joined, IsWhole, IsSettled, AreSplitOffOnce}
use Rattle.fx_word.specs.Rule.{Book, outcome_in, begin_in, facts, Fits, Kept, Dealt, Held, Ruled}
use Rattle.fx_word.specs.Stamps.{HasEndedWith, KeepsStamps}
use Rattle.fx_word.proofs.SplitCounts.{Apart-append, splits_never, splits_by_one}
use Rattle.fx_word.proofs.OwnSteps.{at_below}

module _ (book : Book) (seat : ℕ → ℕ) (p q : ℕ) (v w : SeatView) (ne : q ≢ p) where
  moved : ℕ → ℕ
  moved i = pick (ℕ_discrete (seat i) q) p (seat i)

  moved_here : (i : ℕ) → seat i ≡ q → moved i ≡ p
  unfolding moved
  moved_here i h = pick_yes (ℕ_discrete (seat i) q) _ _ h

  moved_else : (i : ℕ) → seat i ≢ q → moved i ≡ seat i
  unfolding moved
  moved_else i h = pick_no (ℕ_discrete (seat i) q) _ _ h

  cases : (d : Entry) → In d (joined v w) → In d v ⊎ In d w
  cases d k = ⊎_elim (λ y. inl (inl y))
      (λ t. ⊎_elim (λ y. inr y) (λ y. inl (inr y)) (Among-append (entries w) v.taken d t)) k

  both_dealt : Dealt book seat p v → Dealt book seat q w → Dealt book moved p (joined v w)
  both_dealt dv dw = record {
    here = λ d k. ⊎_elim
        (λ y. let t = dv.here d y in (t.0, moved_else d.id (λ z. ne (sym z ∙ t.1)) ∙ t.1))
        (λ y. let t = dw.here d y in (t.0, moved_here d.id t.1)) (cases d k);
    apart = (
      (λ d k z. ⊎_elim
          (λ y. ne (sym (dw.here d y).1 ∙ (ap seat z ∙ (dv.here v.own (inl refl)).1)))
          (λ y. dv.apart.0 d y z) (Among-append (entries w) v.taken d k)),
      Apart-append (entries w) v.taken dw.apart dv.apart.1
          (λ d e m k z. ne (sym (dw.here d m).1 ∙ (ap seat (sym z) ∙ (dv.here e (inr k)).1))),
    );
  }

  rest_dealt : (r : ℕ) (u : SeatView) → r ≢ q → Dealt book seat r u → Dealt book moved r u
  rest_dealt r u other d = record { here = λ e k. let t = d.here e k in (t.0, moved_else e.id (λ z. other (sym t.1 ∙ z)) ∙ t.1); apart = d.apart }

  all_dealt : (views : List SeatView) → v.spent ≡ false → w.spent ≡ false → get_elem? views p ≡ some v → get_elem? views q ≡ some w
      → ((r : ℕ) (u : SeatView) → get_elem? views r ≡ some u → u.spent ≡ false → Dealt book seat r u)
      → (r : ℕ) (u : SeatView) → get_elem? (set (set views p (joined v w)) q spent_view) r ≡ some u → u.spent ≡ false → Dealt book moved r u
  all_dealt views fv fw hv hw all r u h o = ⊎_elim
      (λ t. let z : true ≡ false = ap (λ (x : SeatView). x.spent) t.1 ∙ o in let b : ⊥ = cc in absurd b)
      (λ t. ⊎_elim
      (λ s. subst (λ (x : SeatView). Dealt book moved r x) s.1 (subst (λ (k : ℕ). Dealt book moved k (joined v w)) (sym s.0) (both_dealt (all p v hv
      fv) (all q w hw fw))))
      (λ s. rest_dealt r u t.0 (all r u s.1 o))
      (at_set views p r (joined v w) u t.1))
      (at_set (set views p (joined v w)) q r spent_view u h)

  joined_in : (d : Entry) → In d v → In d (joined v w)
  joined_in d k = ⊎_elim inl (λ y. inr (Among-append_right (entries w) v.taken d y)) k

  all_held : (views : List SeatView) → v.spent ≡ false → get_elem? views p ≡ some v → get_elem? views q ≡ some w
      → ((i : ℕ) (d : Entry) → book i ≡ Some d → Held seat views i d)
      → (i : ℕ) (d : Entry) → book i ≡ Some d → Held moved (set (set views p (joined v w)) q spent_view) i d
  all_held views fv hv hw held i d at = dite (ℕ_discrete (seat i) q)
      (λ y. (
        joined v w,
        ap (get_elem? after) (moved_here i y) ∙ there,
        fv,
        inr (Among-append_left (entries w) v.taken d (subst (λ (u : SeatView). In d u) (some-injective t.0 w (sym t.1 ∙ (ap (get_elem? views) y ∙ hw))) t.3)),
      ))
      (λ m. dite (ℕ_discrete (seat i) p)
      (λ y. (
        joined v w,
        ap (get_elem? after) (moved_else i m ∙ y) ∙ there,
        fv,
        joined_in d (subst (λ (u : SeatView). In d u) (some-injective t.0 v (sym t.1 ∙ (ap (get_elem? views) y ∙ hv))) t.3),
      ))
      (λ k. (
        t.0,
        ap (get_elem? after) (moved_else i m) ∙ (set_else front q (seat i) spent_view m ∙ (set_else views p (seat i) (joined v w) k
            ∙ t.1)),
        t.2,
        t.3,
      )))
    where
      t : Held seat views i d
      t = held i d at

      front : List SeatView
      front = set views p (joined v w)

      after : List SeatView
      after = set front q spent_view

      there : get_elem? after p ≡ some (joined v w)
      there = set_else front q p spent_view (λ z. ne (sym z)) ∙ set_here views p (joined v w) (at_below views p v hv)

pub joins : (n p q : ℕ) (v w : SeatView) → v.spent ≡ false → w.spent ≡ false
    → Joins (λ (s : State (Unit {0}) SeatView). Ruled n s.words s.views) p v q w (joined v w) spent_view
joins n p q v w fv fw s h hv ne hw' =
    let hw : get_elem? s.views q ≡ some w = ⊎_elim (λ t. absurd (ne t.0)) (λ t. t.1) (at_set s.views p q (joined v w) w hw') in
    (h.0, h.1, h.2, _, h.4, all_dealt h.0 h.3 p q v w ne s.views fv fw hv hw h.5, all_held h.0 h.3 p q v w ne s.views fv hv hw h.6, h.7)

-- each entry of the book is in the view of a first seat that has taken in all
module _ (n : ℕ) (words : List ℕ) (book : Book) (bit : ℕ → Bool) (keeper : ℕ → Option ℕ) (kept : Kept n words book bit keeper)
    (seat : ℕ → ℕ) (p : ℕ) (v : SeatView) (dealt : Dealt book seat p v) (whole : IsWhole v) where
  root : (i : ℕ) (e : Entry) → i ≡ 0 → book i ≡ Some e → In e v
  root i e z h = let t = (dealt.here v.own (inl refl)).0 in inl (same_Some e v.own (sym h ∙ (ap book (z ∙ sym whole.0) ∙ t)))

  child : (i : ℕ) (e d : Entry) (b : Begin) → In d v → Among (i, b) d.parts → book i ≡ Some e → In e v
  child i e d b k m h = let t = whole.1 d k i b m in
      subst (λ (x : Entry). In x v) (same_Some t.0 e (sym (dealt.here t.0 t.1).0 ∙ (ap book t.2 ∙ h))) t.1

  within : (bound i : ℕ) → i < bound → (e : Entry) → book i ≡ Some e → In e v
  within zero i lt e h = absurd (omega (arith, lt))
  within (suc bound) i lt e h = ⊎_elim (λ z. root i e z.0 h)
      (λ t. let less = t.3 in child i e t.1 t.2 (within bound t.0 (omega (arith, lt, less)) t.1 t.4) t.5 h) (kept.rooted i e h)

  every : (i : ℕ) (e : Entry) → book i ≡ Some e → In e v
  every i e h = within (suc i) i (omega arith) e h

  out_entry : (i : ℕ) (o : Outcome) (m : Option Entry) → book i ≡ m → outcome_in m ≡ Some o → (d : Entry) × In d v × (d.id ≡ i) × (d.ended ≡ Some o)
  out_entry i o None at h = absurd (none-some o h)
  out_entry i o (Some d) at h = (d, every i d at, (kept.named i d at).0, h)

  -- where an entry of the view stands in the book, and that what it says is so
  at_book : (e : Entry) → In e v → book e.id ≡ Some e
  at_book e k = (dealt.here e k).0

  fit : (e : Entry) → In e v → Fits (facts book bit keeper) e
  fit e k = kept.fits e.id e (at_book e k)

  main_begin : (e : Entry) → In e v → e.id ≡ 0 → e.begin ≡ None
  main_begin e k z = ⊎_elim (λ t. t.1) (λ t. let less = t.3 in absurd (omega (arith, z, less))) (kept.rooted e.id e (at_book e k))

  no_begin : begin_in (book 0) ≡ None
  no_begin = ap begin_in (ap book (sym whole.0) ∙ at_book v.own (inl refl)) ∙ main_begin v.own (inl refl) whole.0

  starter : (e : Entry) → In e v → e.id ≢ 0 → (d : Entry) × (b : Begin) × In d v × Among (e.id, b) d.parts
  starter e k nz = ⊎_elim (λ t. absurd (nz t.0)) (λ t. (t.1, t.2, every t.0 t.1 t.4, t.5)) (kept.rooted e.id e (at_book e k))

  -- whoever split a fiber off is the one that the book says it began by
  by_starter : (e d : Entry) (b : Begin) → In d v → Among (e.id, b) d.parts → splits_of e.id (all_parts v) ≡ 1
  by_starter e d b k m = splits_by_one e.id b d (entries v) dealt.apart k m ((fit d k).once e.id)
      (λ x c n h. ap (λ (s : ℕ × Begin). s.0) (same_Some (x.id, c) (d.id, b) (sym ((fit x n).splits e.id c h) ∙ (fit d k).splits e.id b m)))

  -- whose entry of the book ended with that stamp
  ended_so : (i t : ℕ) → HasEndedWith book i t → (d : Entry) × In d v × (d.id ≡ i) × (d.stored_stamp ≡ Some t)
  ended_so i t h = (h.0, every i h.0 h.2, (kept.named i h.0 h.2).0, h.4)

  settled : KeepsStamps words book bit → IsSettled v
  settled stamps = record {
    one = λ d e k m y. same_Some d e (sym (at_book d k) ∙ (ap book y ∙ at_book e m));
    requested = λ e k s. let t = kept.asked e.id ((fit e k).sees s) in (t.1, every t.0 t.1 t.2, t.3);
    requested_with = λ e k t l. let a = stamps.loads e.id t e (at_book e k) l in (a.1, every a.0 a.1 a.2, a.3);
    ended = λ e k i o m. out_entry i o (book i) refl ((fit e k).learns i o m);
    ended_with = λ e k i t l. ended_so i t (stamps.learns e.id i t e (at_book e k) l);
    main = main_begin;
    started = starter;
    began = λ e k i b m d h y. sym (ap begin_in (ap book (sym y) ∙ at_book d h)) ∙ (fit e k).splits i b m;
  }

  split_off_once : AreSplitOffOnce v
  split_off_once = record {
    main = splits_never 0 (entries v) (λ e b k m. none-some (e.id, b) (sym no_begin ∙ (fit e k).splits 0 b m));
    others = λ e k nz. let t = starter e k nz in by_starter e t.0 t.1 t.2 t.3;
  }

module _ (n p : ℕ) (v : SeatView) (words : List ℕ) (xs : List (Unit {0})) (fresh : v.spent ≡ false) (whole : IsWhole v)
    (final : Final (Seen (λ (s : State (Unit {0}) SeatView). Ruled n s.words s.views) p v) words xs) where
  pub closes : IsSettled v
  closes = let s = final.0 in let h = final.1.0 in settled n s.words h.0 h.1 h.2 h.4 h.3 p v (h.5 p v final.1.1 fresh) whole h.7

  pub closes_once : AreSplitOffOnce v
  closes_once = let s = final.0 in let h = final.1.0 in split_off_once n s.words h.0 h.1 h.2 h.4 h.3 p v (h.5 p v final.1.1 fresh) whole
