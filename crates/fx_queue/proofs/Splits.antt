-- A pass is split.
use Rattle.std.proofs.Common.{◌≡◌, ◌≢◌, ℕ, ◌+◌, ◌<◌, ◌≤◌, List, [], ◌∷◌, ◌++◌, ◌⊎◌, inl}
use Rattle.std.proofs.Common.{inr, ⊎_elim, length, Option, Some, None, refl, sym, ◌∙◌, ap, subst, arith}
use Rattle.std.proofs.lemmas.Option.{none-some, same_Some}
use mathlib.Core.Logic.{dite}
use mathlib.Core.Option.{some}
use native.Mathlib.Decide.{ℕ_discrete, dec_lt}
use lib.ListN.{get_elem?, set}
use Rattle.crossbeam_queue.specs.Fifo.{Forks}
use Rattle.crossbeam_queue.proofs.Lists.{at_snoc}
use Rattle.fx_term.specs.declared.queue_event.QueueEvent.{QueueEvent}
use Rattle.fx_queue.specs.declared.entry.Entry.{Entry}
use Rattle.fx_queue.specs.declared.entry.Handed.{Handed}
use Rattle.fx_queue.specs.declared.stage.Stage.TheVariants.{Blank, Live}
use Rattle.fx_queue.specs.declared.pass_view.PassView.{PassView}
use Rattle.fx_term.specs.Lists.{Among}
use Rattle.fx_term.specs.Maps.{with_at}
use Rattle.fx_term.specs.Queue.{cut}
use Rattle.fx_queue.specs.Entry.{new_entry}
use Rattle.fx_queue.specs.History.{Begins}
use Rattle.fx_queue.specs.PassView.{kept_part, given_part}
use Rattle.fx_queue.specs.Rule.{Book, acts_in, stamps_in, IsHanded, Kept, IsBelow, Dealt, Ringed}
use Rattle.fx_term.proofs.ListLaws.{at_end, Among-append, Among-append_left, Among-append_right}
use Rattle.fx_term.proofs.MapLaws.{at_that, at_other, at_cases, pick, pick_yes, pick_no}
use Rattle.fx_queue.proofs.Histories.{cut-begins_none, Begins-all}
use Rattle.fx_queue.proofs.Views.{blank_live, running, own_at, Root-grows, Handed-grows, own_dealt, still_set_up}

-- the numbers above id, up to end, are id's, and id is nobody's any more
passed : (ℕ → Option ℕ) → ℕ → ℕ → ℕ → Option ℕ
passed keeper id end i = pick (dec_lt i id) (keeper i) (pick (ℕ_discrete i id) None (pick (dec_lt i end) (Some id) (keeper i)))

module _ (keeper : ℕ → Option ℕ) (id end : ℕ) where
  passed_self : passed keeper id end id ≡ None
  unfolding passed
  passed_self = pick_no (dec_lt id id) _ _ (λ h. omega (arith, h)) ∙ pick_yes (ℕ_discrete id id) _ _ refl

  passed_in : (i : ℕ) → id < i → i < end → passed keeper id end i ≡ Some id
  unfolding passed
  passed_in i a b = pick_no (dec_lt i id) _ _ (λ h. omega (arith, h, a)) ∙ (pick_no (ℕ_discrete i id) _ _ (λ h. omega (arith, h, a))
      ∙ pick_yes (dec_lt i end) _ _ b)

  passed_below : (i : ℕ) → i < id → passed keeper id end i ≡ keeper i
  unfolding passed
  passed_below i a = pick_yes (dec_lt i id) _ _ a

  passed_above : (i : ℕ) → id < i → end ≤ i → passed keeper id end i ≡ keeper i
  unfolding passed
  passed_above i a b = pick_no (dec_lt i id) _ _ (λ h. omega (arith, h, a)) ∙ (pick_no (ℕ_discrete i id) _ _ (λ h. omega (arith, h, a))
      ∙ pick_no (dec_lt i end) _ _ (λ h. omega (arith, h, b)))

  passed_cases : (i f : ℕ) → passed keeper id end i ≡ Some f → (i ≢ id) × (((id < i) × (i < end) × (id ≡ f)) ⊎ (keeper i ≡ Some f))
  passed_cases i f h = dite (ℕ_discrete i id)
      (λ y. absurd (none-some f (sym passed_self ∙ (ap (passed keeper id end) (sym y) ∙ h))))
      (λ m. (
        m,
        dite (dec_lt i id) (λ a. inr (sym (passed_below i a) ∙ h))
            (λ na. dite (dec_lt i end)
            (λ b. let a : id < i = omega (arith, m, na) in inl (a, b, same_Some id f (sym (passed_in i a b) ∙ h)))
            (λ nb. let a : id < i = omega (arith, m, na) in inr (sym (passed_above i a (omega (arith, nb))) ∙ h))),
      ))

module _ (log : List QueueEvent) (book : Book) (keeper : ℕ → Option ℕ) (kept : Kept log book keeper)
    (e : Entry) (at : book e.id ≡ Some e) (end : ℕ) (some_number : e.next < end) (inside : end ≤ e.end) where
  abbrev part : Handed
  part = record { id = e.next; seen = e.seen }

  abbrev left : Entry
  left = record e { next = end; parts = e.parts ++ e.next ∷ []; handed = e.handed ++ part ∷ [] }

  abbrev right : Entry
  right = new_entry e.next (e.next + 1) end e.seen

  -- the new pass
  abbrev given : PassView → PassView
  given v = record { stage = Live; cap = v.cap; fibers = v.fibers; own = right; taken = [] }

  abbrev book1 : Book
  book1 = with_at e.id (Some left) book

  abbrev book2 : Book
  book2 = with_at e.next (Some right) book1

  abbrev keeper2 : ℕ → Option ℕ
  keeper2 = passed keeper e.next end

  above : e.id < e.next
  above = kept.above e.id e at

  -- the numbers of the range are e's
  held : (i : ℕ) → e.next ≤ i → i < end → keeper i ≡ Some e.id
  held i a c = kept.range e.id e at i a (omega (arith, c, inside))

  unborn : book e.next ≡ None
  unborn = kept.free e.next e.id (held e.next (omega arith) some_number)

  apart : e.next ≢ e.id
  apart h = let a = above in omega (arith, h, a)

  unborn1 : book1 e.next ≡ None
  unborn1 = at_other e.id (Some left) book e.next apart ∙ unborn

  -- who is in the book afterwards
  cases2 : (i : ℕ) (d : Entry) → book2 i ≡ Some d → ((i ≡ e.next) × (right ≡ d)) ⊎ (((i ≡ e.id) × (left ≡ d)) ⊎ ((i ≢ e.next) × (i ≢ e.id)
      × (book i ≡ Some d)))
  cases2 i d h = ⊎_elim (λ t. inl (t.0, same_Some right d t.1))
      (λ t. inr (⊎_elim (λ u. inl (u.0, same_Some left d u.1)) (λ u. inr (t.0, u.0, u.1)) (at_cases e.id (Some left) book i (Some d) t.1)))
      (at_cases e.next (Some right) book1 i (Some d) h)

  here2 : book2 e.next ≡ Some right
  here2 = at_that e.next (Some right) book1 e.next refl

  left2 : book2 e.id ≡ Some left
  left2 = at_other e.next (Some right) book1 e.id (λ h. apart (sym h)) ∙ at_that e.id (Some left) book e.id refl

  else2 : (i : ℕ) → i ≢ e.next → i ≢ e.id → book2 i ≡ book i
  else2 i a c = at_other e.next (Some right) book1 i a ∙ at_other e.id (Some left) book i c

  acts2 : (i : ℕ) → acts_in (book i) ≡ acts_in (book2 i)
  acts2 i = dite (ℕ_discrete i e.next)
      (λ y. ap acts_in (ap book y ∙ unborn) ∙ sym (ap acts_in (at_that e.next (Some right) book1 i y)))
      (λ m. dite (ℕ_discrete i e.id)
      (λ y. ap acts_in (ap book y ∙ at) ∙ sym (ap acts_in (ap book2 y ∙ left2)))
      (λ k. sym (ap acts_in (else2 i m k))))

  stamps2 : (i : ℕ) → stamps_in (book i) ≡ stamps_in (book2 i)
  stamps2 i = dite (ℕ_discrete i e.next)
      (λ y. ap stamps_in (ap book y ∙ unborn) ∙ sym (ap stamps_in (at_that e.next (Some right) book1 i y)))
      (λ m. dite (ℕ_discrete i e.id)
      (λ y. ap stamps_in (ap book y ∙ at) ∙ sym (ap stamps_in (ap book2 y ∙ left2)))
      (λ k. sym (ap stamps_in (else2 i m k))))

  -- what others keep
  others2 : (i f : ℕ) → f ≢ e.id → keeper i ≡ Some f → keeper2 i ≡ Some f
  others2 i f ne h = dite (dec_lt i e.next) (λ a. passed_below keeper e.next end i a ∙ h)
      (λ na. dite (dec_lt i end)
      (λ c. absurd (ne (same_Some f e.id (sym h ∙ held i (omega (arith, na)) c))))
      (λ nc. passed_above keeper e.next end i (omega (arith, na, nc, some_number)) (omega (arith, nc)) ∙ h))

  parts2 : (f : ℕ) (d : Entry) → book f ≡ Some d → (d' : Entry) × (book2 f ≡ Some d') × ((x : ℕ) → Among x d.parts → Among x d'.parts)
  parts2 f d h = dite (ℕ_discrete f e.id)
      (λ y. (
        left,
        ap book2 y ∙ left2,
        λ x k. Among-append_left e.parts (e.next ∷ []) x (subst (λ (u : Entry). Among x u.parts) (same_Some d e (sym h
            ∙ (ap book y ∙ at))) k),
      ))
      (λ m. (d, else2 f (λ y. none-some d (sym unborn ∙ (ap book (sym y) ∙ h))) m ∙ h, λ x k. k))

  began2 : (f : ℕ) (d : Entry) → book f ≡ Some d → (d' : Entry) × (book2 f ≡ Some d') × (d'.began ≡ d.began)
  began2 f d h = dite (ℕ_discrete f e.id)
      (λ y. (left, ap book2 y ∙ left2, ap (λ (u : Entry). u.began) (same_Some e d (sym at ∙ (ap book (sym y) ∙ h)))))
      (λ m. (d, else2 f (λ y. none-some d (sym unborn ∙ (ap book (sym y) ∙ h))) m ∙ h, refl))

  -- the new pass began with all that its starter had seen
  handed_left : (x : Handed) → Among x left.handed → IsHanded book2 left x
  handed_left x k = ⊎_elim
      (λ m. Handed-grows book book2 e left x began2 refl (kept.handed e.id e at x m))
      (λ m. ⊎_elim (λ y. subst (λ (h : Handed). IsHanded book2 left h) (sym y) (right, here2, refl, kept.begun e.id e at)) absurd m)
      (Among-append e.handed (part ∷ []) x k)

  -- a fact of each entry afterwards
  each2 : (P : Entry → Type 0) → P right → P left → ((i : ℕ) (d : Entry) → i ≢ e.id → book i ≡ Some d → P d) → (i : ℕ) (d : Entry) → book2 i ≡ Some d → P d
  each2 P a b c i d h = ⊎_elim (λ t. subst P t.1 a) (λ t. ⊎_elim (λ u. subst P u.1 b) (λ u. c i d u.1 u.2) t) (cases2 i d h)

  kept2 : Kept log book2 keeper2
  kept2 = record {
    named = λ i d h. ⊎_elim (λ t. sym (ap (λ (u : Entry). u.id) t.1) ∙ sym t.0)
        (λ t. ⊎_elim (λ u. sym (ap (λ (w : Entry). w.id) u.1) ∙ sym u.0) (λ u. kept.named i d u.2) t) (cases2 i d h);
    cuts = λ i. kept.cuts i ∙ acts2 i;
    begins = each2 (λ (u : Entry). Begins log u.seen) (kept.begins e.id e at) (kept.begins e.id e at) (λ i d n h. kept.begins i d h);
    aware = each2 (λ (u : Entry). cut u.id u.seen ≡ u.acts)
        (cut-begins_none e.next log e.seen (kept.begins e.id e at) (kept.cuts e.next ∙ ap acts_in unborn))
        (kept.aware e.id e at) (λ i d n h. kept.aware i d h);
    above = each2 (λ (u : Entry). u.id < u.next) (omega arith) (let a = above in omega (arith, a, some_number)) (λ i d n h. kept.above i d h);
    range = each2 (λ (u : Entry). (j : ℕ) → u.next ≤ j → j < u.end → keeper2 j ≡ Some u.id)
        (λ j a c. passed_in keeper e.next end j (omega (arith, a)) c)
        (λ j a c. passed_above keeper e.next end j (omega (arith, a, some_number)) a ∙ kept.range e.id e at j (omega (arith, a, some_number)) c)
        (λ i d n h j a c. others2 j d.id (λ y. n (sym (kept.named i d h) ∙ y)) (kept.range i d h j a c));
    free = λ i f h. let t = passed_cases keeper e.next end i f h in
        let was : (g : ℕ) × (keeper i ≡ Some g) = ⊎_elim (λ u. (e.id, held i (let a = u.0 in omega (arith, a)) u.1)) (λ u. (f, u)) t.1 in
        let none = kept.free i was.0 was.1 in
        else2 i t.0 (λ y. none-some e (sym none ∙ (ap book y ∙ at))) ∙ none;
    rooted = λ i d h. ⊎_elim
        (λ t. inr (e.id, left, subst (λ (k : ℕ). e.id < k) (sym t.0) above, left2, Among-append_right e.parts (e.next ∷ []) i (inl t.0)))
        (λ t. Root-grows book book2 i parts2 (⊎_elim (λ u. kept.rooted i e (ap book u.0 ∙ at)) (λ u. kept.rooted i d u.2) t))
        (cases2 i d h);
    begun = each2 (λ (u : Entry). Begins u.seen u.began) (Begins-all e.seen) (kept.begun e.id e at) (λ i d n h. kept.begun i d h);
    handed = each2 (λ (u : Entry). (x : Handed) → Among x u.handed → IsHanded book2 u x) (λ x k. absurd k) handed_left
        (λ i d n h x k. Handed-grows book book2 d d x began2 refl (kept.handed i d h x k));
  }

  below1 : (n : ℕ) → IsBelow n book → IsBelow n book1
  below1 n all i d h = ⊎_elim
      (λ t. subst (λ (u : Entry). (u.id < n) × (u.end ≤ n)) (same_Some left d t.1) (all e.id e at))
      (λ t. all i d t.1) (at_cases e.id (Some left) book i (Some d) h)

  below2 : (n : ℕ) → IsBelow n book1 → IsBelow n book2
  below2 n all i d h = ⊎_elim
      (λ t.
      let le = (all e.id left (at_that e.id (Some left) book e.id refl)).1 in
      subst (λ (u : Entry). (u.id < n) × (u.end ≤ n)) (same_Some right d t.1) (omega (arith, le, inside, some_number), omega (arith, le, inside)))
      (λ t. all i d t.1) (at_cases e.next (Some right) book1 i (Some d) h)

  -- the new view goes behind the others
  dealt2 : (cap : ℕ) (seat : ℕ → ℕ) (p : ℕ) (v : PassView) (views : List PassView) → v.own ≡ e → v.cap ≡ cap → v.stage ≡ Live → get_elem? views p ≡ some v
      → ((q : ℕ) (u : PassView) → get_elem? views q ≡ some u → u.stage ≡ Live → Dealt cap book seat q u)
      → (q : ℕ) (u : PassView) → get_elem? (set views p (record v { own = left }) ++ given v ∷ []) q ≡ some u → u.stage ≡ Live
      → Dealt cap book2 (with_at e.next (length (set views p (record v { own = left }))) seat) q u
  dealt2 cap seat p v views own ready live here all q u h open_ = ⊎_elim
      (λ t. subst (λ (w : PassView). Dealt cap book2 seat2 q w) t.1 record {
        ready = ready;
        below = below2 v.fibers (below1 v.fibers (all p v here live).below);
        here = λ d k. ⊎_elim (λ y. (
          ap book2 (ap (λ (w : Entry). w.id) y) ∙ (here2 ∙ ap Some (sym y)),
          ap seat2 (ap (λ (w : Entry). w.id) y)
              ∙ (at_that e.next last seat e.next refl ∙ sym t.0),
        )) (λ y. absurd y) k;
        others = λ d k. absurd k;
      })
      (λ t. let was = own_dealt cap book e left refl refl seat p v views own live here all q u t open_ in record {
        ready = was.ready;
        below = below2 u.fibers was.below;
        here = λ d k. let w = was.here d k in let new : d.id ≢ e.next = λ y. none-some d (sym unborn1 ∙ (ap book1 (sym y) ∙ w.0)) in
            (at_other e.next (Some right) book1 d.id new ∙ w.0, at_other e.next last seat d.id new ∙ w.1);
        others = was.others;
      })
      (at_end (set views p (record v { own = left })) (given v) u q h)
    where
      last : ℕ
      last = length (set views p (record v { own = left }))

      seat2 : ℕ → ℕ
      seat2 = with_at e.next last seat

live_blank : (v : PassView) → v.stage ≡ Live → v.stage ≢ Blank
live_blank v l b = blank_live v.stage b l

pub splits : (p : ℕ) (v : PassView) (end : ℕ) → v.stage ≡ Live → v.own.next < end → end ≤ v.own.end → Forks Ringed p v (kept_part end v) (given_part end v)
splits p v end live some_number inside items views h here =
    let r = running items views p v h here live in
    let d = r.dealt p v here live in
    let at = own_at r.cap r.book r.seat p v d in
    inr record {
      log = r.log;
      cap = r.cap;
      book = book2 r.log r.book r.keeper r.kept v.own at end some_number inside;
      keeper = keeper2 r.log r.book r.keeper r.kept v.own at end some_number inside;
      seat = with_at v.own.next (length (set views p (kept_part end v))) r.seat;
      stamps = r.stamps;
      legal = r.legal;
      legal_stamps = r.legal_stamps;
      alike = r.alike;
      kept = kept2 r.log r.book r.keeper r.kept v.own at end some_number inside;
      cuts_stamps = λ i. r.cuts_stamps i ∙ stamps2 r.log r.book r.keeper r.kept v.own at end some_number inside i;
      set_up = λ q u k. ⊎_elim (λ t. still_set_up views p v (kept_part end v) here refl r.set_up q u t)
          (λ t. subst (λ (w : PassView). w.stage ≢ Blank) t (live_blank (given_part end v) refl))
          (at_snoc (set views p (kept_part end v)) (given_part end v) u q k);
      dealt = dealt2 r.log r.book r.keeper r.kept v.own at end some_number inside r.cap r.seat p v views refl d.ready live here r.dealt;
    }

pub splits_at : (p : ℕ) (v u : PassView) (n end : ℕ) → v ≡ u → n ≡ end → v.stage ≡ Live → u.own.next < n → n ≤ u.own.end
    → Forks Ringed p v (kept_part end v) (given_part end v)
splits_at p v u n end e f live some_number inside =
    splits p v end live (rw (ap (λ (w : PassView). w.own.next) e, ← f) some_number) (rw (ap (λ (w : PassView). w.own.end) e, ← f) inside)
