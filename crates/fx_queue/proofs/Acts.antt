-- A put, a got, and what is learnt.
use Rattle.std.proofs.Common.{◌≡◌, ◌≢◌, ℕ, ◌<◌, ◌≤◌, List, [], ◌∷◌, ◌++◌, ◌⊎◌, inl, inr, ⊎_elim, length, Option, Some, refl, sym, ◌∙◌, ap, subst}
use Rattle.std.proofs.lemmas.Option.{none-some, same_Some}
use mathlib.Core.Logic.{dite}
use mathlib.Core.Option.{some}
use native.Mathlib.Decide.{ℕ_discrete}
use lib.ListN.{get_elem?, set}
use Rattle.crossbeam_queue.specs.Fifo.{Pushes, Pops, Learns}
use Rattle.std.proofs.lemmas.List.{length-map, map-append}
use Rattle.fx_term.specs.declared.item.Item.{Item}
use Rattle.fx_term.specs.Element.{Element, element_of, elements_of, stamp_of, stamps_of}
use Rattle.fx_term.specs.declared.queue_event.QueueEvent.{QueueEvent}
use Rattle.fx_term.specs.declared.queue_event.QueueEvent.TheVariants.{Put, Got}
use Rattle.fx_queue.specs.declared.entry.Entry.{Entry}
use Rattle.fx_queue.specs.declared.stage.Stage.TheVariants.{Live}
use Rattle.fx_queue.specs.declared.pass_view.PassView.{PassView}
use Rattle.fx_term.specs.Lists.{Among}
use Rattle.fx_term.specs.Maps.{with_at}
use Rattle.fx_term.specs.Queue.{cut, fiber_of, puts, Leaves, erase_event}
use Rattle.fx_queue.specs.History.{item, Begins}
use Rattle.fx_queue.specs.PassView.{with_act}
use Rattle.fx_queue.specs.Rule.{Book, acts_in, stamps_in, IsHanded, Kept, Dealt, Running, Ringed}
use Rattle.fx_queue.specs.Told.{DidPut, DidGet, stands}
use Rattle.fx_term.proofs.MapLaws.{at_that, at_other, at_cases}
use Rattle.fx_term.proofs.LeavesLaws.{leaves_put, leaves_got}
use Rattle.fx_queue.proofs.Histories.{cut-own, cut-other, Begins-more, Begins-all, Begins-trans, puts_alike, alike_more}
use Rattle.fx_queue.proofs.Views.{running, own_at, Root-grows, Handed-grows, own_dealt, still_set_up, tells}

module _ (log : List QueueEvent) (book : Book) (keeper : ℕ → Option ℕ) (kept : Kept log book keeper) (e : Entry) (at : book e.id
    ≡ Some e) (a b : QueueEvent) (own : fiber_of a ≡ e.id) where
  abbrev log' : List QueueEvent
  log' = log ++ a ∷ []

  abbrev acted : Entry
  acted = record e { acts = e.acts ++ a ∷ []; stamps = e.stamps ++ b ∷ []; seen = log' }

  abbrev book' : Book
  book' = with_at e.id (Some acted) book

  own_acts : cut e.id log ≡ e.acts
  own_acts = kept.cuts e.id ∙ ap acts_in at

  cases : (i : ℕ) (d : Entry) → book' i ≡ Some d → ((i ≡ e.id) × (acted ≡ d)) ⊎ ((i ≢ e.id) × (book i ≡ Some d))
  cases i d h = ⊎_elim (λ t. inl (t.0, same_Some acted d t.1)) inr (at_cases e.id (Some acted) book i (Some d) h)

  parts_grow : (f : ℕ) (d : Entry) → book f ≡ Some d → (d' : Entry) × (book' f ≡ Some d') × ((x : ℕ) → Among x d.parts → Among x d'.parts)
  parts_grow f d h = dite (ℕ_discrete f e.id)
      (λ y. (
        acted,
        at_that e.id (Some acted) book f y,
        (λ x k. subst (λ (u : Entry). Among x u.parts) (same_Some d e (sym h ∙ (ap book y ∙ at))) k),
      ))
      (λ n. (d, at_other e.id (Some acted) book f n ∙ h, λ x k. k))

  began_stays : (f : ℕ) (d : Entry) → book f ≡ Some d → (d' : Entry) × (book' f ≡ Some d') × (d'.began ≡ d.began)
  began_stays f d h = dite (ℕ_discrete f e.id)
      (λ y. (acted, at_that e.id (Some acted) book f y, ap (λ (u : Entry). u.began) (same_Some e d (sym at ∙ (ap book (sym y) ∙ h)))))
      (λ n. (d, at_other e.id (Some acted) book f n ∙ h, refl))

  -- the history with stamps
  pub acted_stamps : (stamps : List QueueEvent) → fiber_of b ≡ e.id → ((i : ℕ) → cut i stamps ≡ stamps_in (book i))
      → (i : ℕ) → cut i (stamps ++ b ∷ []) ≡ stamps_in (book' i)
  acted_stamps stamps own_b cuts i = dite (ℕ_discrete i e.id)
      (λ y. ap (λ (k : ℕ). cut k (stamps ++ b ∷ [])) y ∙ (cut-own e.id stamps b own_b ∙ (ap (λ l. l ++ b ∷ []) (cuts e.id ∙ ap stamps_in at)
      ∙ sym (ap stamps_in (at_that e.id (Some acted) book i y)))))
      (λ n. cut-other i stamps b (λ z. n (sym z ∙ own_b)) ∙ (cuts i ∙ sym (ap stamps_in (at_other e.id (Some acted) book i n))))

  pub acted_kept : Kept log' book' keeper
  acted_kept = record {
    named = λ i d h. ⊎_elim (λ t. sym (ap (λ (u : Entry). u.id) t.1) ∙ sym t.0) (λ t. kept.named i d t.1) (cases i d h);
    cuts = λ i. dite (ℕ_discrete i e.id)
        (λ y. ap (λ (k : ℕ). cut k log') y ∙ (cut-own e.id log a own ∙ (ap (λ l. l ++ a ∷ []) own_acts
        ∙ sym (ap acts_in (at_that e.id (Some acted) book i y)))))
        (λ n. cut-other i log a (λ z. n (sym z ∙ own)) ∙ (kept.cuts i ∙ sym (ap acts_in (at_other e.id (Some acted) book i n))));
    begins = λ i d h. ⊎_elim (λ t. subst (λ (u : Entry). Begins log' u.seen) t.1 (Begins-all log'))
        (λ t. Begins-more log d.seen _ (kept.begins i d t.1)) (cases i d h);
    aware = λ i d h. ⊎_elim (λ t. subst (λ (u : Entry). cut u.id u.seen ≡ u.acts) t.1 (cut-own e.id log a own ∙ ap (λ l. l ++ a ∷ []) own_acts))
        (λ t. kept.aware i d t.1) (cases i d h);
    above = λ i d h. ⊎_elim (λ t. subst (λ (u : Entry). u.id < u.next) t.1 (kept.above e.id e at)) (λ t. kept.above i d t.1) (cases i d h);
    range = λ i d h. ⊎_elim (λ t. subst (λ (u : Entry). (j : ℕ) → u.next ≤ j → j < u.end → keeper j ≡ Some u.id) t.1 (kept.range e.id e at))
        (λ t. kept.range i d t.1) (cases i d h);
    free = λ i f h. let none = kept.free i f h in at_other e.id (Some acted) book i (λ y. none-some e (sym none ∙ (ap book y ∙ at))) ∙ none;
    rooted = λ i d h. Root-grows book book' i parts_grow (⊎_elim (λ t. kept.rooted i e (ap book t.0 ∙ at)) (λ t. kept.rooted i d t.1) (cases i d h));
    begun = λ i d h. ⊎_elim
        (λ t. subst (λ (u : Entry). Begins u.seen u.began) t.1
        (Begins-trans log' e.seen e.began (Begins-more log e.seen _ (kept.begins e.id e at)) (kept.begun e.id e at)))
        (λ t. kept.begun i d t.1) (cases i d h);
    handed = λ i d h x k. ⊎_elim
        (λ t. subst (λ (u : Entry). Among x u.handed → IsHanded book' u x) t.1
        (λ m. Handed-grows book book' e acted x began_stays refl (kept.handed e.id e at x m)) k)
        (λ t. Handed-grows book book' d d x began_stays refl (kept.handed i d t.1 x k)) (cases i d h);
  }

module _ (items more : List Item) (views : List PassView) (r : Running items views) (p : ℕ) (v : PassView) (here : get_elem? views p
    ≡ some v) (live : v.stage ≡ Live) (a b : QueueEvent) (own : fiber_of a ≡ v.own.id) (own_b : fiber_of b ≡ v.own.id)
    (same : erase_event a ≡ erase_event b) (legal : Leaves r.cap (r.log ++ a ∷ []) (elements_of more))
    (legal_stamps : Leaves r.cap (r.stamps ++ b ∷ []) (stamps_of more)) where
  mine : Dealt r.cap r.book r.seat p v
  mine = r.dealt p v here live

  at : r.book v.own.id ≡ Some v.own
  at = own_at r.cap r.book r.seat p v mine

  pub acts : Running more (set views p (with_act v r.log a b))
  acts = record {
    log = r.log ++ a ∷ [];
    cap = r.cap;
    book = with_at v.own.id (Some (with_act v r.log a b).own) r.book;
    keeper = r.keeper;
    seat = r.seat;
    stamps = r.stamps ++ b ∷ [];
    legal = legal;
    legal_stamps = legal_stamps;
    alike = alike_more r.log r.stamps a b r.alike same;
    kept = acted_kept r.log r.book r.keeper r.kept v.own at a b own;
    cuts_stamps = acted_stamps r.log r.book r.keeper r.kept v.own at a b own r.stamps own_b r.cuts_stamps;
    set_up = still_set_up views p v (with_act v r.log a b) here refl r.set_up;
    dealt = own_dealt r.cap r.book v.own (with_act v r.log a b).own refl refl r.seat p v views refl live here r.dealt;
  }

pub pushes : (p : ℕ) (v : PassView) (x : Item) → v.stage ≡ Live → x.fiber ≡ v.own.id → x.nth ≡ puts v.own.acts
    → Pushes Ringed v.cap p v x (DidPut v x.value x.stamp)
pushes p v x live whose which items views room h here =
    let r = running items views p v h here live in
    let d = r.dealt p v here live in
    let known = tells items views r p v here live in
    let a = Put v.own.id x.value in
    let b = Put v.own.id x.stamp in
    let count : puts (cut v.own.id r.log) ≡ puts v.own.acts = ap puts (known.cuts v.own (inl refl)) in
    let count' : puts (cut v.own.id r.stamps) ≡ puts v.own.acts = sym (puts_alike v.own.id r.log r.stamps r.alike) ∙ count in
    let same : item v.own.id (puts (cut v.own.id r.log)) x.value ≡ element_of x = λ i. item (sym whose i) ((count ∙ sym which) i) x.value in
    let same' : item v.own.id (puts (cut v.own.id r.stamps)) x.stamp ≡ stamp_of x = λ i. item (sym whose i) ((count' ∙ sym which) i) x.stamp in
    let named : item v.own.id (puts v.own.acts) x.value ≡ element_of x = λ i. item (sym whose i) (sym which i) x.value in
    let level : length (elements_of items) < r.cap =
    subst (λ (k : ℕ). k < r.cap) (sym (length-map items element_of)) (subst (λ (k : ℕ). length items < k) d.ready room) in
    let level' : length (stamps_of items) < r.cap =
    subst (λ (k : ℕ). k < r.cap) (sym (length-map items stamp_of)) (subst (λ (k : ℕ). length items < k) d.ready room) in
    let put : Leaves r.cap (r.log ++ a ∷ []) (elements_of items ++ element_of x ∷ []) =
    subst (λ (y : Element). Leaves r.cap (r.log ++ a ∷ []) (elements_of items ++ y ∷ [])) same
    (leaves_put r.cap r.log (elements_of items) v.own.id x.value r.legal level) in
    let put' : Leaves r.cap (r.stamps ++ b ∷ []) (stamps_of items ++ stamp_of x ∷ []) =
    subst (λ (y : Element). Leaves r.cap (r.stamps ++ b ∷ []) (stamps_of items ++ y ∷ [])) same'
    (leaves_put r.cap r.stamps (stamps_of items) v.own.id x.stamp r.legal_stamps level') in
    let legal : Leaves r.cap (r.log ++ a ∷ []) (elements_of (items ++ x ∷ [])) =
    subst (Leaves r.cap (r.log ++ a ∷ [])) (sym (map-append element_of items (x ∷ []))) put in
    let legal' : Leaves r.cap (r.stamps ++ b ∷ []) (stamps_of (items ++ x ∷ [])) =
    subst (Leaves r.cap (r.stamps ++ b ∷ [])) (sym (map-append stamp_of items (x ∷ []))) put' in
    let after : Leaves v.cap (r.log ++ a ∷ []) (elements_of items ++ item v.own.id (puts v.own.acts) x.value ∷ []) =
    subst (λ (y : Element). Leaves v.cap (r.log ++ a ∷ []) (elements_of items ++ y ∷ [])) (sym named)
    (subst (λ (k : ℕ). Leaves k (r.log ++ a ∷ []) (elements_of items ++ element_of x ∷ [])) (sym d.ready) put) in (
      with_act v r.log a b,
      inr (acts items (items ++ x ∷ []) views r p v here live a b refl refl refl legal legal'),
      record { log = r.log; items = items; before = known; room = room; after = after; is = refl },
    )

pub pops : (p : ℕ) (v : PassView) → v.stage ≡ Live → Pops Ringed p v (λ x w. DidGet v x w)
unfolding tells
pops p v live x items views h here =
    let r = running (x ∷ items) views p v h here live in
    let d = r.dealt p v here live in
    let a = Got v.own.id x.value in
    let b = Got v.own.id x.stamp in
    let legal : Leaves r.cap (r.log ++ a ∷ []) (elements_of items) = leaves_got r.cap r.log (element_of x) (elements_of items) v.own.id r.legal in
    let legal' : Leaves r.cap (r.stamps ++ b ∷ []) (stamps_of items) = leaves_got r.cap r.stamps (stamp_of x) (stamps_of items) v.own.id r.legal_stamps in (
      with_act v r.log a b,
      inr (acts (x ∷ items) items views r p v here live a b refl refl refl legal legal'),
      record {
        log = r.log;
        items = items;
        before = tells (x ∷ items) views r p v here live;
        after = subst (λ (k : ℕ). Leaves k (r.log ++ a ∷ []) (elements_of items)) (sym d.ready) legal;
        after_stamps = subst (λ (k : ℕ). Leaves k (r.stamps ++ b ∷ []) (stamps_of items)) (sym d.ready) legal';
        is = refl;
      },
    )

pub learns : (p : ℕ) (v : PassView) → v.stage ≡ Live → Learns Ringed p v (stands v)
learns p v live items views h here =
    let r = running items views p v h here live in (r.log, tells items views r p v here live)

-- the same at a capacity and a pass that are known by equations
pub pushes_at : (n p : ℕ) (v : PassView) (x : Item) → v.cap ≡ n → v.stage ≡ Live → x.fiber ≡ v.own.id → x.nth ≡ puts v.own.acts
    → Pushes Ringed n p v x (DidPut v x.value x.stamp)
pushes_at n p v x e live whose which = subst (λ (k : ℕ). Pushes Ringed k p v x (DidPut v x.value x.stamp)) e (pushes p v x live whose which)
