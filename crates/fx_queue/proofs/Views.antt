-- Views of a running ring, and what they tell.
use Rattle.std.proofs.Common.{◌≡◌, ◌≢◌, ℕ, ◌<◌, ◌≤◌, List, [], ◌∷◌, inl, inr, ⊎_elim, Option, Some, None, refl, sym, ◌∙◌, ap, subst, arith, zero, suc}
use Rattle.std.proofs.lemmas.Option.{same_Some}
use mathlib.Core.Option.{some, some-injective, some-ne-none}
use lib.ListN.{get_elem?, set}
use Rattle.crossbeam_queue.proofs.Lists.{at_set}
use Rattle.fx_term.specs.declared.item.Item.{Item}
use Rattle.fx_term.specs.declared.queue_event.QueueEvent.{QueueEvent}
use Rattle.fx_queue.specs.declared.entry.Entry.{Entry}
use Rattle.fx_queue.specs.declared.entry.Handed.{Handed}
use Rattle.fx_queue.specs.declared.stage.Stage.{Stage}
use Rattle.fx_queue.specs.declared.stage.Stage.TheVariants.{Blank, Live, Spent}
use Rattle.fx_queue.specs.declared.pass_view.PassView.{PassView}
use Rattle.fx_term.specs.Lists.{Among}
use Rattle.fx_term.specs.Maps.{with_at}
use Rattle.fx_term.specs.Element.{elements_of, stamps_of}
use Rattle.fx_term.specs.Queue.{cut, Leaves}
use Rattle.fx_queue.specs.PassView.{blank_view, In, IsWhole, IsOnlyOf}
use Rattle.fx_queue.specs.History.{Begins}
use Rattle.fx_queue.specs.Rule.{Book, acts_in, stamps_in, Root, IsHanded, Kept, IsBelow, Dealt, Running, Ringed}
use Rattle.fx_queue.specs.Told.{IsHandedOn, Tells}
use Rattle.fx_term.proofs.MapLaws.{at_that, at_other, at_cases}
use Rattle.fx_queue.proofs.Histories.{all_own}

pub blank_live : {P : Type 0} (s : Stage) → s ≡ Blank → s ≡ Live → P
blank_live s b l = let t : Blank ≡ Live = sym b ∙ l in let z : ⊥ = cc in absurd z

pub spent_live : {P : Type 0} (s : Stage) → s ≡ Spent → s ≡ Live → P
spent_live s b l = let t : Spent ≡ Live = sym b ∙ l in let z : ⊥ = cc in absurd z

pub only_blank : (p : ℕ) (v : PassView) → get_elem? (blank_view ∷ []) p ≡ some v → (p ≡ 0) × (blank_view ≡ v)
only_blank zero v h = (refl, some-injective blank_view v h)
only_blank (suc p) v h = absurd (some-ne-none v (sym h))

-- beside a live pass the ring is running
pub running : (items : List Item) (views : List PassView) (p : ℕ) (v : PassView) → Ringed items views → get_elem? views p ≡ some v → v.stage ≡ Live
    → Running items views
running items views p v h at live = ⊎_elim
    (λ t. blank_live v.stage (sym (ap (λ (u : PassView). u.stage) (only_blank p v (subst (λ (l : List PassView). get_elem? l p ≡ some v) t.1 at)).1)) live)
    (λ r. r) h

pub own_at : (cap : ℕ) (book : Book) (seat : ℕ → ℕ) (p : ℕ) (v : PassView) → Dealt cap book seat p v → book v.own.id ≡ Some v.own
own_at cap book seat p v d = (d.here v.own (inl refl)).0

pub Root-grows : (book book' : Book) (i : ℕ)
    → ((f : ℕ) (d : Entry) → book f ≡ Some d → (d' : Entry) × (book' f ≡ Some d') × ((x : ℕ) → Among x d.parts → Among x d'.parts))
    → Root book i → Root book' i
Root-grows book book' i g r = ⊎_elim inl (λ t. let w = g t.0 t.1 t.3 in inr (t.0, w.0, t.2, w.1, w.2 i t.4)) r

pub Handed-grows : (book book' : Book) (d d' : Entry) (h : Handed)
    → ((f : ℕ) (e : Entry) → book f ≡ Some e → (e' : Entry) × (book' f ≡ Some e') × (e'.began ≡ e.began))
    → d'.began ≡ d.began → IsHanded book d h → IsHanded book' d' h
Handed-grows book book' d d' h g same t =
    let w = g h.id t.0 t.1 in
    (w.0, w.1, w.2 ∙ t.2, subst (λ (l : List QueueEvent). Begins h.seen l) (sym same) t.3)

-- each view after a step on the own entry has its entries
module _ (cap : ℕ) (book : Book) (e e' : Entry) (same_id : e'.id ≡ e.id) (same_end : e'.end ≡ e.end) where
  still_below : (n : ℕ) → book e.id ≡ Some e → IsBelow n book → IsBelow n (with_at e.id (Some e') book)
  still_below n at all i d h = ⊎_elim
      (λ t.
      let was = all e.id e at in
      let id = same_id in
      let end = same_end in
      subst (λ (u : Entry). (u.id < n) × (u.end ≤ n)) (same_Some e' d t.1)
      ((let lt = was.0 in omega (arith, lt, id)), (let le = was.1 in omega (arith, le, end))))
      (λ t. all i d t.1) (at_cases e.id (Some e') book i (Some d) h)

  pub own_dealt : (seat : ℕ → ℕ) (p : ℕ) (v : PassView) (views : List PassView) → v.own ≡ e → v.stage ≡ Live → get_elem? views p ≡ some v
      → ((q : ℕ) (u : PassView) → get_elem? views q ≡ some u → u.stage ≡ Live → Dealt cap book seat q u)
      → (q : ℕ) (u : PassView) → get_elem? (set views p (record v { own = e' })) q ≡ some u → u.stage ≡ Live → Dealt cap (with_at e.id (Some e') book) seat q u
  own_dealt seat p v views own live here all q u h open_ = ⊎_elim
      (λ t. subst (λ (w : PassView). Dealt cap (with_at e.id (Some e') book) seat q w) t.1 (mine t.0))
      (λ t. theirs t.0 (all q u t.1 open_)) (at_set views p q (record v { own = e' }) u h)
    where
      was : Dealt cap book seat p v
      was = all p v here live

      seat_own : seat e.id ≡ p
      seat_own = (subst (λ (d : Entry). (book d.id ≡ Some d) × (seat d.id ≡ p)) own (was.here v.own (inl refl))).1

      at : book e.id ≡ Some e
      at = subst (λ (d : Entry). book d.id ≡ Some d) own (was.here v.own (inl refl)).0

      mine : q ≡ p → Dealt cap (with_at e.id (Some e') book) seat q (record v { own = e' })
      mine y = record {
        ready = was.ready;
        below = still_below v.fibers at was.below;
        here = λ d k. ⊎_elim
            (λ s. (
              ap (with_at e.id (Some e') book) (ap (λ (u : Entry). u.id) s ∙ same_id) ∙ (at_that e.id (Some e') book e.id refl ∙ ap Some (sym s)),
              ap seat (ap (λ (u : Entry). u.id) s ∙ same_id) ∙ (seat_own ∙ sym y),
            ))
            (λ s. let w = was.here d (inr s) in
            (at_other e.id (Some e') book d.id (λ z. was.others d s (z ∙ sym (ap (λ (u : Entry). u.id) own))) ∙ w.0, w.1 ∙ sym y)) k;
        others = λ d k z. was.others d k (z ∙ (same_id ∙ sym (ap (λ (u : Entry). u.id) own)));
      }

      theirs : q ≢ p → Dealt cap book seat q u → Dealt cap (with_at e.id (Some e') book) seat q u
      theirs m w = record {
        ready = w.ready;
        below = still_below u.fibers at w.below;
        here = λ d k. let t = w.here d k in
            (at_other e.id (Some e') book d.id (λ z. m (sym t.1 ∙ (ap seat z ∙ seat_own))) ∙ t.0, t.1);
        others = w.others;
      }

-- no view becomes blank
pub still_set_up : (views : List PassView) (p : ℕ) (v w : PassView) → get_elem? views p ≡ some v → w.stage ≡ v.stage
    → ((q : ℕ) (u : PassView) → get_elem? views q ≡ some u → u.stage ≢ Blank)
    → (q : ℕ) (u : PassView) → get_elem? (set views p w) q ≡ some u → u.stage ≢ Blank
still_set_up views p v w here same all q u h = ⊎_elim
    (λ t z. all p v here (sym same ∙ (ap (λ (x : PassView). x.stage) t.1 ∙ z)))
    (λ t. all q u t.1) (at_set views p q w u h)

-- each entry of the book is in the view of a first pass that has taken in all
module _ (log : List QueueEvent) (cap : ℕ) (book : Book) (keeper : ℕ → Option ℕ) (kept : Kept log book keeper)
    (seat : ℕ → ℕ) (p : ℕ) (v : PassView) (dealt : Dealt cap book seat p v) (whole : IsWhole v) where
  root : (i : ℕ) (e : Entry) → i ≡ 0 → book i ≡ Some e → In e v
  root i e z h = let t = (dealt.here v.own (inl refl)).0 in inl (same_Some e v.own (sym h ∙ (ap book (z ∙ sym whole.0) ∙ t)))

  child : (i : ℕ) (e d : Entry) → In d v → Among i d.parts → book i ≡ Some e → In e v
  child i e d k m h = let t = whole.1 d k i m in
      subst (λ (x : Entry). In x v) (same_Some t.0 e (sym (dealt.here t.0 t.1).0 ∙ (ap book t.2 ∙ h))) t.1

  within : (bound i : ℕ) → i < bound → (e : Entry) → book i ≡ Some e → In e v
  within zero i lt e h = absurd (omega (arith, lt))
  within (suc bound) i lt e h = ⊎_elim (λ z. root i e z h)
      (λ t. let less = t.2 in child i e t.1 (within bound t.0 (omega (arith, lt, less)) t.1 t.3) t.4 h) (kept.rooted i e h)

  pub every : (i : ℕ) (e : Entry) → book i ≡ Some e → In e v
  every i e h = within (suc i) i (omega arith) e h

  none_there : (f : ℕ) (m : Option Entry) → book f ≡ m → ((e : Entry) → In e v → e.id ≢ f) → acts_in m ≡ []
  none_there f None at n = refl
  none_there f (Some d) at n = absurd (n d (every f d at) (kept.named f d at))

  pub only : IsOnlyOf v log
  only f n = kept.cuts f ∙ none_there f (book f) refl n

-- no number but that of a fiber in the book has events
pub none_above : (n f : ℕ) (log : List QueueEvent) (book : Book) (keeper : ℕ → Option ℕ) → Kept log book keeper → IsBelow n book → n ≤ f → cut f log ≡ []
none_above n f log book keeper kept below le = kept.cuts f ∙ by_entry (book f) refl
  where
    by_entry : (m : Option Entry) → book f ≡ m → acts_in m ≡ []
    by_entry None at = refl
    by_entry (Some d) at = (let lt = (below f d at).0 in let named = kept.named f d at in absurd (omega (arith, lt, named, le)))

-- nor has one of a fiber that was not started
pub none_unborn : (log : List QueueEvent) (book : Book) (keeper : ℕ → Option ℕ) → Kept log book keeper → (e : Entry) → book e.id ≡ Some e
    → (f : ℕ) → e.next ≤ f → f < e.end → cut f log ≡ []
none_unborn log book keeper kept e at f le lt = kept.cuts f ∙ ap acts_in (kept.free f e.id (kept.range e.id e at f le lt))

-- what a pass in the book was handed
pub handed_on : (log : List QueueEvent) (book : Book) (keeper : ℕ → Option ℕ) → Kept log book keeper → (d e : Entry) → book d.id ≡ Some d → book e.id ≡ Some e
    → IsHandedOn d e
handed_on log book keeper kept d e at there h m same =
    let t = kept.handed d.id d at h m in
    (subst (λ (x : Entry). x.began ≡ h.seen) (same_Some t.0 e (sym t.1 ∙ (ap book same ∙ there))) t.2, t.3)

unfoldable pub tells : (items : List Item) (views : List PassView) (r : Running items views) (p : ℕ) (v : PassView) → get_elem? views p ≡ some v
    → v.stage ≡ Live → Tells v r.log items
tells items views r p v at live =
    let d = r.dealt p v at live in
    record {
      stamps = r.stamps;
      legal = subst (λ (k : ℕ). Leaves k r.log (elements_of items)) (sym d.ready) r.legal;
      legal_stamps = subst (λ (k : ℕ). Leaves k r.stamps (stamps_of items)) (sym d.ready) r.legal_stamps;
      alike = r.alike;
      begins = λ e k. r.kept.begins e.id e (d.here e k).0;
      cuts = λ e k. r.kept.cuts e.id ∙ ap acts_in (d.here e k).0;
      cuts_stamps = λ e k. r.cuts_stamps e.id ∙ ap stamps_in (d.here e k).0;
      aware = λ e k. r.kept.aware e.id e (d.here e k).0;
      apart = d.others;
      only = λ whole. only r.log r.cap r.book r.keeper r.kept r.seat p v d whole;
      within = λ f le. none_above v.fibers f r.log r.book r.keeper r.kept d.below le;
      above = r.kept.above v.own.id v.own (d.here v.own (inl refl)).0;
      unborn = λ f le lt. none_unborn r.log r.book r.keeper r.kept v.own (d.here v.own (inl refl)).0 f le lt;
      begun = λ e k. r.kept.begun e.id e (d.here e k).0;
      handed = λ e x k j h m same. handed_on r.log r.book r.keeper r.kept e x (d.here e k).0 (d.here x j).0 h m same;
    }

-- the history of a first pass that split off and took in none is its own list
pub lone : (v : PassView) (log : List QueueEvent) (items : List Item) → Tells v log items → v.own.id ≡ 0 → v.own.parts ≡ [] → v.taken ≡ [] → log ≡ v.own.acts
lone v log items t zero_ parts taken =
    let mine : (e : Entry) → In e v → e ≡ v.own = λ e k. ⊎_elim (λ s. s) (λ s. absurd (subst (λ (l : List Entry). Among e l) taken s)) k in
    let whole : IsWhole v = (zero_, λ e k i m. absurd (subst (λ (l : List ℕ). Among i l) (ap (λ (u : Entry). u.parts) (mine e k) ∙ parts) m)) in
    all_own v.own.id log (λ g n. t.only whole g (λ e k z. n (sym (ap (λ (u : Entry). u.id) (mine e k)) ∙ z)))
    ∙ t.cuts v.own (inl refl)
