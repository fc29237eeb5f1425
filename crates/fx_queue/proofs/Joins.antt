-- A pass takes another in.
use Rattle.std.proofs.Common.{◌≡◌, ◌≢◌, ℕ, List, ◌⊎◌, inl, inr, ⊎_elim, refl, sym, ◌∙◌, ap, subst}
use mathlib.Core.Option.{some}
use native.Mathlib.Decide.{ℕ_discrete}
use lib.ListN.{get_elem?, set}
use Rattle.crossbeam_queue.specs.Fifo.{Merges}
use Rattle.crossbeam_queue.proofs.Lists.{at_set}
use Rattle.fx_queue.specs.declared.entry.Entry.{Entry}
use Rattle.fx_queue.specs.declared.stage.Stage.TheVariants.{Blank, Live, Spent}
use Rattle.fx_queue.specs.declared.pass_view.PassView.{PassView}
use Rattle.fx_queue.specs.PassView.{nobody_view, In, entries, joined}
use Rattle.fx_queue.specs.Rule.{Book, Dealt, Ringed}
use Rattle.fx_term.proofs.ListLaws.{Among-append}
use Rattle.fx_term.proofs.MapLaws.{pick, pick_yes, pick_no}
use Rattle.fx_queue.proofs.Views.{spent_live, running, still_set_up}

module _ (cap : ℕ) (book : Book) (seat : ℕ → ℕ) (p q : ℕ) (v w : PassView) (ne : q ≢ p) where
  moved : ℕ → ℕ
  moved i = pick (ℕ_discrete (seat i) q) p (seat i)

  moved_here : (i : ℕ) → seat i ≡ q → moved i ≡ p
  unfolding moved
  moved_here i h = pick_yes (ℕ_discrete (seat i) q) _ _ h

  moved_else : (i : ℕ) → seat i ≢ q → moved i ≡ seat i
  unfolding moved
  moved_else i h = pick_no (ℕ_discrete (seat i) q) _ _ h

  cases : (d : Entry) → In d (joined v w) → In d v ⊎ In d w
  cases d k = ⊎_elim (λ y. inl (inl y))
      (λ t. ⊎_elim (λ y. inr y) (λ y. inl (inr y)) (Among-append (entries w) v.taken d t)) k

  both_dealt : Dealt cap book seat p v → Dealt cap book seat q w → Dealt cap book moved p (joined v w)
  both_dealt dv dw = record {
    ready = dv.ready;
    below = dv.below;
    here = λ d k. ⊎_elim
        (λ y. let t = dv.here d y in (t.0, moved_else d.id (λ z. ne (sym z ∙ t.1)) ∙ t.1))
        (λ y. let t = dw.here d y in (t.0, moved_here d.id t.1)) (cases d k);
    others = λ d k z. ⊎_elim
        (λ y. ne (sym (dw.here d y).1 ∙ (ap seat z ∙ (dv.here v.own (inl refl)).1)))
        (λ y. dv.others d y z) (Among-append (entries w) v.taken d k);
  }

  rest_dealt : (r : ℕ) (u : PassView) → r ≢ q → Dealt cap book seat r u → Dealt cap book moved r u
  rest_dealt r u other d = record {
    ready = d.ready;
    below = d.below;
    here = λ e k. let t = d.here e k in (
      t.0,
      moved_else e.id (λ z. other (sym t.1 ∙ z))
          ∙ t.1,
    );
    others = d.others;
  }

  all_dealt : (views : List PassView) → v.stage ≡ Live → w.stage ≡ Live → get_elem? views p ≡ some v → get_elem? views q ≡ some w
      → ((r : ℕ) (u : PassView) → get_elem? views r ≡ some u → u.stage ≡ Live → Dealt cap book seat r u)
      → (r : ℕ) (u : PassView) → get_elem? (set (set views p (joined v w)) q nobody_view) r ≡ some u → u.stage ≡ Live → Dealt cap book moved r u
  all_dealt views lv lw hv hw all r u h o = ⊎_elim
      (λ t. spent_live u.stage (sym (ap (λ (x : PassView). x.stage) t.1)) o)
      (λ t. ⊎_elim
      (λ s. subst (λ (x : PassView). Dealt cap book moved r x) s.1 (subst (λ (k : ℕ). Dealt cap book moved k (joined v w)) (sym s.0) (both_dealt (all
      p v hv lv) (all q w hw lw))))
      (λ s. rest_dealt r u t.0 (all r u s.1 o))
      (at_set views p r (joined v w) u t.1))
      (at_set (set views p (joined v w)) q r nobody_view u h)

spent_blank : (s : ⊥ → ⊥) → nobody_view.stage ≢ Blank
spent_blank s b = let t : Spent ≡ Blank = b in let z : ⊥ = cc in z

pub joins : (p q : ℕ) (v w : PassView) → v.stage ≡ Live → w.stage ≡ Live → Merges Ringed p v q w (joined v w) nobody_view
joins p q v w lv lw items views h hv ne hw' =
    let hw : get_elem? views q ≡ some w = ⊎_elim (λ t. absurd (ne t.0)) (λ t. t.1) (at_set views p q (joined v w) w hw') in
    let r = running items views p v h hv lv in
    inr record {
      log = r.log;
      cap = r.cap;
      book = r.book;
      keeper = r.keeper;
      seat = moved r.cap r.book r.seat p q v w ne;
      stamps = r.stamps;
      legal = r.legal;
      legal_stamps = r.legal_stamps;
      alike = r.alike;
      kept = r.kept;
      cuts_stamps = r.cuts_stamps;
      set_up = λ k u y. ⊎_elim
          (λ t. subst (λ (x : PassView). x.stage ≢ Blank) t.1 (spent_blank (λ z. z)))
          (λ t. still_set_up views p v (joined v w) hv refl r.set_up k u t.1)
          (at_set (set views p (joined v w)) q k nobody_view u y);
      dealt = all_dealt r.cap r.book r.seat p q v w ne views lv lw hv hw r.dealt;
    }
