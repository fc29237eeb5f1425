-- The queue at the start, and how it gets its capacity and its first pass.
use Rattle.std.proofs.Common.{◌≡◌, ◌≢◌, ℕ, ◌<◌, ◌≤◌, List, [], ◌∷◌, ◌++◌, ◌⊎◌, inl, inr, ⊎_elim, Option, Some, None, refl, sym, ◌∙◌, ap, subst, arith}
use Rattle.std.proofs.lemmas.Option.{none-some, same_Some}
use mathlib.Core.Logic.{dite}
use mathlib.Core.Option.{some}
use native.Mathlib.Decide.{ℕ_discrete, dec_lt}
use lib.ListN.{get_elem?, set}
use Rattle.crossbeam_queue.specs.Fifo.{Forks}
use Rattle.crossbeam_queue.proofs.Lists.{at_set, at_snoc}
use Rattle.fx_term.specs.declared.item.Item.{Item}
use Rattle.fx_queue.specs.declared.entry.Entry.{Entry}
use Rattle.fx_queue.specs.declared.stage.Stage.TheVariants.{Blank, Live, Spent}
use Rattle.fx_queue.specs.declared.pass_view.PassView.{PassView}
use Rattle.fx_term.specs.Lists.{Among}
use Rattle.fx_term.specs.Maps.{with_at}
use Rattle.fx_term.specs.Element.{elements_of, stamps_of}
use Rattle.fx_term.specs.Queue.{cut, Leaves}
use Rattle.fx_queue.specs.Entry.{new_entry}
use Rattle.fx_queue.specs.History.{Begins}
use Rattle.fx_queue.specs.PassView.{blank_view, first_view, nobody_view}
use Rattle.fx_queue.specs.Rule.{Book, acts_in, stamps_in, Kept, Dealt, Ringed}
use Rattle.fx_term.proofs.MapLaws.{at_that, at_other, at_cases, pick, pick_yes, pick_no}
use Rattle.fx_term.proofs.LeavesLaws.{leaves_nothing}
use Rattle.fx_queue.proofs.Views.{spent_live, only_blank}

pub opens : Ringed [] (blank_view ∷ [])
opens = inl (refl, refl)

module _ (cap n : ℕ) where
  abbrev first : Entry
  first = new_entry 0 1 n []

  abbrev nobody : Book
  nobody = λ _. None

  abbrev opens_book : Book
  opens_book = with_at 0 (Some first) nobody

  opens_keeper : ℕ → Option ℕ
  opens_keeper i = pick (dec_lt 0 i) (pick (dec_lt i n) (Some 0) None) None

  keeps_in : (i : ℕ) → 0 < i → i < n → opens_keeper i ≡ Some 0
  unfolding opens_keeper
  keeps_in i a b = pick_yes (dec_lt 0 i) _ _ a ∙ pick_yes (dec_lt i n) _ _ b

  keeps_only : (i f : ℕ) → opens_keeper i ≡ Some f → 0 < i
  unfolding opens_keeper
  keeps_only i f h = dite (dec_lt 0 i) (λ a. a)
      (λ na. absurd (none-some f (sym (pick_no (dec_lt 0 i) (pick (dec_lt i n) (Some 0) None) None na) ∙ h)))

  only : (i : ℕ) (d : Entry) → opens_book i ≡ Some d → (i ≡ 0) × (first ≡ d)
  only i d h = ⊎_elim (λ t. (t.0, same_Some first d t.1)) (λ t. absurd (none-some d t.1)) (at_cases 0 (Some first) nobody i (Some d) h)

  no_acts : (i : ℕ) → acts_in (opens_book i) ≡ []
  no_acts i = dite (ℕ_discrete i 0) (λ y. ap acts_in (at_that 0 (Some first) nobody i y)) (λ m. ap acts_in (at_other 0 (Some first) nobody i m))

  no_stamps : (i : ℕ) → stamps_in (opens_book i) ≡ []
  no_stamps i = dite (ℕ_discrete i 0) (λ y. ap stamps_in (at_that 0 (Some first) nobody i y)) (λ m. ap stamps_in (at_other 0 (Some first) nobody i m))

  opens_kept : Kept [] opens_book opens_keeper
  opens_kept = record {
    named = λ i d h. let t = only i d h in sym (ap (λ (u : Entry). u.id) t.1) ∙ sym t.0;
    cuts = λ i. sym (no_acts i);
    begins = λ i d h. subst (λ (u : Entry). Begins [] u.seen) (only i d h).1 ([], refl);
    aware = λ i d h. subst (λ (u : Entry). cut u.id u.seen ≡ u.acts) (only i d h).1 refl;
    above = λ i d h. subst (λ (u : Entry). u.id < u.next) (only i d h).1 (omega arith);
    range = λ i d h. subst (λ (u : Entry). (j : ℕ) → u.next ≤ j → j < u.end
        → opens_keeper j ≡ Some u.id) (only i d h).1 (λ j a c. keeps_in j (omega (arith, a)) c);
    free = λ i f h. at_other 0 (Some first) nobody i (λ y. let a = keeps_only i f h in omega (arith, y, a));
    rooted = λ i d h. inl (only i d h).0;
    begun = λ i d h. subst (λ (u : Entry). Begins u.seen u.began) (only i d h).1 ([], refl);
    handed = λ i d h x k. absurd (subst (λ (u : Entry). Among x u.handed) (sym (only i d h).1) k);
  }

  opens_dealt : 0 < n → (p q : ℕ) (v : PassView) → q ≡ p → first_view cap n ≡ v → Dealt cap opens_book (λ _. p) q v
  opens_dealt some_fiber p q v y e = subst (λ (w : PassView). Dealt cap opens_book (λ _. p) q w) e record {
    ready = refl;
    below = λ i d h. subst (λ (u : Entry). (u.id < n) × (u.end ≤ n)) (only i d h).1 (some_fiber, omega arith);
    here = λ d k. ⊎_elim (λ z. (
      ap opens_book (ap (λ (u : Entry). u.id) z) ∙ (at_that 0 (Some first) nobody 0 refl
          ∙ ap Some (sym z)),
      sym y,
    )) (λ z. absurd z) k;
    others = λ d k. absurd k;
  }

first_blank : (cap n : ℕ) → (first_view cap n).stage ≢ Blank
first_blank cap n b = let t : Live ≡ Blank = b in let z : ⊥ = cc in z

none_blank : (n : ℕ) → nobody_view.stage ≢ Blank
none_blank n b = let t : Spent ≡ Blank = b in let z : ⊥ = cc in z

-- the blank pass, which is alone, becomes the first
pub sets_up : (p cap n : ℕ) → 0 < n → Forks Ringed p blank_view (first_view cap n) nobody_view
sets_up p cap n some_fiber items views h here = ⊎_elim
    (λ t.
    let at0 : p ≡ 0 = (only_blank p blank_view (subst (λ (l : List PassView). get_elem? l p ≡ some blank_view) t.1 here)).0 in
    let cases : (q : ℕ) (u : PassView) → get_elem? (set views p (first_view cap n) ++ nobody_view ∷ []) q ≡ some u
    → ((q ≡ p) × (first_view cap n ≡ u)) ⊎ (nobody_view ≡ u) = λ q u k.
    ⊎_elim
    (λ s. ⊎_elim inl (λ y. absurd (y.0 ((only_blank q u (subst (λ (l : List PassView). get_elem? l q ≡ some u) t.1 y.1)).0
    ∙ sym at0))) (at_set views p q (first_view cap n) u s))
    inr (at_snoc (set views p (first_view cap n)) nobody_view u q k) in
    inr record {
      log = [];
      cap = cap;
      book = opens_book cap n;
      keeper = opens_keeper cap n;
      seat = λ _. p;
      stamps = [];
      legal = subst (λ (l : List Item). Leaves cap [] (elements_of l)) (sym t.0) (leaves_nothing cap);
      legal_stamps = subst (λ (l : List Item). Leaves cap [] (stamps_of l)) (sym t.0) (leaves_nothing cap);
      alike = refl;
      kept = opens_kept cap n;
      cuts_stamps = λ i. sym (no_stamps cap n i);
      set_up =
          λ q u k. ⊎_elim (λ s. subst (λ (w : PassView). w.stage ≢ Blank) s.1 (first_blank cap n)) (λ s. subst (λ (w : PassView). w.stage ≢ Blank) s
          (none_blank n)) (cases q u k);
      dealt = λ q u k live. ⊎_elim (λ s. opens_dealt cap n some_fiber p q u s.0 s.1)
          (λ s. spent_live u.stage (sym (ap (λ (w : PassView). w.stage) s)) live) (cases q u k);
    })
    (λ r. absurd (r.set_up p blank_view here refl)) h
