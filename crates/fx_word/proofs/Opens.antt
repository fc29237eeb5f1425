-- The words at the start.
use Rattle.std.proofs.Common.{◌≡◌, ℕ, ◌*◌, ◌<◌, false, List, [], ◌∷◌, inl, ⊎_elim, length}
use Rattle.std.proofs.Common.{slice_index, Option, Some, None, refl, sym, ◌∙◌, ap, subst, arith, zero, suc}
use Rattle.std.proofs.lemmas.Option.{none-some, same_Some}
use mathlib.Core.Logic.{dite}
use mathlib.Core.Option.{some, some-injective, some-ne-none}
use native.Mathlib.Decide.{ℕ_discrete, dec_lt}
use lib.ListN.{get_elem?}
use Rattle.fx_term.specs.Maps.{with_at}
use Rattle.fx_term.proofs.MapLaws.{at_that, at_other, at_cases, pick, pick_yes, pick_no}
use Rattle.fx_word.specs.declared.entry.Entry.{Entry}
use Rattle.fx_word.specs.declared.seat_view.SeatView.{SeatView}
use Rattle.fx_word.specs.StateWord.{state_word}
use Rattle.fx_word.specs.Entry.{new_entry}
use Rattle.fx_word.specs.SeatView.{first_view}
use Rattle.fx_word.specs.Rule.{Book, outcome_in, facts, Fits, Kept, Dealt, Held, Ruled}
use Rattle.fx_word.proofs.Stamps.{blank_keeps, new_keeps}

module _ (n : ℕ) (some_fiber : 0 < n) (words : List ℕ) (long : length words ≡ 4 * n) (blank : (i : ℕ) → slice_index words i ≡ 0) where
  abbrev first : Entry
  first = new_entry 0 None 1 n

  abbrev nobody : Book
  nobody = λ _. None

  abbrev opens_book : Book
  opens_book = with_at 0 (Some first) nobody

  pub opens_keeper : ℕ → Option ℕ
  opens_keeper i = pick (dec_lt 0 i) (pick (dec_lt i n) (Some 0) None) None

  keeps_in : (i : ℕ) → 0 < i → i < n → opens_keeper i ≡ Some 0
  unfolding opens_keeper
  keeps_in i a b = pick_yes (dec_lt 0 i) _ _ a ∙ pick_yes (dec_lt i n) _ _ b

  keeps_only : (i f : ℕ) → opens_keeper i ≡ Some f → (0 < i) × (i < n)
  unfolding opens_keeper
  keeps_only i f h = dite (dec_lt 0 i)
      (λ a. dite (dec_lt i n) (λ b. (a, b)) (λ nb. absurd (none-some f (sym (pick_yes (dec_lt 0 i) _ _ a ∙ pick_no (dec_lt i n) (Some 0) None nb) ∙ h))))
      (λ na. absurd (none-some f (sym (pick_no (dec_lt 0 i) (pick (dec_lt i n) (Some 0) None) None na) ∙ h)))

  only : (i : ℕ) (d : Entry) → opens_book i ≡ Some d → (i ≡ 0) × (first ≡ d)
  only i d h = ⊎_elim (λ t. (t.0, same_Some first d t.1)) (λ t. absurd (none-some d t.1)) (at_cases 0 (Some first) nobody i (Some d) h)

  no_out : (i : ℕ) → outcome_in (opens_book i) ≡ None
  no_out i = dite (ℕ_discrete i 0) (λ y. ap outcome_in (at_that 0 (Some first) nobody i y)) (λ m. ap outcome_in (at_other 0 (Some first) nobody i m))

  pub opens_kept : Kept n words opens_book (λ _. false) opens_keeper
  opens_kept = record {
    long = long;
    named = λ i d h. let t = only i d h in (sym (ap (λ (u : Entry). u.id) t.1) ∙ sym t.0, subst (λ (k : ℕ). k < n) (sym t.0) some_fiber);
    fits = λ i d h. subst (λ (u : Entry). Fits (facts opens_book (λ _. false) opens_keeper) u) (only i d h).1
        record {
          asks = λ j q. absurd q;
          sees = λ q. let z : ⊥ = cc in absurd z;
          ends = λ o q. absurd (none-some o q);
          tells = λ j k q. absurd q;
          learns = λ j o q. absurd q;
          splits = λ j c q. absurd q;
          once = λ j. omega arith;
          above = omega arith;
          range = λ j a c. keeps_in j (omega (arith, a)) c;
        };
    state = λ i lt. blank (4 * i) ∙ ap (state_word false) (sym (no_out i));
    value = λ i d x h st. absurd (none-some x (ap (λ (u : Entry). u.stored) (only i d h).1 ∙ st));
    asked = λ i q. let z : ⊥ = cc in absurd z;
    free = λ i f h. let t = keeps_only i f h in (at_other 0 (Some first) nobody i (λ y. let a = t.0 in omega (arith, y, a)), t.1);
    rooted = λ i d h. let t = only i d h in inl (t.0, ap (λ (u : Entry). u.begin) (sym t.1));
  }

  pub opens_dealt : (p : ℕ) (v : SeatView) → get_elem? (first_view n ∷ []) p ≡ some v → v.spent ≡ false → Dealt opens_book (λ _. 0) p v
  opens_dealt zero v h o = subst (λ (w : SeatView). Dealt opens_book (λ _. 0) 0 w) (some-injective (first_view n) v h) record {
    here = λ d k. ⊎_elim (λ y. (
      ap opens_book (ap (λ (u : Entry). u.id) y) ∙ (at_that 0 (Some first) nobody 0 refl
          ∙ ap Some (sym y)),
      refl,
    )) (λ y. absurd y) k;
    apart = ((λ d k. absurd k), tt);
  }
  opens_dealt (suc p) v h o = absurd (some-ne-none v (sym h))

  pub opens_held : (i : ℕ) (d : Entry) → opens_book i ≡ Some d → Held (λ _. 0) (first_view n ∷ []) i d
  opens_held i d h = (first_view n, refl, refl, inl (sym (only i d h).1))

pub opens : (n : ℕ) → 0 < n → (words : List ℕ) → length words ≡ 4 * n → ((i : ℕ) → slice_index words i ≡ 0) → Ruled n words (first_view n ∷ [])
opens n a words long blank = (
  opens_book n a words long blank,
  (λ _. false),
  opens_keeper n a words long blank,
  (λ _. 0),
  opens_kept n a words long blank,
  opens_dealt n a words long blank,
  opens_held n a words long blank,
  new_keeps words (λ _. false) (λ _. None) (blank_keeps words blank) 0 refl None 1 n,
)
