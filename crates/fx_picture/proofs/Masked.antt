-- Each event at a closed place stands beside the bar of one.
use Rattle.std.proofs.Common.{◌≡◌, ℕ, zero, suc, ◌-◌, ◌≤◌, true, false, Option, Some, None, List, refl, sym, ap, subst, ◌∙◌, arith, inl, inr}
use Rattle.std.proofs.lemmas.Bool.{cases_Bool, cases_eq, not-true, ne_eqb}
use Rattle.fx_picture.specs.declared.bar.Bar.TheVariants.{Closed}
use Rattle.fx_picture.specs.declared.stood.Stood.{Stood}
use Rattle.fx_picture.specs.Stood.{stood_at, is_told_closed, is_told_open}
use Rattle.fx_picture.specs.Bars.{is_closed_before, mask_at}
use Rattle.fx_picture.specs.IsClosed.{IsMasked}

not_both : (s : Option Stood) → is_told_closed s ≡ true → is_told_open s ≡ false
not_both None closed = refl
not_both (Some s) closed = not-true s.is_open closed

module _ (stood : List Stood) (f : ℕ) where
  abbrev IsClosedAt : ℕ → Type 0
  IsClosedAt i = is_told_closed (stood_at stood f i) ≡ true

  -- one that has begun goes on as long as the places are closed
  since : (from i : ℕ) → from ≤ i → mask_at stood f from ≡ Some Closed → ((k : ℕ) → from ≤ k → k ≤ i → IsClosedAt k) → IsMasked stood f i
  since from i before begins closed = record {
    from = from;
    before = before;
    begins = begins;
    closed = closed;
    goes_on = λ o of past within loud. rw (loud, of, not_both (stood_at stood f o.place) (closed o.place past within)) refl;
  }

  alone : (i : ℕ) → IsClosedAt i → (k : ℕ) → i ≤ k → k ≤ i → IsClosedAt k
  alone i here k past within = let same : i ≡ k = omega arith in subst IsClosedAt same here

  none_before : (i : ℕ) → is_told_closed (stood_at stood f i) ≡ false → is_closed_before stood f (suc i) ≡ false
  none_before i clear =
      let same : suc i - 1 ≡ i = omega arith in
      rw (ne_eqb (suc i) 0 (λ none. absurd (omega arith))) (ap (λ (n : ℕ). is_told_closed (stood_at stood f n)) same ∙ clear)

  pub masked : (i : ℕ) → IsClosedAt i → IsMasked stood f i
  masked zero here = since 0 0 (omega arith) (rw here refl) (alone 0 here)
  masked (suc i) here = elim (cases_Bool (is_told_closed (stood_at stood f i))) [
    | inl before ↦ (let m = masked i before in
        since m.from (suc i) (let le = m.before in omega arith) m.begins (λ k past within. elim (cases_eq k (suc i)) [
          | inl last ↦ subst IsClosedAt (sym last) here
          | inr other ↦ m.closed k past (omega arith)
        ]))
    | inr clear ↦ since (suc i) (suc i) (omega arith) (rw (here, none_before i clear) refl) (alone (suc i) here)
  ]
