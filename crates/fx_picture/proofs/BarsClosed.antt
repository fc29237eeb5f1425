-- Each bar of a fiber that has ended is closed.
use Rattle.std.proofs.Common.{◌≡◌, ℕ, zero, suc, ◌+◌, ◌-◌, ◌<◌, ◌≤◌, ◌==◌, ◌&&◌, not, Bool, true, Option, Some, None, List, [], ◌∷◌, ◌++◌}
use Rattle.std.proofs.Common.{refl, sym, ap, subst, ◌∙◌, length, drop, arith, inl, inr, eq-eqb, slice_get}
use Rattle.std.specs.Prelude.{IsSome}
use Rattle.std.proofs.lemmas.Bool.{cond_both, cases_lt}
use Rattle.std.proofs.lemmas.Option.{slice_get_within}
use Rattle.fx_term.specs.declared.event.Event.{Event}
use Rattle.fx_term.specs.declared.event.Event.TheVariants as event
use Rattle.fx_term.specs.Script.{ScriptView}
use Rattle.fx_model.specs.Headline.{EndsBalanced, HoldsWhatIsPromised}
use Rattle.fx_model.specs.LawfulReport.{IsLawfulReport}
use Rattle.fx_model.specs.Report.{FiberReportView, ReportView, fiber_in, trace_in, trace_of_report}
use Rattle.fx_order.specs.declared.occurrence.Occurrence.{Occurrence}
use Rattle.fx_order.specs.CausalOrder.{IsCausalOrder}
use Rattle.fx_picture.specs.declared.bar.Bar.{Bar}
use Rattle.fx_picture.specs.declared.bar.Bar.TheVariants.{Life, Unwinding, Holding, Closed}
use Rattle.fx_picture.specs.declared.drawn.Drawn.{Drawn}
use Rattle.fx_picture.specs.Folds.{sheet_of}
use Rattle.fx_picture.specs.declared.stood.Stood.{Stood}
use Rattle.fx_picture.specs.Stood.{stood_at, is_told_closed}
use Rattle.fx_picture.specs.Bars.{life_at, bar_at, is_closed_before, mask_at, closes, closing_row}
use Rattle.fx_picture.specs.IsClosed.{Begins, IsClosed}
use Rattle.fx_picture.proofs.Quiet.{drawn_at}
use Rattle.fx_picture.proofs.Releases.{released}

-- a bar is closed where some event of its fiber closes it
closed_by : (stood : List Stood) (f : ℕ) (bar : Bar) (xs : List Drawn) (m : ℕ) (x : Drawn) → slice_get xs m ≡ Some x → x.event.fiber ≡ f
    → closes stood bar x.event ≡ true → IsSome (closing_row stood f bar xs)
closed_by stood f bar [] m x at of does = absurd (cc at)
closed_by stood f bar (p ∷ xs) zero x at of does =
    let same : p ≡ x = cc at in
    let fits : (p.event.fiber == f) && closes stood bar p.event ≡ true = rw (same, does, eq-eqb x.event.fiber f of) refl in
    cond_both ((p.event.fiber == f) && closes stood bar p.event) (Some p.row) (closing_row stood f bar xs) IsSome (λ _. refl)
    (λ none. absurd (cc (sym fits ∙ none)))
closed_by stood f bar (p ∷ xs) (suc m) x at of does =
    cond_both ((p.event.fiber == f) && closes stood bar p.event) (Some p.row) (closing_row stood f bar xs) IsSome (λ _. refl)
    (λ _. closed_by stood f bar xs m x at of does)

got_behind : (n : ℕ) (xs : List Drawn) (m : ℕ) → slice_get (drop n xs) m ≡ slice_get xs (n + m)
got_behind zero xs m = let same : m ≡ 0 + m = omega arith in ap (slice_get xs) same
got_behind (suc n) [] m = refl
got_behind (suc n) (x ∷ xs) m = let same : suc (n + m) ≡ suc n + m = omega arith in got_behind n xs m ∙ ap (slice_get (x ∷ xs)) same

-- the event that closes a bar
record IsCloser (stood : List Stood) (trace : List Event) (i : ℕ) (bar : Bar) : Type 0 where
  place : ℕ
  behind : i ≤ place
  event : Event
  is : slice_get trace place ≡ Some event
  does : (o : Occurrence) → o.event ≡ event → closes stood bar o ≡ true

at_end : (before : List Event) (e : Event) → slice_get (before ++ e ∷ []) (length before) ≡ Some e
at_end [] e = refl
at_end (x ∷ xs) e = at_end xs e

within_end : (before : List Event) (e d : Event) (i : ℕ) → slice_get (before ++ e ∷ []) i ≡ Some d → i ≤ length before
within_end [] e d zero is = omega arith
within_end [] e d (suc i) is = absurd (cc is)
within_end (x ∷ xs) e d zero is = omega arith
within_end (x ∷ xs) e d (suc i) is = let le = within_end xs e d i is in omega arith

ends_it : (stood : List Stood) (trace : List Event) (ended : EndsBalanced trace) (i : ℕ) (e : Event) (bar : Bar) → slice_get trace i ≡ Some e
    → ((o : Occurrence) → o.event ≡ event.Ended ended.outcome → closes stood bar o ≡ true) → IsCloser stood trace i bar
ends_it stood trace ended i e bar at does =
    let end = ended.stops.ends in
    record {
      place = length end.before;
      behind = within_end end.before (event.Ended ended.outcome) e i (subst (λ (es : List Event). slice_get es i ≡ Some e) end.is at);
      event = event.Ended ended.outcome;
      is = subst (λ (es : List Event). slice_get es (length end.before) ≡ Some (event.Ended ended.outcome)) (sym end.is)
          (at_end end.before (event.Ended ended.outcome));
      does = does;
    }

-- a fiber's life is no resource, and a resource is held from where it is acquired
no_life : (i k : ℕ) → life_at i ≡ Some (Holding k) → ⊥
no_life i k lives =
    cond_both (i == 0) (Some Life) None (λ (o : Option Bar). o ≡ Some (Holding k) → ⊥) (λ _ e. absurd (cc e)) (λ _ e. absurd (cc e)) lives

acquired_by : (e : Event) (k : ℕ) → bar_at e ≡ Some (Holding k) → e ≡ event.Acquired k
acquired_by (event.Acquired j) k holds = let same : j ≡ k = cc holds in ap (λ (n : ℕ). event.Acquired n) same
acquired_by event.Cancelled k holds = absurd (cc holds)
acquired_by _ k holds = absurd (cc holds)

-- nor is a closed place a resource
no_mask : (stood : List Stood) (f i k : ℕ) → mask_at stood f i ≡ Some (Holding k) → ⊥
no_mask stood f i k masked =
    cond_both (is_told_closed (stood_at stood f i) && not (is_closed_before stood f i)) (Some Closed) None (λ (o : Option Bar). o ≡ Some (Holding k) → ⊥)
    (λ _ e. absurd (cc e)) (λ _ e. absurd (cc e)) masked

closer : (stood : List Stood) (f : ℕ) (trace : List Event) → EndsBalanced trace → (i : ℕ) (e : Event) (bar : Bar) → slice_get trace i ≡ Some e
    → Begins stood f i e bar → IsCloser stood trace i bar
closer stood f trace ended i e Life at begins = ends_it stood trace ended i e Life at (λ o is. rw is refl)
closer stood f trace ended i e Unwinding at begins = ends_it stood trace ended i e Unwinding at (λ o is. rw is refl)
closer stood f trace ended i e Closed at begins = ends_it stood trace ended i e Closed at (λ o is. rw is refl)
closer stood f trace ended i e (Holding k) at (inl lives) = absurd (no_life i k lives)
closer stood f trace ended i e (Holding k) at (inr (inr masked)) = absurd (no_mask stood f i k masked)
closer stood f trace ended i e (Holding k) at (inr (inl holds)) =
    let acquired = acquired_by e k holds in
    let r = released ended.balanced.nested i k (at ∙ ap Some acquired) in
    record { place = r.place; behind = let lt = r.behind in omega arith; event = event.End k; is = r.is; does = λ o is. rw is (eq-eqb k k refl) }

module _ (s : ScriptView) (may : ℕ → Bool) (r : ReportView) (lawful : IsLawfulReport s may r) (list : List Occurrence)
    (order : IsCausalOrder s may r lawful list) (stood : List Stood) where
  pub bar_is_closed : HoldsWhatIsPromised s r lawful.runs → (f : ℕ) (x : FiberReportView) → fiber_in r f ≡ Some x → x.has_ended ≡ true
      → (i : ℕ) (e : Event) (bar : Bar) → slice_get x.trace i ≡ Some e → Begins stood f i e bar
      → IsClosed stood list f (order.moment f i) bar
  bar_is_closed promised f x there ended i e bar at begins =
      let c = closer stood f x.trace (promised.ends f x there ended) i e bar at begins in
      let same : trace_in r f ≡ x.trace = ap trace_of_report there in
      let here : slice_get (trace_in r f) i ≡ Some e = subst (λ (es : List Event). slice_get es i ≡ Some e) (sym same) at in
      let closed : slice_get (trace_in r f) c.place ≡ Some c.event = subst (λ (es : List Event). slice_get es c.place ≡ Some c.event) (sym same) c.is in
      let le = moments i c.place c.behind (slice_get_within _ i e here) (slice_get_within _ c.place c.event closed) in
      let sum : order.moment f i + (order.moment f c.place - order.moment f i) ≡ order.moment f c.place = omega arith in
      let at_end = drawn_at stood list (order.moment f c.place) _ (order.stands f c.place c.event closed) in
      let got =
      got_behind (order.moment f i) (sheet_of stood list).drawn (order.moment f c.place - order.moment f i)
      ∙ ap (slice_get (sheet_of stood list).drawn) sum ∙ at_end.1 in
      closed_by stood f bar (drop (order.moment f i) (sheet_of stood list).drawn) (order.moment f c.place - order.moment f i) at_end.0 got
      (ap (λ (o : Occurrence). o.fiber) at_end.2) (c.does at_end.0.event (ap (λ (o : Occurrence). o.event) at_end.2))
    where
      moments : (i j : ℕ) → i ≤ j → i < length (trace_in r f) → j < length (trace_in r f) → order.moment f i ≤ order.moment f j
      moments i j le wi wj = elim (cases_lt i j) [
        | inl lt ↦ (let before = order.in_order.keeps f i j wi wj lt in omega arith)
        | inr ge ↦ (let same : i ≡ j = omega arith in subst (λ (n : ℕ). order.moment f i ≤ order.moment f n) same (omega arith))
      ]
