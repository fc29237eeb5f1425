-- The fibers of a report with other traces, of which others see the same; and a list of the numbers below one that pass a test.
use Rattle.std.proofs.Common.{◌≡◌, ℕ, zero, suc, ◌+◌, ◌==◌, ◌<◌, Bool, true, false, ◌&&◌, Option, Some, None, List, [], ◌∷◌, map, All, Contains}
use Rattle.std.proofs.Common.{refl, sym, ◌∙◌, ap, arith, slice_index_or}
use Rattle.std.specs.List.{find, filter, list_any, range_with_len, AllPairs}
use Rattle.std.specs.List.Sorted.{IsStrictlyIncreasing}
use Rattle.std.proofs.lemmas.Bool.{eqb-true, eq-eqb, ne_eqb}
use Rattle.std.proofs.lemmas.Option.{none-some, same_Some}
use Rattle.std.proofs.lemmas.List.Elements.{All-nil, All-cons, All-head, All-tail}
use Rattle.std.proofs.lemmas.List.Folds.{list_any_at}
use Rattle.std.proofs.lemmas.List.FromFn.{length-range_with_len, get_or-range_with_len}
use Rattle.std.proofs.lemmas.List.Kept.{AllPairs-from_increasing, IsStrictlyIncreasing-filter}
use Rattle.std.proofs.lemmas.Map.Views.{any-filter_same}
use Rattle.fx_term.specs.declared.event.Event.{Event}
use Rattle.fx_model.specs.Report.{FiberReportView, is_request_for}
use Rattle.fx_look_laws.specs.LookAlike.{visible_events}
use Rattle.fx_look_laws.proofs.VisibleEvents.{same_requests}

abbrev pub found : ℕ → List FiberReportView → Option FiberReportView
found f xs = find (λ (x : FiberReportView). x.id == f) xs

-- what is found has the number
pub found_id : (f : ℕ) (xs : List FiberReportView) (x : FiberReportView) → found f xs ≡ Some x → x.id ≡ f
found_id f [] x e = absurd (none-some x e)
found_id f (y ∷ xs) x e = by_test (y.id == f) refl (found_id f xs x)
  where
    by_test : (b : Bool) → (y.id == f) ≡ b → (found f xs ≡ Some x → x.id ≡ f) → x.id ≡ f
    by_test true is rest =
        let here : Some y ≡ Some x = rw is at e in
        ap (λ (z : FiberReportView). z.id) (sym (same_Some y x here)) ∙ eqb-true y.id f is
    by_test false is rest = rest (rw is at e)

-- where the numbers rise, each fiber is found by its own
abbrev IsFoundIn : List FiberReportView → FiberReportView → Type 0
IsFoundIn xs x = found x.id xs ≡ Some x

abbrev ids : List FiberReportView → List ℕ
ids xs = map (λ (x : FiberReportView). x.id) xs

rise_later : (n : ℕ) (ns : List ℕ) → AllPairs (λ (i j : ℕ). i < j) (n ∷ ns) → AllPairs (λ (i j : ℕ). i < j) ns
rise_later n ns h i j d lt within = h (suc i) (suc j) d (omega arith) (omega arith)

found_later : (y : FiberReportView) (all : List FiberReportView) (xs : List FiberReportView) → ((k : ℕ) (d : ℕ) → AllPairs (λ (i j : ℕ). i < j) (y.id ∷ ids xs))
    → All (IsFoundIn all) xs → All (IsFoundIn (y ∷ all)) xs
found_later y all [] h k = All-nil (IsFoundIn (y ∷ all))
found_later y all (x ∷ xs) h k =
    All-cons (IsFoundIn (y ∷ all)) x xs first
    (found_later y all xs (λ i d. skipped (h i d)) (All-tail (IsFoundIn all) x xs k))
  where
    first : IsFoundIn (y ∷ all) x
    first =
        let lt : y.id < x.id = h 0 0 0 1 0 (omega arith) (omega arith) in
        let off : (y.id == x.id) ≡ false = ne_eqb y.id x.id (λ e. omega (arith, e, lt)) in
        rw off (All-head (IsFoundIn all) x xs k)

    skipped : AllPairs (λ (i j : ℕ). i < j) (y.id ∷ x.id ∷ ids xs) → AllPairs (λ (i j : ℕ). i < j) (y.id ∷ ids xs)
    skipped p zero zero d lt within = absurd (omega arith)
    skipped p zero (suc j) d lt within = p 0 (suc (suc j)) d (omega arith) (omega arith)
    skipped p (suc i) zero d lt within = absurd (omega arith)
    skipped p (suc i) (suc j) d lt within = p (suc (suc i)) (suc (suc j)) d (omega arith) (omega arith)

each_found : (xs : List FiberReportView) → AllPairs (λ (i j : ℕ). i < j) (ids xs) → All (IsFoundIn xs) xs
each_found [] h = All-nil (IsFoundIn [])
each_found (x ∷ xs) h =
    All-cons (IsFoundIn (x ∷ xs)) x xs (rw (eq-eqb x.id x.id refl) refl)
    (found_later x xs xs (λ i d. h) (each_found xs (rise_later x.id (ids xs) h)))

pub each_is_found : (xs : List FiberReportView) → IsStrictlyIncreasing (ids xs) → All (IsFoundIn xs) xs
each_is_found xs rise = each_found xs (AllPairs-from_increasing (ids xs) rise)

-- with these traces
module _ (trace : ℕ → List Event) where
  abbrev pub retraced : FiberReportView → FiberReportView
  retraced x = record x { trace = trace x.id }

  abbrev pub all_retraced : List FiberReportView → List FiberReportView
  all_retraced xs = map retraced xs

  pub ids_same : (xs : List FiberReportView) → map (λ (x : FiberReportView). x.id) (all_retraced xs) ≡ map (λ (x : FiberReportView). x.id) xs
  ids_same [] = refl
  ids_same (x ∷ xs) = ap (λ (ns : List ℕ). x.id ∷ ns) (ids_same xs)

  pub found_too : (f : ℕ) (xs : List FiberReportView) (x : FiberReportView) → found f xs ≡ Some x → found f (all_retraced xs) ≡ Some (retraced x)
  found_too f [] x e = absurd (none-some x e)
  found_too f (y ∷ xs) x e = by_test (y.id == f) refl (found_too f xs x)
    where
      by_test : (b : Bool) → (y.id == f) ≡ b → (found f xs ≡ Some x → found f (all_retraced xs) ≡ Some (retraced x))
          → found f (all_retraced (y ∷ xs)) ≡ Some (retraced x)
      by_test true is rest =
          let here : Some y ≡ Some x = rw is at e in
          rw is (ap (λ (z : FiberReportView). Some (retraced z)) (same_Some y x here))
      by_test false is rest = rw is (rest (rw is at e))

  pub absent_too : (f : ℕ) (xs : List FiberReportView) → found f xs ≡ None → found f (all_retraced xs) ≡ None
  absent_too f [] e = refl
  absent_too f (y ∷ xs) e = by_test (y.id == f) refl (absent_too f xs)
    where
      by_test : (b : Bool) → (y.id == f) ≡ b → (found f xs ≡ None → found f (all_retraced xs) ≡ None) → found f (all_retraced (y ∷ xs)) ≡ None
      by_test true is rest = absurd (let here : Some y ≡ None = rw is at e in none-some y (sym here))
      by_test false is rest = rw is (rest (rw is at e))

  -- who requests whom is the same where others see the same
  abbrev asks : ℕ → List FiberReportView → Bool
  asks f ys = list_any (λ (z : FiberReportView). list_any (is_request_for f) z.trace) ys

  pub asks_same : (f : ℕ) (xs : List FiberReportView) → All (λ (x : FiberReportView). visible_events (trace x.id) ≡ visible_events x.trace) xs
      → list_any (λ (z : FiberReportView). list_any (is_request_for f) z.trace) (all_retraced xs)
      ≡ list_any (λ (z : FiberReportView). list_any (is_request_for f) z.trace) xs
  asks_same f [] h = refl
  asks_same f (x ∷ xs) h =
      let here = same_requests f (trace x.id) x.trace (All-head (λ (z : FiberReportView). visible_events (trace z.id) ≡ visible_events z.trace) x xs h) in
      let rest = asks_same f xs (All-tail (λ (z : FiberReportView). visible_events (trace z.id) ≡ visible_events z.trace) x xs h) in
      rw (here, rest) refl

-- the numbers below that one that pass
module _ (passes : ℕ → Bool) (last : ℕ) (below : (f : ℕ) → passes f ≡ true → f < last) where
  abbrev pub numbers_that_pass : List ℕ
  numbers_that_pass = filter passes (range_with_len 0 last)

  range_rises : IsStrictlyIncreasing (range_with_len 0 last)
  range_rises k within =
      let long = length-range_with_len 0 last in
      let lt : suc k < last = omega (arith, within, long) in
      rw (get_or-range_with_len 0 last k 0 (omega (arith, lt)), get_or-range_with_len 0 last (k + 1) 0 (omega (arith, lt))) (omega arith)

  pub they_rise : IsStrictlyIncreasing numbers_that_pass
  they_rise = IsStrictlyIncreasing-filter passes (range_with_len 0 last) range_rises

  pub any_passes : (f : ℕ) → list_any (λ g. g == f) numbers_that_pass ≡ passes f
  any_passes f = by_test (passes f) refl
    where
      among : list_any (λ g. g == f) numbers_that_pass ≡ (passes f && list_any (λ g. g == f) (range_with_len 0 last))
      among = any-filter_same (λ g. g == f) passes (passes f) (λ k e. ap passes (eqb-true k f e)) (range_with_len 0 last)

      by_test : (b : Bool) → passes f ≡ b → list_any (λ g. g == f) numbers_that_pass ≡ passes f
      by_test true is =
          let lt = below f is in
          let at : slice_index_or (range_with_len 0 last) f 0 ≡ 0 + f = get_or-range_with_len 0 last f 0 lt in
          let long = length-range_with_len 0 last in
          let in_range : list_any (λ g. g == f) (range_with_len 0 last) ≡ true =
          list_any_at (λ g. g == f) (range_with_len 0 last) f 0 (omega (arith, lt, long)) (eq-eqb _ f (at ∙ (omega arith))) in
          rw (is, in_range) at among ∙ sym is
      by_test false is = (rw is at among) ∙ sym is

  pub they_pass : (f : ℕ) → Contains numbers_that_pass f → passes f ≡ true
  they_pass f c = sym (any_passes f) ∙ list_any_at (λ g. g == f) numbers_that_pass c.0 f c.1 (eq-eqb _ f c.2)
