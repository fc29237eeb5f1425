-- The computed report of a whole machine is its report.
use Rattle.std.proofs.Common.{◌≡◌, ℕ, zero, suc, ◌+◌, ◌<◌, ◌≤◌, Bool, true, false, Option, Some, None, List, [], ◌∷◌, length, map, refl, sym, ◌∙◌, ap, subst}
use Rattle.std.proofs.Common.{arith, ◌⊎◌, inl, inr}
use Rattle.std.specs.Prelude.{◌==◌, if◌then◌else◌}
use Rattle.std.specs.List.{find, filter, filter_map, list_any, cons_option, range_with_len}
use Rattle.std.specs.List.Sorted.{IsStrictlyIncreasing}
use Rattle.std.proofs.lemmas.Bool.{cases_eq, cases_lt, eq-eqb, ne_eqb, le-ltb, false_from_ne_true}
use Rattle.std.proofs.lemmas.Option.{none-some, same_Some}
use Rattle.std.proofs.lemmas.List.{get_or_past}
use Rattle.std.proofs.lemmas.List.FromFn.{length-map-range_with_len, get_or-map-range_with_len}
use Rattle.fx_text.specs.declared.pick.Pick.{Pick}
use Rattle.fx_term.specs.declared.queue_event.QueueEvent.{QueueEvent}
use Rattle.fx_term.specs.declared.queue_event.QueueEvent.TheVariants.{Put, Got}
use Rattle.fx_term.specs.Queue.{QueueState, empty_queue, after_got, replayed_from}
use Rattle.fx_term.proofs.QueueLaws.{stays_none}
use Rattle.fx_term.specs.Script.{ScriptView, total}
use Rattle.fx_model.specs.Report.{FiberReportView}
use Rattle.fx_plain.specs.WholeMachine.{StartedFiber, WholeMachine, opening}
use Rattle.fx_plain.specs.SettledRun.{report_of_fiber, IsReportOf}
use Rattle.fx_plain.specs.Chosen.{IsReplay}
use Rattle.fx_plain.proofs.LawfulRuns.{IsKept, opening_is_kept, run_keeps}
use Rattle.fx_plain.proofs.ChosenRuns.{chosen_leads}
use Rattle.fx_plain.proofs.ComputedRuns.{RunTo, replayed, report}
use Rattle.fx_plain.proofs.ComputedRunLaws.{replayed_is_chosen}

-- the numbers of a list rise, where its first is above this one
abbrev StartsFrom : ℕ → List ℕ → Type 0
StartsFrom n [] = Unit {0}
StartsFrom n (x ∷ xs) = n ≤ x

starts_lower : (n m : ℕ) (xs : List ℕ) → n ≤ m → StartsFrom m xs → StartsFrom n xs
starts_lower n m [] le h = tt
starts_lower n m (x ∷ xs) le h = omega arith

rises : (x : ℕ) (xs : List ℕ) → StartsFrom (suc x) xs → IsStrictlyIncreasing xs → IsStrictlyIncreasing (x ∷ xs)
rises x [] from h k lt = absurd (omega arith)
rises x (y ∷ ys) from h zero lt = from
rises x (y ∷ ys) from h (suc k) lt = let e : suc k + 1 ≡ suc (k + 1) = omega arith in rw e (h k (omega arith))

module _ (m : WholeMachine) where
  abbrev fibers_from : ℕ → ℕ → List FiberReportView
  fibers_from a n = filter_map (λ f. report_of_fiber f (m.stamps.trace f) (m.fibers f)) (range_with_len a n)

  abbrev ids : List FiberReportView → List ℕ
  ids xs = map (λ (x : FiberReportView). x.id) xs

  one_more : (a : ℕ) (ss : List ℕ) (xs : List FiberReportView) (o : Option StartedFiber) → IsStrictlyIncreasing (ids xs) → StartsFrom (suc a) (ids xs)
      → IsStrictlyIncreasing (ids (cons_option (report_of_fiber a ss o) xs)) × StartsFrom a (ids (cons_option (report_of_fiber a ss o) xs))
  one_more a ss xs None h from = (h, starts_lower a (suc a) (ids xs) (omega arith) from)
  one_more a ss xs (Some x) h from = (rises a (ids xs) from h, let p : a ≤ a = omega arith in p)

  fibers_rise : (a n : ℕ) → IsStrictlyIncreasing (ids (fibers_from a n)) × StartsFrom a (ids (fibers_from a n))
  fibers_rise a zero = ((λ k lt. absurd (omega arith)), tt)
  fibers_rise a (suc n) =
      let h = fibers_rise (a + 1) n in
      let e : a + 1 ≡ suc a = omega arith in
      one_more a (m.stamps.trace a) (fibers_from (a + 1) n) (m.fibers a) h.0 (subst (λ (k : ℕ). StartsFrom k (ids (fibers_from (a + 1) n))) e h.1)

  abbrev found : ℕ → List FiberReportView → Option FiberReportView
  found f xs = find (λ (x : FiberReportView). x.id == f) xs

  found_here : (f : ℕ) (ss : List ℕ) (xs : List FiberReportView) (o : Option StartedFiber) → found f xs ≡ None
      → found f (cons_option (report_of_fiber f ss o) xs) ≡ report_of_fiber f ss o
  found_here f ss xs None e = e
  found_here f ss xs (Some x) e = rw (eq-eqb f f refl) refl

  found_later : (f a : ℕ) (ss : List ℕ) (xs : List FiberReportView) (o : Option StartedFiber) → (a ≡ f → ⊥)
      → found f (cons_option (report_of_fiber a ss o) xs) ≡ found f xs
  found_later f a ss xs None ne = refl
  found_later f a ss xs (Some x) ne = rw (ne_eqb a f ne) refl

  none_before : (f a n : ℕ) → f < a → found f (fibers_from a n) ≡ None
  none_before f a zero lt = refl
  none_before f a (suc n) lt =
      found_later f a (m.stamps.trace a) (fibers_from (a + 1) n) (m.fibers a) (λ e. omega arith) ∙ none_before f (a + 1) n (omega arith)

  found_within : (f a n : ℕ) → a ≤ f → f < a + n → found f (fibers_from a n) ≡ report_of_fiber f (m.stamps.trace f) (m.fibers f)
  found_within f a zero le lt = absurd (omega arith)
  found_within f a (suc n) le lt = elim (cases_eq a f) [
    | inl e ↦
        subst (λ (b : ℕ). found f (cons_option (report_of_fiber b (m.stamps.trace b) (m.fibers b)) (fibers_from (b + 1) n))
        ≡ report_of_fiber f (m.stamps.trace f) (m.fibers f)) (sym e)
        (found_here f (m.stamps.trace f) (fibers_from (f + 1) n) (m.fibers f) (none_before f (f + 1) n (omega arith)))
    | inr ne ↦ found_later f a (m.stamps.trace a) (fibers_from (a + 1) n) (m.fibers a) ne ∙ found_within f (a + 1) n (omega arith) (omega arith)
  ]

  none_after : (f a n : ℕ) → a + n ≤ f → found f (fibers_from a n) ≡ None
  none_after f a zero le = refl
  none_after f a (suc n) le = found_later f a (m.stamps.trace a) (fibers_from (a + 1) n) (m.fibers a) (λ e. omega arith) ∙ none_after f (a + 1) n (omega arith)

-- those of a range that pass a test
abbrev passing : (ℕ → Bool) → ℕ → ℕ → List ℕ
passing test a n = filter test (range_with_len a n)

passing_rise : (test : ℕ → Bool) (a n : ℕ) → IsStrictlyIncreasing (passing test a n) × StartsFrom a (passing test a n)
passing_rise test a zero = ((λ k lt. absurd (omega arith)), tt)
passing_rise test a (suc n) = by_test (test a) (passing_rise test (a + 1) n)
  where
    by_test : (b : Bool) → IsStrictlyIncreasing (passing test (a + 1) n) × StartsFrom (a + 1) (passing test (a + 1) n)
        → IsStrictlyIncreasing (if b then a ∷ passing test (a + 1) n else passing test (a + 1) n) × StartsFrom a
        (if b then a ∷ passing test (a + 1) n else passing test (a + 1) n)
    by_test true h = (
      rises a (passing test (a + 1) n) (let e : a + 1 ≡ suc a = omega arith in
          subst (λ (k : ℕ). StartsFrom k (passing test (a + 1) n)) e h.1) h.0,
      let p : a ≤ a = omega arith in p,
    )
    by_test false h = (h.0, starts_lower a (a + 1) (passing test (a + 1) n) (omega arith) h.1)

abbrev has : ℕ → List ℕ → Bool
has f xs = list_any (λ g. g == f) xs

has_not : (test : ℕ → Bool) (f a n : ℕ) → (f < a) ⊎ (a + n ≤ f) → has f (passing test a n) ≡ false
has_not test f a zero h = refl
has_not test f a (suc n) h = by_test (test a) (has_not test f (a + 1) n (elim h [ inl lt ↦ inl (omega arith) | inr le ↦ inr (omega arith) ]))
  where
    apart : a ≡ f → ⊥
    apart e = elim h [ inl lt ↦ omega arith | inr le ↦ omega arith ]

    by_test : (b : Bool) → has f (passing test (a + 1) n) ≡ false → has f (if b then a ∷ passing test (a + 1) n else passing test (a + 1) n) ≡ false
    by_test true e = rw (ne_eqb a f apart) e
    by_test false e = e

has_within : (test : ℕ → Bool) (f a n : ℕ) → a ≤ f → f < a + n → has f (passing test a n) ≡ test f
has_within test f a zero le lt = absurd (omega arith)
has_within test f a (suc n) le lt = elim (cases_eq a f) [
  | inl e ↦ subst (λ (b : ℕ). has f (if test b then b ∷ passing test (b + 1) n else passing test (b + 1) n) ≡ test f) (sym e) (itself (test f))
  | inr ne ↦ other ne (test a) ∙ has_within test f (a + 1) n (omega arith) (omega arith)
]
  where
    itself : (b : Bool) → has f (if b then f ∷ passing test (f + 1) n else passing test (f + 1) n) ≡ b
    itself true = rw (eq-eqb f f refl) refl
    itself false = has_not test f (f + 1) n (inl (omega arith))

    other : (a ≡ f → ⊥) → (b : Bool) → has f (if b then a ∷ passing test (a + 1) n else passing test (a + 1) n) ≡ has f (passing test (a + 1) n)
    other ne true = rw (ne_eqb a f ne) refl
    other ne false = refl

-- a queue without capacity stays empty
pub without_capacity : (st : QueueState) (h : List QueueEvent) (last : QueueState) → st.items ≡ [] → replayed_from 0 (Some st) h ≡ Some last → last.items ≡ []
without_capacity st [] last e r = ap (λ (t : QueueState). t.items) (sym (same_Some st last r)) ∙ e
without_capacity st (Put f n ∷ h) last e r = absurd (none-some last (sym (rw (le-ltb (length st.items) 0 (omega arith)) (stays_none 0 h)) ∙ r))
without_capacity st (Got f n ∷ h) last e r =
    absurd (none-some last (sym (ap (λ (t : Option QueueState). replayed_from 0 t h) (ap (after_got st f n) e) ∙ stays_none 0 h) ∙ r))

pub report_is_report : (s : ScriptView) (m : WholeMachine) → IsKept s m → IsReportOf s m (report s m)
report_is_report s m k = record {
  ascending = (fibers_rise m 0 (total s)).0;
  fibers = λ f. elim (cases_lt f (total s)) [
    | inl lt ↦ found_within m f 0 (total s) (omega arith) (omega arith)
    | inr le ↦ none_after m f 0 (total s) (omega arith) ∙ by_fiber f le (m.fibers f) refl
  ];
  left_by_queue = length-map-range_with_len m.queues 0 (length s.capacities);
  left = λ q. elim (cases_lt q (length s.capacities)) [
    | inl lt ↦ get_or-map-range_with_len m.queues 0 (length s.capacities) q q [] lt (omega arith)
    | inr le ↦ get_or_past (map m.queues (range_with_len 0 (length s.capacities))) q []
        (let e = length-map-range_with_len m.queues 0 (length s.capacities) in omega arith)
        ∙ sym (sym (k.histories.items q) ∙ beyond q le)
  ];
  outside_ascending = (passing_rise m.from_outside 0 (total s)).0;
  outside = λ f. elim (cases_lt f (total s)) [
    | inl lt ↦ has_within m.from_outside f 0 (total s) (omega arith) (omega arith)
    | inr le ↦ has_not m.from_outside f 0 (total s) (inr (omega arith))
        ∙ sym (false_from_ne_true (m.from_outside f) (λ e. (let lt = k.requests.below f e in omega arith)))
  ];
  in_time = refl;
}
  where
    by_fiber : (f : ℕ) → total s ≤ f → (o : Option StartedFiber) → m.fibers f ≡ o → None ≡ report_of_fiber f (m.stamps.trace f) (m.fibers f)
    by_fiber f le None is = sym (ap (report_of_fiber f (m.stamps.trace f)) is)
    by_fiber f le (Some x) is = absurd (let lt = k.ranges.started_below f x is in omega arith)

    beyond : (q : ℕ) → length s.capacities ≤ q → (k.histories.state q).items ≡ []
    beyond q le =
        without_capacity empty_queue (k.histories.history q) (k.histories.state q) refl
        (subst (λ (c : ℕ). replayed_from c (Some empty_queue) (k.histories.history q) ≡ Some (k.histories.state q)) (get_or_past s.capacities q 0 le)
        (k.histories.legal q))

-- what is computed is a replay
pub computed_is_replay : (s : ScriptView) (n : ℕ) (ps : List Pick) (d : RunTo) → replayed s n ps (opening s) ≡ Some d → IsReplay s ps (report s d.last)
computed_is_replay s n ps d e =
    let chosen = replayed_is_chosen s n ps (opening s) d (opening_is_kept s) e in
    record { moves = d.moves; last = d.last; chosen = chosen; report = report_is_report s d.last (run_keeps s d.moves d.last (chosen_leads s chosen)) }
