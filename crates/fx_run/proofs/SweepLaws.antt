-- What the fibers between two rounds told of each number.
use Rattle.std.proofs.Common.{◌≡◌, ℕ, zero, suc, ◌+◌, ◌<◌, Bool, true, false, Option, Some, None, List, [], ◌∷◌, ◌++◌, length, map}
use Rattle.std.proofs.Common.{refl, sym, ◌∙◌, ap, subst, inl, inr, arith, cond}
use Rattle.std.specs.Prelude.{◌==◌, ◌||◌, slice_set, slice_index_or}
use Rattle.std.specs.List.{list_any, range_with_len}
use Rattle.std.proofs.lemmas.Bool.{eq-eqb, ne_eqb, cases_eq}
use Rattle.std.proofs.lemmas.List.{length-set, length-replicate, get_or-replicate}
use Rattle.fx_term.specs.declared.outcome.Outcome.{Outcome}
use Rattle.fx_term.specs.declared.event.Event.{Event}
use Rattle.fx_term.specs.declared.event.Event.TheVariants as event
use Rattle.fx_term.specs.Script.{ScriptView, total}
use Rattle.fx_model.specs.Report.{outcome_shown, is_request_for}
use Rattle.fx_fiber.specs.Fiber.{FiberView}
use Rattle.fx_port.specs.Marks.{is_marked}
use Rattle.fx_port.specs.PortView.{PortView}
use Rattle.fx_run.specs.Ledger.{LedgerView, with_request, with_events, with_trace, with_marks}
use Rattle.fx_run.specs.Sweep.{events_by, is_requested_by}
use Rattle.fx_run.specs.Tally.{TallyView, empty_tally, with_live, with_lives}
use Rattle.fx_run.proofs.LedgerLaws.{or_first}
use Rattle.fx_run.proofs.TallyLaws.{requested_at, outcome_at, or_false, or_or, request_requested, events_requested, events_outcome, events_elsewhere}
use Rattle.fx_run.proofs.TallyLaws as told

-- marks
marks_long : (n : ℕ) (ms : List Bool) (v : LedgerView) → length (with_marks n ms v).requested ≡ length v.requested
marks_long n [] v = refl
marks_long n (true ∷ ms) v = marks_long (n + 1) ms (with_request n v) ∙ length-set v.requested n true
marks_long n (false ∷ ms) v = marks_long (n + 1) ms v

marks_outcomes : (n : ℕ) (ms : List Bool) (v : LedgerView) → (with_marks n ms v).outcomes ≡ v.outcomes
marks_outcomes n [] v = refl
marks_outcomes n (true ∷ ms) v = marks_outcomes (n + 1) ms (with_request n v)
marks_outcomes n (false ∷ ms) v = marks_outcomes (n + 1) ms v

-- the number is marked in a row of the numbers from n on
abbrev marked_from : ℕ → List Bool → ℕ → Bool
marked_from n [] f = false
marked_from n (true ∷ ms) f = (n == f) || marked_from (n + 1) ms f
marked_from n (false ∷ ms) f = marked_from (n + 1) ms f

marks_requested : (f n : ℕ) (ms : List Bool) (v : LedgerView) → f < length v.requested
    → requested_at (with_marks n ms v) f ≡ (requested_at v f || marked_from n ms f)
marks_requested f n [] v lt = or_false (requested_at v f)
marks_requested f n (true ∷ ms) v lt =
    marks_requested f (n + 1) ms (with_request n v) (let long = length-set v.requested n true in omega (arith, lt, long))
    ∙ ap (λ (b : Bool). b || marked_from (n + 1) ms f) (request_requested f n v lt) ∙ or_or (requested_at v f) (n == f) (marked_from (n + 1) ms f)
marks_requested f n (false ∷ ms) v lt = marks_requested f (n + 1) ms v lt

none_before : (f n : ℕ) (ms : List Bool) → f < n → marked_from n ms f ≡ false
none_before f n [] lt = refl
none_before f n (true ∷ ms) lt = ap (λ (b : Bool). b || marked_from (n + 1) ms f) (ne_eqb n f (λ e. omega arith)) ∙ none_before f (n + 1) ms (omega arith)
none_before f n (false ∷ ms) lt = none_before f (n + 1) ms (omega arith)

marked_is : (f n k : ℕ) (ms : List Bool) → n + k ≡ f → marked_from n ms f ≡ is_marked ms k
marked_is f n k [] e = refl
marked_is f n zero (true ∷ ms) e = ap (λ (b : Bool). b || marked_from (n + 1) ms f) (eq-eqb n f (omega arith))
marked_is f n zero (false ∷ ms) e = none_before f (n + 1) ms (omega arith)
marked_is f n (suc k) (true ∷ ms) e =
    ap (λ (b : Bool). b || marked_from (n + 1) ms f) (ne_eqb n f (λ same. omega arith)) ∙ marked_is f (n + 1) k ms (omega arith)
marked_is f n (suc k) (false ∷ ms) e = marked_is f (n + 1) k ms (omega arith)

-- requests
abbrev of_number : FiberView PortView → ℕ
of_number x = x.port.words.own.id

abbrev given : FiberView PortView → LedgerView → LedgerView
given x v = record v { given = slice_set v.given (of_number x) true }

live_long : (x : FiberView PortView) (t : TallyView) → length (with_live x t).ledger.requested ≡ length t.ledger.requested
live_long x t = marks_long 0 x.port.noted (with_trace (of_number x) x.trace t.ledger) ∙ told.events_long (of_number x) x.trace (given x t.ledger)

live_requested : (f : ℕ) (x : FiberView PortView) (t : TallyView) → f < length t.ledger.requested
    → requested_at (with_live x t).ledger f ≡ (requested_at t.ledger f || (list_any (is_request_for f) x.trace || is_marked x.port.noted f))
live_requested f x t lt =
    let u = with_trace (of_number x) x.trace t.ledger in
    marks_requested f 0 x.port.noted u (let long = told.events_long (of_number x) x.trace (given x t.ledger) in omega (arith, lt, long))
    ∙ ap (λ (b : Bool). b || marked_from 0 x.port.noted f) (events_requested f (of_number x) x.trace (given x t.ledger) lt)
    ∙ or_or (requested_at t.ledger f) (list_any (is_request_for f) x.trace) (marked_from 0 x.port.noted f)
    ∙ ap (λ (b : Bool). requested_at t.ledger f || (list_any (is_request_for f) x.trace || b)) (marked_is f 0 f x.port.noted (omega arith))

lives_requested : (f : ℕ) (fs : List (FiberView PortView)) (t : TallyView) → f < length t.ledger.requested
    → requested_at (with_lives fs t).ledger f ≡ (requested_at t.ledger f || is_requested_by fs f)
lives_requested f [] t lt = or_false (requested_at t.ledger f)
lives_requested f (x ∷ fs) t lt =
    lives_requested f fs (with_live x t) (let long = live_long x t in omega (arith, lt, long))
    ∙ ap (λ (b : Bool). b || is_requested_by fs f) (live_requested f x t lt)
    ∙ or_or (requested_at t.ledger f) (list_any (is_request_for f) x.trace || is_marked x.port.noted f) (is_requested_by fs f)

lives_long : (fs : List (FiberView PortView)) (t : TallyView) → length (with_lives fs t).ledger.requested ≡ length t.ledger.requested
lives_long [] t = refl
lives_long (x ∷ fs) t = lives_long fs (with_live x t) ∙ live_long x t

-- ends
shown_append : (es gs : List Event) → outcome_shown (es ++ gs) ≡ or_first (outcome_shown es) (outcome_shown gs)
shown_append [] gs = refl
shown_append (event.Ended o ∷ es) gs = refl
shown_append (event.Start g ∷ es) gs = shown_append es gs
shown_append (event.Request g ∷ es) gs = shown_append es gs
shown_append (_ ∷ es) gs = shown_append es gs

or_first_or : (o p q : Option Outcome) → or_first (or_first o p) q ≡ or_first o (or_first p q)
or_first_or None p q = refl
or_first_or (Some x) p q = refl

kept_or : (o : Option Outcome) → o ≡ or_first o None
kept_or None = refl
kept_or (Some x) = refl

live_ends_long : (x : FiberView PortView) (t : TallyView) → length (with_live x t).ledger.outcomes ≡ length t.ledger.outcomes
live_ends_long x t =
    ap (λ (os : List (Option Outcome)). length os) (marks_outcomes 0 x.port.noted (with_trace (of_number x) x.trace t.ledger))
    ∙ told.ends_long (of_number x) x.trace (given x t.ledger)

lives_ends_long : (fs : List (FiberView PortView)) (t : TallyView) → length (with_lives fs t).ledger.outcomes ≡ length t.ledger.outcomes
lives_ends_long [] t = refl
lives_ends_long (x ∷ fs) t = lives_ends_long fs (with_live x t) ∙ live_ends_long x t

abbrev events_if : ℕ → FiberView PortView → List Event
events_if f x = cond (of_number x == f) x.trace []

live_outcome : (f : ℕ) (x : FiberView PortView) (t : TallyView) → f < length t.ledger.outcomes
    → outcome_at (with_live x t).ledger f ≡ or_first (outcome_at t.ledger f) (outcome_shown (events_if f x))
live_outcome f x t lt =
    ap (λ (os : List (Option Outcome)). slice_index_or os f None) (marks_outcomes 0 x.port.noted (with_trace (of_number x) x.trace t.ledger))
    ∙ elim (cases_eq (of_number x) f) [
      | inl same ↦
          subst (λ (i : ℕ). outcome_at (with_events (of_number x) x.trace (given x t.ledger)) i ≡ or_first (outcome_at t.ledger i) (outcome_shown x.trace)) same
          (events_outcome (of_number x) x.trace (given x t.ledger) (omega (arith, lt, same)))
          ∙ sym (ap (λ (b : Bool). or_first (outcome_at t.ledger f) (outcome_shown (cond b x.trace []))) (eq-eqb (of_number x) f same))
      | inr apart ↦
          events_elsewhere f (of_number x) x.trace (given x t.ledger) apart ∙ kept_or (outcome_at t.ledger f)
          ∙ sym (ap (λ (b : Bool). or_first (outcome_at t.ledger f) (outcome_shown (cond b x.trace []))) (ne_eqb (of_number x) f apart))
    ]

lives_outcome : (f : ℕ) (fs : List (FiberView PortView)) (t : TallyView) → f < length t.ledger.outcomes
    → outcome_at (with_lives fs t).ledger f ≡ or_first (outcome_at t.ledger f) (outcome_shown (events_by f fs))
lives_outcome f [] t lt = kept_or (outcome_at t.ledger f)
lives_outcome f (x ∷ fs) t lt =
    lives_outcome f fs (with_live x t) (let long = live_ends_long x t in omega (arith, lt, long))
    ∙ ap (λ (o : Option Outcome). or_first o (outcome_shown (events_by f fs))) (live_outcome f x t lt)
    ∙ or_first_or (outcome_at t.ledger f) (outcome_shown (events_if f x)) (outcome_shown (events_by f fs))
    ∙ ap (or_first (outcome_at t.ledger f)) (sym (shown_append (events_if f x) (events_by f fs)))

-- a list is known by its elements
as_map : {X : Type 0} (g : ℕ → X) (a : ℕ) (xs : List X) (d : X) → ((k : ℕ) → k < length xs → slice_index_or xs k d ≡ g (a + k))
    → xs ≡ map g (range_with_len a (length xs))
as_map g a [] d same = refl
as_map g a (x ∷ xs) d same = ap (λ y. y ∷ xs) (same 0 (omega arith) ∙ ap g (omega arith))
    ∙ ap (λ ys. g a ∷ ys) (as_map g (a + 1) xs d (λ k lt. same (suc k) (omega arith) ∙ ap g (omega arith)))

pub told_outcomes : (s : ScriptView) (fs : List (FiberView PortView))
    → (with_lives fs (empty_tally s)).ledger.outcomes ≡ map (λ f. outcome_shown (events_by f fs)) (range_with_len 0 (total s))
told_outcomes s fs =
    let v = (with_lives fs (empty_tally s)).ledger in
    let none : Option Outcome = None in
    let long : length v.outcomes ≡ total s = lives_ends_long fs (empty_tally s) ∙ length-replicate (total s) none in
    as_map (λ f. outcome_shown (events_by f fs)) 0 v.outcomes None (λ k lt. each k (omega (arith, lt, long)))
    ∙ ap (λ n. map (λ f. outcome_shown (events_by f fs)) (range_with_len 0 n)) long
  where
    each : (k : ℕ) → k < total s → outcome_at (with_lives fs (empty_tally s)).ledger k ≡ outcome_shown (events_by (0 + k) fs)
    each k lt =
        let none : Option Outcome = None in
        let long = length-replicate (total s) none in
        lives_outcome k fs (empty_tally s) (omega (arith, lt, long))
        ∙ ap (λ (o : Option Outcome). or_first o (outcome_shown (events_by k fs))) (get_or-replicate (total s) k none none lt)
        ∙ ap (λ f. outcome_shown (events_by f fs)) (omega arith)

pub told_requested : (s : ScriptView) (fs : List (FiberView PortView))
    → (with_lives fs (empty_tally s)).ledger.requested ≡ map (is_requested_by fs) (range_with_len 0 (total s))
told_requested s fs =
    let v = (with_lives fs (empty_tally s)).ledger in
    let long : length v.requested ≡ total s = lives_long fs (empty_tally s) ∙ length-replicate (total s) false in
    as_map (is_requested_by fs) 0 v.requested false (λ k lt. each k (omega (arith, lt, long)))
    ∙ ap (λ n. map (is_requested_by fs) (range_with_len 0 n)) long
  where
    each : (k : ℕ) → k < total s → requested_at (with_lives fs (empty_tally s)).ledger k ≡ is_requested_by fs (0 + k)
    each k lt =
        let long = length-replicate (total s) false in
        lives_requested k fs (empty_tally s) (omega (arith, lt, long))
        ∙ ap (λ (b : Bool). b || is_requested_by fs k) (get_or-replicate (total s) k false false lt)
        ∙ ap (is_requested_by fs) (omega arith)
