-- What the ledger's lists tell of what a run left is so, and so is who can step by them.
use Rattle.std.proofs.Common.{◌≡◌, ℕ, zero, suc, ◌-◌, ◌^◌, ◌<◌, ◌≤◌, All, Bool, true, false, Option, Some}
use Rattle.std.proofs.Common.{None, option_map, List, [], ◌∷◌, length, map, refl, sym, ◌∙◌, ap, subst, inl, inr, arith}
use Rattle.std.specs.Prelude.{◌==◌, ◌||◌, nat_lt, if◌then◌else◌, slice_index, slice_index_or}
use Rattle.std.specs.List.{find, list_any}
use Rattle.std.proofs.lemmas.Bool.{eqb-true, cases_lt, lt-ltb, le-ltb}
use Rattle.std.proofs.lemmas.Option.{none-some, same_Some}
use Rattle.std.proofs.lemmas.List.{length-replicate, get_or-replicate, get_or_past, length-map}
use Rattle.std.proofs.lemmas.List.Elements.{All-head, All-tail}
use Rattle.std.proofs.lemmas.List.Kept.{AllPairs-from_increasing}
use Rattle.fx_term.specs.Lists.{Among}
use Rattle.fx_term.specs.declared.item.Item.{Item}
use Rattle.fx_term.specs.Element.{Element, element_of, elements_of}
use Rattle.fx_term.specs.declared.outcome.Outcome.{Outcome}
use Rattle.fx_term.specs.Script.{ScriptView, total}
use Rattle.fx_model.specs.declared.closed.Closed.{Closed}
use Rattle.fx_model.specs.Outside.{can_step}
use Rattle.fx_model.specs.Report.{FiberReportView, ReportView, trace_of_report, trace_in}
use Rattle.fx_model.specs.Report.{left_in, outcome_shown, is_request_for, is_requested_in, final_outside}
use Rattle.fx_fiber.specs.Bare.{BareView, reached}
use Rattle.fx_report.proofs.Keys.{RisesFrom, rises_from}
use Rattle.fx_text.specs.declared.queue_decl.QueueDecl.{QueueDecl}
use Rattle.fx_text.specs.QueuesView.{view_queues}
use Rattle.fx_run.specs.Reported.{AreAscending, bare_at, report_of_bare, report_of, NoneIsLost, IsUnsettled, NoneIsUnsettled, IsLeast, IsReported}
use Rattle.fx_run.specs.Ledger.{LedgerView, empty_ledger, with_fibers, with_requests}
use Rattle.fx_run.specs.ClosedAs.{within_32_bits, lengths_of, IsClosedAs, can_step_by, report_by}
use Rattle.fx_run.proofs.Members.{among_all, found_is, found_itself}
use Rattle.fx_run.proofs.GivenFibers.{report_at}
use Rattle.fx_run.proofs.LostLaws.{nowhere_past, parent_told}
use Rattle.fx_run.proofs.TallyLaws.{requested_at, fibers_long, fibers_requested, requests_requested, requests_outcomes, requests_parents}
use Rattle.fx_run.proofs.TallyLaws.{outcome_at, outcome_of}
use Rattle.fx_run.proofs.TallyLaws.{fibers_outcome, fibers_ends_long}
use Rattle.fx_run.proofs.ClosedLists.{closed_lists_tell}

any_map : {A B : Type 0} (test : B → Bool) (h : A → B) (xs : List A) → list_any test (map h xs) ≡ list_any (λ x. test (h x)) xs
any_map test h [] = refl
any_map test h (x ∷ xs) = ap (λ (b : Bool). test (h x) || b) (any_map test h xs)

-- a length within 32 bits compares as it is
within_32_bits_below : (n c : ℕ) → c < 2 ^ 32 → nat_lt (within_32_bits n) c ≡ nat_lt n c
within_32_bits_below n c fits = elim (cases_lt n (2 ^ 32 - 1)) [
  | inl lt ↦ ap (λ (b : Bool). nat_lt (if b then n else 2 ^ 32 - 1) c) (lt-ltb n (2 ^ 32 - 1) lt)
  | inr le ↦
      ap (λ (b : Bool). nat_lt (if b then n else 2 ^ 32 - 1) c) (le-ltb n (2 ^ 32 - 1) le)
      ∙ le-ltb (2 ^ 32 - 1) c (omega (arith, fits)) ∙ sym (le-ltb n c (omega (arith, fits, le)))
]

within_32_bits_some : (n : ℕ) → nat_lt 0 (within_32_bits n) ≡ nat_lt 0 n
within_32_bits_some n = elim (cases_lt n (2 ^ 32 - 1)) [
  | inl lt ↦ ap (λ (b : Bool). nat_lt 0 (if b then n else 2 ^ 32 - 1)) (lt-ltb n (2 ^ 32 - 1) lt)
  | inr le ↦ ap (λ (b : Bool). nat_lt 0 (if b then n else 2 ^ 32 - 1)) (le-ltb n (2 ^ 32 - 1) le) ∙ sym (lt-ltb 0 n (omega (arith, le)))
]

length_at : (left : List (List Item)) (q : ℕ) → slice_index (lengths_of left) q ≡ within_32_bits (length (slice_index_or (map elements_of left) q []))
length_at [] q = refl
length_at (xs ∷ left) zero = ap within_32_bits (sym (length-map xs element_of))
length_at (xs ∷ left) (suc q) = length_at left q

each_fits : (ns : List ℕ) (q : ℕ) → All (λ (n : ℕ). n < 2 ^ 32) ns → slice_index ns q < 2 ^ 32
each_fits [] q h = omega arith
each_fits (n ∷ ns) zero h = All-head (λ (m : ℕ). m < 2 ^ 32) n ns h
each_fits (n ∷ ns) (suc q) h = each_fits ns q (All-tail (λ (m : ℕ). m < 2 ^ 32) n ns h)

-- the first that passes has the least number of those that do
rises_among : (n : ℕ) (xs : List BareView) (y : BareView) → RisesFrom (λ (x : BareView). x.id) n xs → Among y xs → n ≤ y.id
rises_among n [] y rises i = absurd i
rises_among n (x ∷ xs) y rises (inl same) = subst (λ (z : BareView). n ≤ z.id) (sym same) rises.0
rises_among n (x ∷ xs) y rises (inr i) = let low = rises.0 in let above = rises_among (suc x.id) xs y rises.1 i in omega (arith, low, above)

found_least : (test : BareView → Bool) (n : ℕ) (xs : List BareView) (x y : BareView) → RisesFrom (λ (z : BareView). z.id) n xs → find test xs ≡ Some x
    → Among y xs → test y ≡ true → x.id ≤ y.id
found_least test n [] x y rises e i passes = absurd i
found_least test n (z ∷ zs) x y rises e i passes = by_test (test z) refl (λ later j. found_least test (suc z.id) zs x y rises.1 later j passes)
  where
    by_test : (b : Bool) → test z ≡ b → (find test zs ≡ Some x → Among y zs → x.id ≤ y.id) → x.id ≤ y.id
    by_test true is rest =
        let same : z ≡ x = same_Some z x (rw is at e) in
        subst (λ (w : BareView). w.id ≤ y.id) same (elim i [
          | inl here ↦ subst (λ (w : BareView). z.id ≤ w.id) (sym here) (omega arith)
          | inr j ↦ (let above = rises_among (suc z.id) zs y rises.1 j in omega (arith, above))
        ])
    by_test false is rest = elim i [
      | inl here ↦ absurd (let no : false ≡ true = sym is ∙ ap test (sym here) ∙ passes in cc)
      | inr j ↦ rest (rw is at e) j
    ]

none_passes : {A : Type 0} (test : A → Bool) (xs : List A) (y : A) → find test xs ≡ None → Among y xs → test y ≡ false
none_passes test [] y e i = absurd i
none_passes {A = A} test (z ∷ zs) y e i = by_test (test z) refl (none_passes test zs y)
  where
    by_test : (b : Bool) → test z ≡ b → (find test zs ≡ None → Among y zs → test y ≡ false) → test y ≡ false
    by_test true is rest = absurd (none-some z (let none : Some z ≡ None = (rw is at e) in sym none))
    by_test false is rest = elim i [ inl here ↦ ap test here ∙ is | inr j ↦ rest (rw is at e) j ]

module _ (s : ScriptView) (bares : List BareView) (left : List (List Item)) (outside : List ℕ) (late : ℕ) (ascending : AreAscending bares)
    (some : 0 < total s) (below : All (λ (x : BareView). x.id < total s) bares) where
  abbrev pub r : ReportView
  r = report_of bares left outside late

  abbrev given : LedgerView
  given = with_fibers bares (empty_ledger (total s))

  abbrev pub told : LedgerView
  told = with_requests outside given

  outcomes_long : length given.outcomes ≡ total s
  outcomes_long = let none : Option Outcome = None in fibers_ends_long bares (empty_ledger (total s)) ∙ length-replicate (total s) none

  shown_at : (o : Option BareView) → outcome_of o ≡ outcome_shown (trace_of_report (option_map (report_of_bare bares) o))
  shown_at None = refl
  shown_at (Some x) = refl

  in_trace : (f : ℕ) → outcome_of (bare_at bares f) ≡ outcome_shown (trace_in r f)
  in_trace f = shown_at (bare_at bares f) ∙ sym (ap (λ (o : Option FiberReportView). outcome_shown (trace_of_report o)) (report_at bares left outside late f))

  outcomes_told : (f : ℕ) → outcome_at told f ≡ outcome_shown (trace_in r f)
  outcomes_told f = ap (λ (os : List (Option Outcome)). slice_index_or os f None) (requests_outcomes outside given) ∙ elim (cases_lt f (total s)) [
    | inl lt ↦
        (let none : Option Outcome = None in
        let long = length-replicate (total s) none in
        fibers_outcome 0 f bares (empty_ledger (total s)) (rises_from (λ (x : BareView). x.id) bares ascending) (omega (arith, lt, long))
        (get_or-replicate (total s) f None None lt) ∙ in_trace f)
    | inr le ↦
        get_or_past given.outcomes f None (let long = outcomes_long in omega (arith, long, le))
        ∙ sym (ap outcome_of (nowhere_past bares ascending (total s) some below f le)) ∙ in_trace f
  ]

  requested_told : (f : ℕ) → f < total s → requested_at told f ≡ is_requested_in r f
  requested_told f lt =
      let long = length-replicate (total s) false in
      let wide = fibers_long bares (empty_ledger (total s)) in
      requests_requested f outside given (omega (arith, lt, long, wide))
      ∙ ap (λ (b : Bool). b || list_any (λ g. g == f) outside) (fibers_requested f bares (empty_ledger (total s)) (omega (arith, lt, long))
      ∙ ap (λ (b : Bool). b || list_any (λ (x : BareView). list_any (is_request_for f) x.trace) bares) (get_or-replicate (total s) f false false lt)
      ∙ sym (any_map (λ (x : FiberReportView). list_any (is_request_for f) x.trace) (report_of_bare bares) bares))

  module _ (c : Closed) (caps : c.caps.items ≡ s.capacities) (fits : All (λ (n : ℕ). n < 2 ^ 32) c.caps.items) (rests : c.rests.items ≡ lengths_of left)
      (outcomes : c.outcomes.items ≡ told.outcomes) (requested : c.requested.items ≡ told.requested) where
    is_closed_as : IsClosedAs s r c
    is_closed_as = record {
      room = λ q.
          ap (λ (n : ℕ). nat_lt n (slice_index c.caps.items q)) (ap (λ (ns : List ℕ). slice_index ns q) rests ∙ length_at left q)
          ∙ within_32_bits_below (length (left_in r q)) (slice_index c.caps.items q) (each_fits c.caps.items q fits)
          ∙ ap (λ (ns : List ℕ). nat_lt (length (left_in r q)) (slice_index ns q)) caps;
      element = λ q.
          ap (nat_lt 0) (ap (λ (ns : List ℕ). slice_index ns q) rests ∙ length_at left q) ∙ within_32_bits_some (length (left_in r q));
      outcomes = λ f. ap (λ (os : List (Option Outcome)). slice_index_or os f None) outcomes ∙ outcomes_told f;
      requested = λ f lt. ap (λ (bs : List Bool). slice_index_or bs f false) requested ∙ requested_told f lt;
    }

    -- who can step by the lists can by the report
    alike : (f : ℕ) (x : BareView) → bare_at bares f ≡ Some x → can_step_by c x ≡ can_step (final_outside s r) f x.counts (reached x)
    alike f x at =
        let is = found_is (λ (y : BareView). y.id == f) bares x at in
        let number : x.id ≡ f = eqb-true x.id f is.0 in
        closed_lists_tell s r c is_closed_as x.id (among_all (λ (y : BareView). y.id < total s) bares x below is.1) x.counts (reached x)
        ∙ ap (λ (n : ℕ). can_step (final_outside s r) n x.counts (reached x)) number

    pub none_unsettled : option_map (λ (x : BareView). x.id) (find (can_step_by c) bares) ≡ None → NoneIsUnsettled s bares r
    none_unsettled none f x at = by_found (find (can_step_by c) bares) refl none
      where
        by_found : (o : Option BareView) → find (can_step_by c) bares ≡ o → option_map (λ (y : BareView). y.id) o ≡ None
            → can_step (final_outside s r) f x.counts (reached x) ≡ false
        by_found None is e = sym (alike f x at) ∙ none_passes (can_step_by c) bares x is (found_is (λ (y : BareView). y.id == f) bares x at).1
        by_found (Some y) is e = absurd (none-some y.id (sym e))

    pub least_unsettled : (f : ℕ) → option_map (λ (x : BareView). x.id) (find (can_step_by c) bares) ≡ Some f → IsLeast (IsUnsettled s bares r) f
    least_unsettled f e = by_found (find (can_step_by c) bares) refl e
      where
        by_found : (o : Option BareView) → find (can_step_by c) bares ≡ o → option_map (λ (y : BareView). y.id) o ≡ Some f
            → IsLeast (IsUnsettled s bares r) f
        by_found None is e = absurd (none-some f e)
        by_found (Some x) is e =
            let number : x.id ≡ f = same_Some x.id f e in
            let found = found_is (can_step_by c) bares x is in
            let itself = found_itself (λ (y : BareView). y.id) bares (AllPairs-from_increasing _ ascending) x found.1 in
            let at : bare_at bares f ≡ Some x = ap (bare_at bares) (sym number) ∙ itself in (
              (x, at, sym (alike f x at) ∙ found.0),
              λ g lt u.
                  (let there = found_is (λ (z : BareView). z.id == g) bares u.0 u.1 in
                  let same : u.0.id ≡ g = eqb-true u.0.id g there.0 in
                  let least =
                  found_least (can_step_by c) 0 bares x u.0 (rises_from (λ (z : BareView). z.id) bares ascending) is there.1 (alike g u.0 u.1 ∙ u.2) in
                  omega (arith, lt, number, same, least)),
            )

  -- the parents that the ledger has are those that are reported
  pub reports_alike : (parents : List (Option ℕ)) → parents ≡ told.parents → map (report_by parents) bares ≡ map (report_of_bare bares) bares
  reports_alike parents is = each bares below
    where
      each : (xs : List BareView) → All (λ (x : BareView). x.id < total s) xs → map (report_by parents) xs ≡ map (report_of_bare bares) xs
      each [] h = refl
      each (x ∷ xs) h =
          let lt = All-head (λ (y : BareView). y.id < total s) x xs h in
          let parent = ap (λ (ps : List (Option ℕ)). slice_index_or ps x.id None) (is ∙ requests_parents outside given)
          ∙ parent_told bares ascending (total s) some below x.id lt in
          let rest = each xs (All-tail (λ (y : BareView). y.id < total s) x xs h) in
          cc

-- the capacities of the queues that a script declares
pub declared_capacities : (queues : List QueueDecl) → map (λ (q : QueueDecl). q.cap) queues ≡ map (λ (q : List ℕ × ℕ). q.1) (view_queues queues)
declared_capacities [] = refl
declared_capacities (q ∷ queues) = ap (λ (ns : List ℕ). q.cap ∷ ns) (declared_capacities queues)

some_total : (s : ScriptView) → 0 < total s
some_total s = omega arith

-- what `report` answers, by all that it found
module _ (s : ScriptView) (bares : List BareView) (left : List (List Item)) (outside : List ℕ) (late n : ℕ) (same : n ≡ total s)
    (ascending : AreAscending bares) (below : All (λ (x : BareView). x.id < total s) bares) (c : Closed) (parents : List (Option ℕ)) (found : Option ℕ)
    (caps : c.caps.items ≡ s.capacities) (fits : All (λ (k : ℕ). k < 2 ^ 32) c.caps.items) (rests : c.rests.items ≡ lengths_of left)
    (outcomes : c.outcomes.items ≡ (with_requests outside (with_fibers bares (empty_ledger n))).outcomes)
    (requested : c.requested.items ≡ (with_requests outside (with_fibers bares (empty_ledger n))).requested)
    (found_is : found ≡ option_map (λ (x : BareView). x.id) (find (can_step_by c) bares)) (whole : NoneIsLost bares) where
  abbrev ledger_of : ℕ → LedgerView
  ledger_of k = with_requests outside (with_fibers bares (empty_ledger k))

  pub unsettled_answer : (f : ℕ) → found ≡ Some f → NoneIsLost bares × IsLeast (IsUnsettled s bares (report_of bares left outside late)) f
  unsettled_answer f e = (
    whole,
    least_unsettled s bares left outside late ascending (some_total s) below c caps fits rests
        (outcomes ∙ ap (λ (k : ℕ). (ledger_of k).outcomes) same) (requested ∙ ap (λ (k : ℕ). (ledger_of k).requested) same) f (sym found_is ∙ e),
  )

  pub reported_answer : (fibers : List FiberReportView) (rest : List (List Element)) → found ≡ None
      → parents ≡ (with_requests outside (with_fibers bares (empty_ledger n))).parents → fibers ≡ map (report_by parents) bares
      → rest ≡ map elements_of left
      → IsReported s bares (report_of bares left outside late) (record { fibers = fibers; left = rest; outside = outside; late = late })
  reported_answer fibers rest e parents_are are rest_is = record {
    none_lost = whole;
    none_unsettled = none_unsettled s bares left outside late ascending (some_total s) below c caps fits rests
        (outcomes ∙ ap (λ (k : ℕ). (ledger_of k).outcomes) same) (requested ∙ ap (λ (k : ℕ). (ledger_of k).requested) same) (sym found_is ∙ e);
    is = ap (λ (xs : List (List Element)). record { fibers = fibers; left = xs; outside = outside; late = late }) rest_is
        ∙ ap (λ (fs : List FiberReportView). record { fibers = fs; left = map elements_of left; outside = outside; late = late })
        (are ∙ reports_alike s bares left outside late ascending (some_total s) below parents
        (parents_are ∙ ap (λ (k : ℕ). (ledger_of k).parents) same));
  }
