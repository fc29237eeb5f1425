-- A main fiber that races a side that is canceled, or waits for good, comes to what the other side comes to.
use Rattle.std.proofs.Common.{◌≡◌, ℕ, suc, ◌+◌, ◌⊎◌, inl, inr, Bool, false, Option, Some, None, List, [], ◌∷◌, All, refl, sym, ◌∙◌, ap, subst, arith}
use Rattle.std.specs.Prelude.{◌==◌, nat_lt, Contains}
use Rattle.std.proofs.lemmas.Bool.{cases_eq, eq-eqb, ne_eqb}
use Rattle.std.proofs.lemmas.Option.{none-some}
use Rattle.std.proofs.lemmas.List.Elements.{All-head}
use Rattle.fx_term.specs.declared.outcome.Outcome.{Outcome}
use Rattle.fx_term.specs.declared.outcome.Outcome.TheVariants.{Succeeded, Errored}
use Rattle.fx_term.specs.declared.outcome.Outcome.TheVariants as outcome
use Rattle.fx_term.specs.Need.{need}
use Rattle.fx_term.specs.Term.{Term, Canceled, Never, Start, put}
use Rattle.fx_term.specs.Script.{ScriptView}
use Rattle.fx_text.specs.Race.{race_slots, deciding, race}
use Rattle.fx_model.specs.Row.{Counts, Label, Silent, Starts, numbers_taken, one_more_mask}
use Rattle.fx_model.specs.Row as row
use Rattle.fx_model.specs.Origin.{Origin, main_origin, child_origin}
use Rattle.fx_model.specs.Step.{Progress, Runs, HasEnded, has_ended, Step}
use Rattle.fx_model.specs.Step as step
use Rattle.fx_model.specs.Run.{first_counts, Leads, IsRun, IsUnrequested, events}
use Rattle.fx_model.specs.Scopes.{IsScopedOver}
use Rattle.fx_model.specs.Report.{FiberReportView, ReportView, fiber_in, trace_of_report, trace_in, outcome_shown, is_requested_in}
use Rattle.fx_model.specs.LawfulReport.{starts_of, EndsWith, IsLawfulReport}
use Rattle.fx_model.specs.Causes.{IsLawfulInOneOrder}
use Rattle.fx_model.proofs.Paths.{no_context}
use Rattle.fx_spawn_laws.specs.MainFiber.{MainEnds}
use Rattle.fx_spawn_laws.specs.Races.{RanUnrequested, MainFollows, MainEndsUnlessCanceled}
use Rattle.fx_spawn_laws.proofs.LearntOutcomes.{learnt_outcome}
use Rattle.fx_spawn_laws.proofs.Requests.{BeginsAbove, main_is_unrequested, unrequested_by_traces}
use Rattle.fx_spawn_laws.proofs.IgnoredNumbers.{BeginsBelow, Ignores, above, below, idle, others_ignore}
use Rattle.fx_spawn_laws.proofs.HaltingRuns.{GoesTo, goes_to, runs_to_halt}
use Rattle.fx_spawn_laws.proofs.Outcomes.{can_by_leaf}
use Rattle.fx_spawn_laws.proofs.StartAndJoin.{none_where_not_ended}
use Rattle.fx_spawn_laws.proofs.StartedFibers.{main_ends, main_is_blocked, child_in_report, child_begins, main_runs, told_by_labels, shown_at}
use Rattle.fx_spawn_laws.proofs.StartedFibers.{requested_never_ends, canceled_child_ends}
use Rattle.fx_spawn_laws.proofs.RaceLaws.{never_on, none_or_canceled}
use Rattle.fx_spawn_laws.proofs.RaceRuns.{inside, both_started, RacedSo, race_is}
use Rattle.fx_spawn_laws.proofs.UnseenRequests.{RequestsNone, IsLearntFirst, OthersRequestNone, sees_none}
use Rattle.fx_spawn_laws.proofs.RaceFacts.{whole, whole_starts_so, MainShows, left_canceled, right_canceled, unless_canceled}
use Rattle.fx_spawn_laws.proofs.RaceFacts.{NeverRaced, fine, asked, unasked, learnt, left_waits, right_waits}

-- a fiber at `never` that sees no request makes no step
never_stays : (c d : Counts) (q : Progress) (ls : List Label) → c.known ≡ false → Leads c (Runs Never) ls d q → All IsUnrequested ls
    → outcome_shown (events ls) ≡ None
never_stays c d q [] free h unseen = refl
never_stays c d q (l ∷ ls) free h unseen = absurd (no_step h.2 (All-head IsUnrequested l ls unseen))
  where
    no_step : {e : Counts} {m : Progress} {k : Label} → Step c (Runs Never) k e m → IsUnrequested k → ⊥
    no_step (step.cancelled must) none = cc
    no_step (step.seen free_here open_here) none = none refl
    no_step (step.row free_here (row.inside f e j r)) none = no_context f _ _ refl e

module _ (s : ScriptView) (may : ℕ → Bool) (r : ReportView) (h : IsLawfulInOneOrder s may r) (alone : r.outside ≡ []) where
  abbrev lawful : IsLawfulReport s may r
  lawful = h.lawful

  abbrev labels_of : ℕ → List Label
  labels_of f = lawful.runs.labels f

  abbrev came_to : ℕ → Option Outcome
  came_to f = outcome_shown (trace_in r f)

  module _ (x : ℕ) (y : FiberReportView) (at : fiber_in r x ≡ Some y) (b : Origin) (begins : lawful.runs.origin x ≡ b) where
    -- what sees no request ran as one that nobody requests
    abbrev ran_so : All IsUnrequested (labels_of x) → RanUnrequested r x b
    ran_so unseen =
        let run = lawful.runs.run x y at in
        record {
          fiber = y;
          is_fiber = at;
          labels = labels_of x;
          counts = lawful.runs.counts x;
          progress = lawful.runs.progress x;
          run = subst (λ (a : Origin). IsRun a (labels_of x) (lawful.runs.counts x) (lawful.runs.progress x)) begins run.run;
          trace = run.trace;
          state = run.state;
          unrequested = unseen;
        }

    told_end : (o : Outcome) → EndsWith y.trace o → came_to x ≡ Some o
    told_end o e = learnt_outcome s may r lawful x o (record { before = e.before; is = ap trace_of_report at ∙ e.is })

    told_none : y.has_ended ≡ false → came_to x ≡ None
    told_none blocked =
        told_by_labels s may r lawful x y at ∙ shown_at s may r lawful x y at
        ∙ none_where_not_ended (lawful.runs.progress x) ((lawful.runs.run x y at).state ∙ blocked)

    -- the main fiber shows what x came to
    follows : All IsUnrequested (labels_of x) → outcome_shown (events (labels_of 0)) ≡ came_to x → MainFollows r x b (MainEnds r)
    follows unseen shows =
        record {
          ran = ran_so unseen;
          ends = λ o e. main_ends s may r lawful o (shows ∙ told_end o e);
          waits = λ blocked. main_is_blocked s may r lawful (shows ∙ told_none blocked);
        }

    follows_unless : All IsUnrequested (labels_of x) → outcome_shown (events (labels_of 0)) ≡ unless_canceled (came_to x)
        → MainFollows r x b (MainEndsUnlessCanceled r)
    follows_unless unseen shows =
        record {
          ran = ran_so unseen;
          ends = ends;
          waits = λ blocked. main_is_blocked s may r lawful (shows ∙ ap unless_canceled (told_none blocked));
        }
      where
        ends : (o : Outcome) → EndsWith y.trace o → MainEndsUnlessCanceled r o
        ends (Succeeded n) e = main_ends s may r lawful (Succeeded n) (shows ∙ ap unless_canceled (told_end (Succeeded n) e))
        ends (Errored n) e = main_ends s may r lawful (Errored n) (shows ∙ ap unless_canceled (told_end (Errored n) e))
        ends outcome.Canceled e = main_is_blocked s may r lawful (shows ∙ ap unless_canceled (told_end outcome.Canceled e))

    -- what nobody requests sees no request
    unseen_where_unasked : OthersRequestNone s may r h alone x → RequestsNone x (events (labels_of 0)) → All IsUnrequested (labels_of x)
    unseen_where_unasked others main = (runs_to_halt s may r lawful x y at quiet).unseen
      where
        quiet : is_requested_in r x ≡ false
        quiet =
            unrequested_by_traces s may r lawful alone x
            (λ f z at_f. elim (cases_eq f 0) [
              | inl e ↦ subst (λ (k : ℕ). RequestsNone x (events (labels_of k))) (sym e) main
              | inr ne ↦ others f z at_f ne
            ])

  module _ (left right : Term) (is : s.term ≡ race (race_slots 0) left right) (scoped : IsScopedOver (nat_lt 0) s.term) where
    abbrev before : Counts
    before = first_counts (main_origin (race (race_slots 0) left right))

    abbrev in_mask : Counts
    in_mask = one_more_mask before

    abbrev left_side : Term
    left_side = put 0 0 left

    abbrev right_side : Term
    right_side = put 1 1 (put 0 0 right)

    abbrev g : ℕ
    g = 1 + (1 + need left_side)

    abbrev with_one : Counts
    with_one = numbers_taken (1 + need left_side) in_mask

    abbrev with_two : Counts
    with_two = numbers_taken (1 + need right_side) with_one

    abbrev first_origin : Origin
    first_origin = child_origin 1 left_side

    abbrev second_origin : Origin
    second_origin = child_origin g right_side

    abbrev entered_term : Term
    entered_term = inside (Start 1 left_side (Start 2 (put 0 0 right) (put 0 0 (deciding (race_slots 0)))))

    abbrev left_started : Term
    left_started = inside (Start 2 right_side (put 1 1 (put 0 0 (deciding (race_slots 0)))))

    entered : GoesTo s r 0 (record { label = Silent; counts = in_mask; progress = Runs entered_term }) (labels_of 0)
    entered =
        goes_to s r 0 before (Runs (race (race_slots 0) left right)) (labels_of 0) _
        (main_runs s may r lawful alone (race (race_slots 0) left right) is (subst (IsScopedOver (nat_lt 0)) is scoped))
        (can_by_leaf s r 0 before (race (race_slots 0) left right) refl) tt (λ room front. refl)

    one_started : GoesTo s r 0 (record { label = Starts 1 first_origin; counts = with_one; progress = Runs left_started }) entered.labels
    one_started =
        goes_to s r 0 in_mask (Runs entered_term) entered.labels _ entered.rest (can_by_leaf s r 0 in_mask entered_term refl) tt (λ room front. refl)

    two_started : GoesTo s r 0 (record { label = Starts g second_origin; counts = with_two; progress = Runs (inside (both_started 1 g)) }) one_started.labels
    two_started =
        goes_to s r 0 with_one (Runs left_started) one_started.labels _ one_started.rest (can_by_leaf s r 0 with_one left_started refl) tt
        (λ room front. refl)

    quiet : is_requested_in r 0 ≡ false
    quiet = main_is_unrequested s may r lawful alone scoped

    g_apart : (g == 1) ≡ false
    g_apart = ne_eqb g 1 (λ e. absurd (omega (arith, e)))

    one_apart : (1 == g) ≡ false
    one_apart = ne_eqb 1 g (λ e. absurd (omega (arith, e)))

    raced : (rest : List Label) × (two_started.labels ≡ Silent ∷ rest) × RacedSo 1 g (came_to 1) (came_to g) rest
    raced = race_is s r quiet with_two refl 1 g g_apart (came_to 1) (came_to g) refl refl two_started.labels two_started.rest

    all_is : labels_of 0 ≡ whole 1 g first_origin second_origin raced.0
    all_is =
        entered.is
        ∙ ap (λ (ls : List Label). Silent ∷ ls) (one_started.is
        ∙ ap (λ (ls : List Label). Starts 1 first_origin ∷ ls) (two_started.is ∙ ap (λ (ls : List Label). Starts g second_origin ∷ ls) raced.1))

    left_child : (y : FiberReportView) × (fiber_in r 1 ≡ Some y)
    left_child = child_in_report s may r lawful 1 _ (ap (λ (ls : List Label). starts_of 1 (events ls)) all_is)

    right_starts : starts_of g (events (whole 1 g first_origin second_origin raced.0)) ≡ suc (starts_of g (events raced.0))
    right_starts = rw (one_apart, eq-eqb g g refl) refl

    right_child : (y : FiberReportView) × (fiber_in r g ≡ Some y)
    right_child = child_in_report s may r lawful g _ (ap (λ (ls : List Label). starts_of g (events ls)) all_is ∙ right_starts)

    left_begins : lawful.runs.origin 1 ≡ first_origin
    left_begins = child_begins s may r lawful 1 (record { origin = first_origin; holds = rw all_is (1, omega arith, refl) })

    right_begins : lawful.runs.origin g ≡ second_origin
    right_begins = child_begins s may r lawful g (record { origin = second_origin; holds = rw all_is (2, omega arith, refl) })

    -- who requests a side is the main fiber alone
    others : (x : ℕ) → Ignores x first_origin → Ignores x second_origin → OthersRequestNone s may r h alone x
    others x so so' =
        others_ignore x s may r lawful (rw all_is (whole_starts_so (Ignores x) first_origin second_origin raced.2 so so'))

    -- one side is canceled: the labels tell what the other one came to
    canceled_follows : (x : ℕ) (y : FiberReportView) (at : fiber_in r x ≡ Some y) (b : Origin) → lawful.runs.origin x ≡ b → OthersRequestNone s may r h alone x
        → MainShows x (came_to x) (came_to x) (whole 1 g first_origin second_origin raced.0) → MainFollows r x b (MainEnds r)
    canceled_follows x y at b begins none facts =
        follows x y at b begins (by_asks here.asks) here.outcome_is
      where
        here : MainShows x (came_to x) (came_to x) (labels_of 0)
        here = rw all_is facts

        by_asks : (RequestsNone x (events (labels_of 0)) ⊎ ((first : IsLearntFirst x (labels_of 0)) × (came_to x ≡ Some first.outcome)))
            → All IsUnrequested (labels_of x)
        by_asks (inl main) = unseen_where_unasked x y at b begins none main
        by_asks (inr k) = sees_none s may r h alone x y at none k.0.outcome k.1 k.0 refl

    pub left_canceled_follows : left_side ≡ Canceled → BeginsAbove g second_origin → MainFollows r g second_origin (MainEnds r)
    left_canceled_follows canceled so =
        canceled_follows g right_child.0 right_child.1 second_origin right_begins (others g (idle (rw canceled tt)) (above so))
        (left_canceled 1 g first_origin second_origin one_apart g_apart
        (subst (λ (v : Option Outcome). RacedSo 1 g v (came_to g) raced.0) ended raced.2))
      where
        ended : came_to 1 ≡ Some outcome.Canceled
        ended =
            canceled_child_ends s may r lawful 1 _ (ap (λ (ls : List Label). starts_of 1 (events ls)) all_is) first_origin canceled
            (rw all_is (1, omega arith, refl))

    pub right_canceled_follows : right_side ≡ Canceled → BeginsAbove 1 first_origin → MainFollows r 1 first_origin (MainEnds r)
    right_canceled_follows canceled so =
        canceled_follows 1 left_child.0 left_child.1 first_origin left_begins (others 1 (above so) (idle (rw canceled tt)))
        (right_canceled 1 g first_origin second_origin one_apart g_apart
        (subst (λ (v : Option Outcome). RacedSo 1 g (came_to 1) v raced.0) ended raced.2))
      where
        ended : came_to g ≡ Some outcome.Canceled
        ended =
            canceled_child_ends s may r lawful g _ (ap (λ (ls : List Label). starts_of g (events ls)) all_is ∙ right_starts) second_origin canceled
            (rw all_is (2, omega arith, refl))

    -- one side waits for good: the labels tell what the other one came to, unless it was canceled
    module _ (a : ℕ) (z : FiberReportView) (at_a : fiber_in r a ≡ Some z) (n : ℕ) (starts : starts_of a (events (labels_of 0)) ≡ suc n) (first : Origin)
        (begins_a : lawful.runs.origin a ≡ first) (waits : first.term ≡ Never) (holds : Contains (labels_of 0) (Starts a first))
        (none_a : OthersRequestNone s may r h alone a) where
      run_a : Leads (first_counts first) (Runs Never) (labels_of a) (lawful.runs.counts a) (lawful.runs.progress a)
      run_a =
          subst (λ (t : Term). Leads (first_counts first) (Runs t) (labels_of a) (lawful.runs.counts a) (lawful.runs.progress a)) waits
          (subst (λ (b : Origin). IsRun b (labels_of a) (lawful.runs.counts a) (lawful.runs.progress a)) begins_a (lawful.runs.run a z at_a).run)

      pub waits_or_canceled : (came_to a ≡ None) ⊎ (came_to a ≡ Some outcome.Canceled)
      waits_or_canceled =
          let on = never_on _ (lawful.runs.counts a) _ (lawful.runs.progress a) (labels_of a) run_a tt in
          let shown = told_by_labels s may r lawful a z at_a ∙ shown_at s may r lawful a z at_a in
          elim (none_or_canceled (lawful.runs.progress a) on) [ inl none ↦ inl (shown ∙ none) | inr ended ↦ inr (shown ∙ ended) ]

      not_unseen : All IsUnrequested (labels_of a) → came_to a ≡ Some outcome.Canceled → ⊥
      not_unseen unseen ended =
          let none = told_by_labels s may r lawful a z at_a ∙ never_stays _ (lawful.runs.counts a) (lawful.runs.progress a) (labels_of a) refl run_a unseen in
          none-some outcome.Canceled (sym none ∙ ended)

      pub never_follows : (x : ℕ) (y : FiberReportView) (at : fiber_in r x ≡ Some y) (b : Origin) → lawful.runs.origin x ≡ b
          → OthersRequestNone s may r h alone x → NeverRaced a x (came_to a) (came_to x) (labels_of 0) → MainFollows r x b (MainEndsUnlessCanceled r)
      never_follows x y at b begins none (fine shows main) = follows_unless x y at b begins (unseen_where_unasked x y at b begins none main) shows
      never_follows x y at b begins none (asked asks is_none) =
          absurd (let ended = requested_never_ends s may r lawful a n starts first waits holds asks in
          none-some outcome.Canceled (sym is_none ∙ ended))
      never_follows x y at b begins none (unasked main ended) =
          absurd (not_unseen (unseen_where_unasked a z at_a first begins_a none_a main) ended)
      never_follows x y at b begins none (learnt k o ended) =
          absurd (not_unseen (sees_none s may r h alone a z at_a none_a outcome.Canceled ended k o) ended)

    pub left_never_follows : left_side ≡ Never → BeginsAbove g second_origin → BeginsAbove 1 second_origin
        → MainFollows r g second_origin (MainEndsUnlessCanceled r)
    left_never_follows never so so_one =
        let starts = ap (λ (ls : List Label). starts_of 1 (events ls)) all_is in
        let holds : Contains (labels_of 0) (Starts 1 first_origin) = rw all_is (1, omega arith, refl) in
        let none_a = others 1 (idle (rw never tt)) (above so_one) in
        let state = waits_or_canceled 1 left_child.0 left_child.1 _ starts first_origin left_begins never holds none_a in
        never_follows 1 left_child.0 left_child.1 _ starts first_origin left_begins never holds none_a g right_child.0 right_child.1 second_origin
        right_begins (others g (idle (rw never tt)) (above so))
        (subst (λ (ls : List Label). NeverRaced 1 g (came_to 1) (came_to g) ls) (sym all_is)
        (left_waits 1 g first_origin second_origin one_apart g_apart raced.2 state))

    pub right_never_follows : right_side ≡ Never → BeginsAbove 1 first_origin → BeginsBelow g first_origin
        → MainFollows r 1 first_origin (MainEndsUnlessCanceled r)
    right_never_follows never so so_g =
        let starts = ap (λ (ls : List Label). starts_of g (events ls)) all_is ∙ right_starts in
        let holds : Contains (labels_of 0) (Starts g second_origin) = rw all_is (2, omega arith, refl) in
        let none_a = others g (below so_g) (idle (rw never tt)) in
        let state = waits_or_canceled g right_child.0 right_child.1 _ starts second_origin right_begins never holds none_a in
        never_follows g right_child.0 right_child.1 _ starts second_origin right_begins never holds none_a 1 left_child.0 left_child.1 first_origin
        left_begins (others 1 (above so) (idle (rw never tt)))
        (subst (λ (ls : List Label). NeverRaced g 1 (came_to g) (came_to 1) ls) (sym all_is)
        (right_waits 1 g first_origin second_origin one_apart g_apart raced.2 state))
