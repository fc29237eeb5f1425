-- A main fiber that starts another one and joins it hands back what it learns.
use Rattle.std.specs.Prelude.{nat_lt}
use Rattle.std.proofs.Common.{◌≡◌, ℕ, ◌+◌, Bool, false, Option, Some, None, List, [], All, refl, ◌∙◌, ap, subst, arith}
use Rattle.std.proofs.lemmas.List.Elements.{All-cons, All-contains}
use Rattle.fx_term.specs.declared.node.Arg.TheVariants.{Number}
use Rattle.fx_term.specs.declared.outcome.Outcome.{Outcome}
use Rattle.fx_term.specs.declared.outcome.Outcome.TheVariants.{Succeeded, Errored}
use Rattle.fx_term.specs.declared.outcome.Outcome.TheVariants as outcome
use Rattle.fx_term.specs.declared.event.Event.TheVariants as event
use Rattle.fx_term.specs.Need.{need}
use Rattle.fx_term.specs.Term.{Term, Pure, Raise, put}
use Rattle.fx_term.specs.Script.{ScriptView}
use Rattle.fx_model.specs.Row.{Counts, Label, Learns, Starts, numbers_taken}
use Rattle.fx_model.specs.Origin.{Origin, main_origin, child_origin}
use Rattle.fx_model.specs.Step.{Progress, Runs, HasEnded, has_ended}
use Rattle.fx_model.specs.Run.{first_counts, IsRun, events}
use Rattle.fx_model.specs.Report.{FiberReportView, ReportView, fiber_in, trace_of_report, trace_in, outcome_shown, is_requested_in}
use Rattle.fx_model.specs.LawfulReport.{starts_of, IsLawfulReport}
use Rattle.fx_model.specs.Scopes.{IsScopedOver}
use Rattle.fx_model.proofs.ComputedSteps.{Next}
use Rattle.fx_model.proofs.StartLaws.{StartsSo}
use Rattle.fx_model.specs.Outside.{outcome_at}
use Rattle.fx_spawn_laws.proofs.LearntOutcomes.{learnt_outcome}
use Rattle.fx_spawn_laws.specs.MainFiber.{MainEnds, MainIsBlocked, handed, hands_back, start_and_join, HandsBackItsChild}
use Rattle.fx_spawn_laws.proofs.Requests.{AsksNone, IsBarren, BeginsAbove, leads_barren, barren_asks_none, all_both}
use Rattle.fx_spawn_laws.proofs.Requests.{child_is_unrequested, main_is_unrequested}
use Rattle.fx_spawn_laws.proofs.HaltingRuns.{GoesTo, goes_to, runs_to_halt}
use Rattle.fx_spawn_laws.proofs.Outcomes.{ComesTo, can_by_leaf, after_step, where_it_waits, pure_comes, raise_comes}
use Rattle.fx_spawn_laws.proofs.StartedFibers.{main_ends, main_is_blocked, child_in_report, child_begins, main_runs, tells, told_by_labels, shown_at}

pub none_where_not_ended : (p : Progress) → has_ended p ≡ false → outcome_at p ≡ None
none_where_not_ended (HasEnded o) e = absurd cc
none_where_not_ended _ e = refl

module _ (s : ScriptView) (may : ℕ → Bool) (r : ReportView) (lawful : IsLawfulReport s may r) (alone : r.outside ≡ []) where
  abbrev pub labels : List Label
  labels = lawful.runs.labels 0

  module _ (t : Term) (m : ℕ) (is : s.term ≡ start_and_join t m) (scoped : (is_given : ℕ → Bool) → IsScopedOver is_given t) where
    abbrev pub b : Origin
    b = child_origin 1 t

    abbrev pub before : Counts
    before = first_counts (main_origin (start_and_join t m))

    abbrev pub joining : Term
    joining = put 0 1 (hands_back m)

    main_scoped : IsScopedOver (nat_lt 0) (start_and_join t m)
    main_scoped = (((scoped (nat_lt 0)).0, refl, (refl, refl, refl, refl, refl, tt)), ((scoped (nat_lt 0)).1, (tt, tt, tt, tt)))

    pub started : GoesTo s r 0 (record { label = Starts 1 b; counts = numbers_taken (1 + need t) before; progress = Runs joining }) labels
    started =
        goes_to s r 0 before (Runs (start_and_join t m)) labels _
        (main_runs s may r lawful alone (start_and_join t m) is main_scoped)
        (can_by_leaf s r 0 before (start_and_join t m) refl) tt (λ room front. refl)

    rest_barren : All IsBarren started.labels
    rest_barren = leads_barren _ _ _ _ started.labels started.rest.leads (tt, tt, tt)

    child : (x : FiberReportView) × (fiber_in r 1 ≡ Some x)
    child = child_in_report s may r lawful 1 (starts_of 1 (events started.labels)) (ap (λ (ls : List Label). starts_of 1 (events ls)) started.is)

    child_is : lawful.runs.origin 1 ≡ b
    child_is = child_begins s may r lawful 1 (record { origin = b; holds = rw started.is (0, omega arith, refl) })

    -- a start among the main fiber's labels starts that child, which knows of no fiber
    abbrev StartsAbove : Label → Type 0
    StartsAbove l = StartsSo (BeginsAbove 1) l

    barren_starts_none : (l : Label) → IsBarren l → StartsAbove l
    barren_starts_none (Starts f a) h = absurd h
    barren_starts_none _ h = tt

    starts_above : All StartsAbove labels
    starts_above =
        rw started.is (All-cons StartsAbove (Starts 1 b) started.labels (scoped (nat_lt 1), omega arith)
        (all_both {P = IsBarren} {Q = IsBarren} {R = StartsAbove} (λ l h h'. barren_starts_none l h) started.labels rest_barren rest_barren))

    asks_none : (g : ℕ) → All (AsksNone g) labels
    asks_none g =
        rw started.is (All-cons (AsksNone g) (Starts 1 b) started.labels refl
        (all_both {P = IsBarren} {Q = IsBarren} {R = AsksNone g} (λ l h h'. barren_asks_none g l h) started.labels rest_barren rest_barren))

    pub child_unrequested : is_requested_in r 1 ≡ false
    child_unrequested =
        child_is_unrequested s may r lawful alone 1 (λ f h. All-contains StartsAbove labels (Starts f h.origin) starts_above h.holds) (asks_none 1)

    -- what the child comes to, its trace tells
    pub child_tells : (v : Option Outcome) → ComesTo s r 1 (first_counts b) (Runs t) v → outcome_shown (trace_in r 1) ≡ v
    child_tells v comes = tells s may r lawful 1 child.0 child.1 b child_is child_unrequested v comes

    abbrev pub after : Counts
    after = numbers_taken (1 + need t) before

    -- what the main fiber comes to, its labels show
    main_shows : (v : Option Outcome) → ComesTo s r 0 after (Runs joining) v → outcome_shown (events labels) ≡ v
    main_shows v comes = ap (λ (ls : List Label). outcome_shown (events ls)) started.is ∙ comes started.labels started.rest

    abbrev joined_with : Outcome → Term → Next
    joined_with o part = record { label = Learns 1 o (event.Joined 1 o); counts = after; progress = Runs part }

    -- what it learns it hands back
    pub hands_back_ends : (o : Outcome) → outcome_shown (trace_in r 1) ≡ Some o → MainEnds r (handed m o)
    hands_back_ends o told = main_ends s may r lawful (handed m o) (main_shows (Some (handed m o)) (by_outcome o told))
      where
        by_outcome : (v : Outcome) → outcome_shown (trace_in r 1) ≡ Some v → ComesTo s r 0 after (Runs joining) (Some (handed m v))
        by_outcome (Succeeded n) e =
            after_step s r 0 after (Runs joining) (joined_with (Succeeded n) (Pure (Number n)))
            (Some (Succeeded n)) (can_by_leaf s r 0 after joining (rw e refl)) tt (λ room front. rw e refl) (λ ls. refl)
            (pure_comes s r 0 after refl n)
        by_outcome (Errored n) e =
            after_step s r 0 after (Runs joining) (joined_with (Errored n) (Raise (Number n)))
            (Some (Errored n)) (can_by_leaf s r 0 after joining (rw e refl)) tt (λ room front. rw e refl) (λ ls. refl)
            (raise_comes s r 0 after refl n)
        by_outcome outcome.Canceled e =
            after_step s r 0 after (Runs joining) (joined_with outcome.Canceled (Pure (Number m)))
            (Some (Succeeded m)) (can_by_leaf s r 0 after joining (rw e refl)) tt (λ room front. rw e refl) (λ ls. refl)
            (pure_comes s r 0 after refl m)

    -- where that has not ended it waits
    pub hands_back_waits : outcome_shown (trace_in r 1) ≡ None → MainIsBlocked r
    hands_back_waits none =
        main_is_blocked s may r lawful (main_shows None
        (where_it_waits s r 0 after (Runs joining) (rw (none, main_quiet) refl) (λ room front. rw none refl) tt))
      where
        main_quiet : is_requested_in r 0 ≡ false
        main_quiet = main_is_unrequested s may r lawful alone (rw is main_scoped)

    -- whatever it runs
    pub child_handed_back : HandsBackItsChild r t m
    child_handed_back =
        let run = lawful.runs.run 1 child.0 child.1 in
        let unable = tells_by_run child.0 child.1 in
        record {
          child = child.0;
          is_child = child.1;
          labels = lawful.runs.labels 1;
          counts = lawful.runs.counts 1;
          progress = lawful.runs.progress 1;
          run = subst (λ (a : Origin). IsRun a (lawful.runs.labels 1) (lawful.runs.counts 1) (lawful.runs.progress 1)) child_is run.run;
          trace = run.trace;
          state = run.state;
          unrequested = (runs_to_halt s may r lawful 1 child.0 child.1 child_unrequested).unseen;
          ends = λ o ends.
              hands_back_ends o (learnt_outcome s may r lawful 1 o (record { before = ends.before; is = ap trace_of_report child.1 ∙ ends.is }));
          waits = λ blocked. hands_back_waits (unable (run.state ∙ blocked));
        }
      where
        tells_by_run : (x : FiberReportView) → fiber_in r 1 ≡ Some x → has_ended (lawful.runs.progress 1) ≡ false → outcome_shown (trace_in r 1) ≡ None
        tells_by_run x at none =
            told_by_labels s may r lawful 1 x at ∙ shown_at s may r lawful 1 x at ∙ none_where_not_ended (lawful.runs.progress 1) none
