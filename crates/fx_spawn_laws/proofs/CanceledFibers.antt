-- What a main fiber comes to that starts any other one, and cancels it.
use Rattle.std.specs.Prelude.{nat_lt}
use Rattle.std.proofs.Common.{◌≡◌, ℕ, suc, ◌+◌, Bool, false, Option, Some, None, List, [], ◌∷◌, refl, ◌∙◌, ap, subst, arith}
use Rattle.fx_term.specs.declared.node.Arg.TheVariants.{Number, Slot}
use Rattle.fx_term.specs.declared.name_kind.NameKind.TheVariants as kind
use Rattle.fx_term.specs.declared.done.Done.TheVariants.{Val}
use Rattle.fx_term.specs.declared.outcome.Outcome.{Outcome}
use Rattle.fx_term.specs.declared.outcome.Outcome.TheVariants.{Succeeded, Errored}
use Rattle.fx_term.specs.declared.outcome.Outcome.TheVariants as outcome
use Rattle.fx_term.specs.declared.event.Event.TheVariants as event
use Rattle.fx_term.specs.Need.{need}
use Rattle.fx_term.specs.Scope.{with_name, elsewhere}
use Rattle.fx_term.specs.Term.{Term, Pure, Raise, Let, Mask, Start, Cancel, Finished, Masked, Await, put}
use Rattle.fx_term.specs.Script.{ScriptView}
use Rattle.fx_term.proofs.NameUses.{put_other_poll}
use Rattle.fx_model.specs.Row.{Counts, Label, Silent, Shows, Learns, Starts, numbers_taken, one_more_mask}
use Rattle.fx_model.specs.Origin.{Origin, main_origin, child_origin}
use Rattle.fx_model.specs.Step.{Runs, HasEnded}
use Rattle.fx_model.specs.Run.{first_counts, IsRun, events}
use Rattle.fx_model.specs.Scopes.{IsScopedOver}
use Rattle.fx_model.specs.Report.{ReportView, trace_of_report, trace_in, outcome_shown}
use Rattle.fx_model.specs.LawfulReport.{starts_of, IsLawfulReport}
use Rattle.fx_model.proofs.ComputedSteps.{Next}
use Rattle.fx_spawn_laws.specs.MainFiber.{MainEnds, MainIsBlocked, handed, hands_back, start_cancel_and_join_of, masked_start_of, masked_cancel_of, MainAwaits}
use Rattle.fx_spawn_laws.proofs.LearntOutcomes.{learnt_outcome}
use Rattle.fx_spawn_laws.proofs.HaltingRuns.{GoesTo, goes_to}
use Rattle.fx_spawn_laws.proofs.Outcomes.{ComesTo, can_by_leaf, after_step, at_end, where_it_waits, pure_comes, raise_comes}
use Rattle.fx_spawn_laws.proofs.StartAndJoin.{none_where_not_ended}
use Rattle.fx_spawn_laws.proofs.StartedFibers.{main_ends, main_is_blocked, child_in_report, child_begins, main_runs, told_by_labels, shown_at}

abbrev silently_to : Counts → Term → Next
silently_to c t = record { label = Silent; counts = c; progress = Runs t }

abbrev learning_to : Label → Counts → Term → Next
learning_to l c t = record { label = l; counts = c; progress = Runs t }

abbrev joining : ℕ → Term
joining m = put 0 1 (hands_back m)

module _ (s : ScriptView) (may : ℕ → Bool) (r : ReportView) (lawful : IsLawfulReport s may r) (alone : r.outside ≡ [])
    (given : (is_given : ℕ → Bool) → IsScopedOver is_given s.term) where
  abbrev labels : List Label
  labels = lawful.runs.labels 0

  abbrev Tells : Option Outcome → Type 0
  Tells v = outcome_shown (trace_in r 1) ≡ v

  -- who is started by these labels, of which the first start is at that place
  awaits : (b : Origin) (ls : List Label) → labels ≡ ls → (n : ℕ) → starts_of 1 (events labels) ≡ suc n → lawful.runs.origin 1 ≡ b
      → (Comes : Outcome → Type 0) → ((o : Outcome) → Tells (Some o) → Comes o) → (Tells None → MainIsBlocked r) → MainAwaits r b Comes
  awaits b ls is n starts begins Comes ends waits =
      let y = child_in_report s may r lawful 1 n starts in
      let run = lawful.runs.run 1 y.0 y.1 in
      record {
        child = y.0;
        is_child = y.1;
        labels = lawful.runs.labels 1;
        counts = lawful.runs.counts 1;
        progress = lawful.runs.progress 1;
        run = subst (λ (a : Origin). IsRun a (lawful.runs.labels 1) (lawful.runs.counts 1) (lawful.runs.progress 1)) begins run.run;
        trace = run.trace;
        state = run.state;
        ends = λ o e. ends o (learnt_outcome s may r lawful 1 o (record { before = e.before; is = ap trace_of_report y.1 ∙ e.is }));
        waits = λ blocked.
            waits (told_by_labels s may r lawful 1 y.0 y.1 ∙ shown_at s may r lawful 1 y.0 y.1
            ∙ none_where_not_ended (lawful.runs.progress 1) (run.state ∙ blocked));
      }

  -- the wait in a mask, which comes to 0, or waits
  masked_wait : (c : Counts) → c.known ≡ false → (o : Outcome) → Tells (Some o) → ComesTo s r 0 c (Runs (Masked 0 (Await 1))) (Some (Succeeded 0))
  masked_wait c free o told =
      after_step s r 0 c (Runs (Masked 0 (Await 1))) (learning_to (Learns 1 o (event.Awaited 1)) c (Masked 0 (Finished (Val 0)))) (Some (Succeeded 0))
      (can_by_leaf s r 0 c (Masked 0 (Await 1)) (rw told refl)) tt (λ room front. rw (free, told) refl) (λ ls. refl)
      (after_step s r 0 c (Runs (Masked 0 (Finished (Val 0)))) (silently_to c (Finished (Val 0))) (Some (Succeeded 0))
      (can_by_leaf s r 0 c (Masked 0 (Finished (Val 0))) refl) tt (λ room front. rw free refl) (λ ls. refl)
      (at_end s r 0 c (Runs (Finished (Val 0))) (record { label = Shows (event.Ended (Succeeded 0)); counts = c; progress = HasEnded (Succeeded 0) })
      (Succeeded 0) (can_by_leaf s r 0 c (Finished (Val 0)) refl) tt (λ room front. rw free refl) (λ ls. refl)))

  masked_blocks : (c : Counts) → Tells None → ComesTo s r 0 c (Runs (Masked 0 (Await 1))) None
  masked_blocks c none = where_it_waits s r 0 c (Runs (Masked 0 (Await 1))) (rw none refl) (λ room front. rw none refl) tt

  module _ (t : Term) where
    module _ (m : ℕ) (is : s.term ≡ start_cancel_and_join_of t m) where
      abbrev joined_before : Counts
      joined_before = first_counts (main_origin (start_cancel_and_join_of t m))

      abbrev joined_after : Counts
      joined_after = numbers_taken (1 + need t) joined_before

      abbrev canceling : Term
      canceling = Let None (Cancel (Number 1)) (joining m)

      abbrev awaiting : Term
      awaiting = Let None (Await 1) (joining m)

      started : GoesTo s r 0 (learning_to (Starts 1 (child_origin 1 t)) joined_after canceling) labels
      started =
          goes_to s r 0 joined_before (Runs (start_cancel_and_join_of t m)) labels _
          (main_runs s may r lawful alone (start_cancel_and_join_of t m) is (subst (IsScopedOver (nat_lt 0)) is (given (nat_lt 0))))
          (can_by_leaf s r 0 joined_before (start_cancel_and_join_of t m) refl) tt (λ room front. refl)

      asked : GoesTo s r 0 (learning_to (Shows (event.Request 1)) joined_after awaiting) started.labels
      asked =
          goes_to s r 0 joined_after (Runs canceling) started.labels _ started.rest (can_by_leaf s r 0 joined_after canceling refl) tt
          (λ room front. refl)

      all_is : labels ≡ Starts 1 (child_origin 1 t) ∷ Shows (event.Request 1) ∷ asked.labels
      all_is = started.is ∙ ap (λ (ls : List Label). Starts 1 (child_origin 1 t) ∷ ls) asked.is

      main_shows : (v : Option Outcome) → ComesTo s r 0 joined_after (Runs awaiting) v → outcome_shown (events labels) ≡ v
      main_shows v comes = ap (λ (ls : List Label). outcome_shown (events ls)) all_is ∙ comes asked.labels asked.rest

      joined_comes : (o : Outcome) → Tells (Some o) → ComesTo s r 0 joined_after (Runs (joining m)) (Some (handed m o))
      joined_comes (Succeeded n) told =
          after_step s r 0 joined_after (Runs (joining m)) (learning_to (Learns 1 (Succeeded n) (event.Joined 1 (Succeeded n))) joined_after (Pure (Number n)))
          (Some (Succeeded n)) (can_by_leaf s r 0 joined_after (joining m) (rw told refl)) tt (λ room front. rw told refl) (λ ls. refl)
          (pure_comes s r 0 joined_after refl n)
      joined_comes (Errored n) told =
          after_step s r 0 joined_after (Runs (joining m)) (learning_to (Learns 1 (Errored n) (event.Joined 1 (Errored n))) joined_after (Raise (Number n)))
          (Some (Errored n)) (can_by_leaf s r 0 joined_after (joining m) (rw told refl)) tt (λ room front. rw told refl) (λ ls. refl)
          (raise_comes s r 0 joined_after refl n)
      joined_comes outcome.Canceled told =
          after_step s r 0 joined_after (Runs (joining m))
          (learning_to (Learns 1 outcome.Canceled (event.Joined 1 outcome.Canceled)) joined_after (Pure (Number m)))
          (Some (Succeeded m)) (can_by_leaf s r 0 joined_after (joining m) (rw told refl)) tt (λ room front. rw told refl) (λ ls. refl)
          (pure_comes s r 0 joined_after refl m)

      awaiting_comes : (o : Outcome) → Tells (Some o) → ComesTo s r 0 joined_after (Runs awaiting) (Some (handed m o))
      awaiting_comes o told =
          after_step s r 0 joined_after (Runs awaiting)
          (learning_to (Learns 1 o (event.Awaited 1)) joined_after (Let None (Finished (Val 0)) (joining m))) (Some (handed m o))
          (can_by_leaf s r 0 joined_after awaiting (rw told refl)) tt (λ room front. rw told refl) (λ ls. refl)
          (after_step s r 0 joined_after (Runs (Let None (Finished (Val 0)) (joining m))) (silently_to joined_after (joining m)) (Some (handed m o))
          (can_by_leaf s r 0 joined_after (Let None (Finished (Val 0)) (joining m)) refl) tt (λ room front. refl) (λ ls. refl) (joined_comes o told))

      pub canceled_is_handed_back : MainAwaits r (child_origin 1 t) (λ o. MainEnds r (handed m o))
      canceled_is_handed_back =
          awaits (child_origin 1 t) _ all_is _ (ap (λ (ls : List Label). starts_of 1 (events ls)) all_is)
          (child_begins s may r lawful 1 (record { origin = child_origin 1 t; holds = rw all_is (0, omega arith, refl) }))
          (λ o. MainEnds r (handed m o)) (λ o told. main_ends s may r lawful (handed m o) (main_shows (Some (handed m o)) (awaiting_comes o told)))
          (λ none. main_is_blocked s may r lawful
          (main_shows None (where_it_waits s r 0 joined_after (Runs awaiting) (rw none refl) (λ room front. rw none refl) tt)))

    module _ (is : s.term ≡ masked_start_of t) where
      abbrev start_before : Counts
      start_before = first_counts (main_origin (masked_start_of t))

      abbrev start_inside : Counts
      start_inside = one_more_mask start_before

      abbrev child_term : Term
      child_term = put 0 0 t

      abbrev start_after : Counts
      start_after = numbers_taken (1 + need child_term) start_inside

      mask_entered : GoesTo s r 0 (silently_to start_inside (Masked 0 (Start 1 child_term (Cancel (Slot 1))))) labels
      mask_entered =
          goes_to s r 0 start_before (Runs (masked_start_of t)) labels _
          (main_runs s may r lawful alone (masked_start_of t) is (subst (IsScopedOver (nat_lt 0)) is (given (nat_lt 0))))
          (can_by_leaf s r 0 start_before (masked_start_of t) refl) tt (λ room front. refl)

      mask_started : GoesTo s r 0 (learning_to (Starts 1 (child_origin 1 child_term)) start_after (Masked 0 (Cancel (Number 1)))) mask_entered.labels
      mask_started =
          goes_to s r 0 start_inside (Runs (Masked 0 (Start 1 child_term (Cancel (Slot 1))))) mask_entered.labels _ mask_entered.rest
          (can_by_leaf s r 0 start_inside (Masked 0 (Start 1 child_term (Cancel (Slot 1)))) refl) tt (λ room front. refl)

      mask_asked : GoesTo s r 0 (learning_to (Shows (event.Request 1)) start_after (Masked 0 (Await 1))) mask_started.labels
      mask_asked =
          goes_to s r 0 start_after (Runs (Masked 0 (Cancel (Number 1)))) mask_started.labels _ mask_started.rest
          (can_by_leaf s r 0 start_after (Masked 0 (Cancel (Number 1))) refl) tt (λ room front. refl)

      mask_all : labels ≡ Silent ∷ Starts 1 (child_origin 1 child_term) ∷ Shows (event.Request 1) ∷ mask_asked.labels
      mask_all =
          mask_entered.is ∙ ap (λ (ls : List Label). Silent ∷ ls) (mask_started.is
          ∙ ap (λ (ls : List Label). Starts 1 (child_origin 1 child_term) ∷ ls) mask_asked.is)

      mask_shows : (v : Option Outcome) → ComesTo s r 0 start_after (Runs (Masked 0 (Await 1))) v → outcome_shown (events labels) ≡ v
      mask_shows v comes = ap (λ (ls : List Label). outcome_shown (events ls)) mask_all ∙ comes mask_asked.labels mask_asked.rest

      child_term_is : child_term ≡ t
      child_term_is =
          let scoped = (subst (IsScopedOver (nat_lt 0)) is (given (nat_lt 0))).0 in
          put_other_poll 0 (elsewhere (with_name 0 kind.Poll (λ x. None))) t refl scoped.1.0 0

      pub started_in_mask_ends : MainAwaits r (child_origin 1 t) (λ o. MainEnds r (Succeeded 0))
      started_in_mask_ends =
          subst (λ (u : Term). MainAwaits r (child_origin 1 u) (λ o. MainEnds r (Succeeded 0))) child_term_is
          (awaits (child_origin 1 child_term) _ mask_all _ (ap (λ (ls : List Label). starts_of 1 (events ls)) mask_all)
          (child_begins s may r lawful 1 (record { origin = child_origin 1 child_term; holds = rw mask_all (1, omega arith, refl) }))
          (λ o. MainEnds r (Succeeded 0))
          (λ o told. main_ends s may r lawful (Succeeded 0) (mask_shows (Some (Succeeded 0)) (masked_wait start_after refl o told)))
          (λ none. main_is_blocked s may r lawful (mask_shows None (masked_blocks start_after none))))

    module _ (is : s.term ≡ masked_cancel_of t) where
      abbrev cancel_before : Counts
      cancel_before = first_counts (main_origin (masked_cancel_of t))

      abbrev cancel_after : Counts
      cancel_after = numbers_taken (1 + need t) cancel_before

      abbrev cancel_inside : Counts
      cancel_inside = one_more_mask cancel_after

      cancel_started : GoesTo s r 0 (learning_to (Starts 1 (child_origin 1 t)) cancel_after (Mask 1 (Cancel (Number 1)))) labels
      cancel_started =
          goes_to s r 0 cancel_before (Runs (masked_cancel_of t)) labels _
          (main_runs s may r lawful alone (masked_cancel_of t) is (subst (IsScopedOver (nat_lt 0)) is (given (nat_lt 0))))
          (can_by_leaf s r 0 cancel_before (masked_cancel_of t) refl) tt (λ room front. refl)

      cancel_entered : GoesTo s r 0 (silently_to cancel_inside (Masked 0 (Cancel (Number 1)))) cancel_started.labels
      cancel_entered =
          goes_to s r 0 cancel_after (Runs (Mask 1 (Cancel (Number 1)))) cancel_started.labels _ cancel_started.rest
          (can_by_leaf s r 0 cancel_after (Mask 1 (Cancel (Number 1))) refl) tt (λ room front. refl)

      cancel_asked : GoesTo s r 0 (learning_to (Shows (event.Request 1)) cancel_inside (Masked 0 (Await 1))) cancel_entered.labels
      cancel_asked =
          goes_to s r 0 cancel_inside (Runs (Masked 0 (Cancel (Number 1)))) cancel_entered.labels _ cancel_entered.rest
          (can_by_leaf s r 0 cancel_inside (Masked 0 (Cancel (Number 1))) refl) tt (λ room front. refl)

      cancel_all : labels ≡ Starts 1 (child_origin 1 t) ∷ Silent ∷ Shows (event.Request 1) ∷ cancel_asked.labels
      cancel_all =
          cancel_started.is ∙ ap (λ (ls : List Label). Starts 1 (child_origin 1 t) ∷ ls) (cancel_entered.is
          ∙ ap (λ (ls : List Label). Silent ∷ ls) cancel_asked.is)

      cancel_shows : (v : Option Outcome) → ComesTo s r 0 cancel_inside (Runs (Masked 0 (Await 1))) v → outcome_shown (events labels) ≡ v
      cancel_shows v comes = ap (λ (ls : List Label). outcome_shown (events ls)) cancel_all ∙ comes cancel_asked.labels cancel_asked.rest

      pub canceled_in_mask_ends : MainAwaits r (child_origin 1 t) (λ o. MainEnds r (Succeeded 0))
      canceled_in_mask_ends =
          awaits (child_origin 1 t) _ cancel_all _ (ap (λ (ls : List Label). starts_of 1 (events ls)) cancel_all)
          (child_begins s may r lawful 1 (record { origin = child_origin 1 t; holds = rw cancel_all (0, omega arith, refl) }))
          (λ o. MainEnds r (Succeeded 0))
          (λ o told. main_ends s may r lawful (Succeeded 0) (cancel_shows (Some (Succeeded 0)) (masked_wait cancel_inside refl o told)))
          (λ none. main_is_blocked s may r lawful (cancel_shows None (masked_blocks cancel_inside none)))

    pub started_holds_nobody_up : (n : ℕ) → s.term ≡ Start 0 t (Pure (Number n)) → MainEnds r (Succeeded n)
    started_holds_nobody_up n is =
        let main = Start 0 t (Pure (Number n)) in
        let before = first_counts (main_origin (Start 0 t (Pure (Number n)))) in
        main_ends s may r lawful (Succeeded n)
        (after_step s r 0 before (Runs main) (learning_to (Starts 1 (child_origin 1 t)) (numbers_taken (1 + need t) before) (Pure (Number n)))
        (Some (Succeeded n)) (can_by_leaf s r 0 before main refl) tt (λ room front. refl) (λ ls. refl)
        (pure_comes s r 0 (numbers_taken (1 + need t) before) refl n) labels
        (main_runs s may r lawful alone main is (subst (IsScopedOver (nat_lt 0)) is (given (nat_lt 0)))))
