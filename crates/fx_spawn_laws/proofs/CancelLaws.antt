-- What a main fiber comes to that starts a fiber which waits for good, and cancels it.
use Rattle.std.proofs.Common.{◌≡◌, ℕ, suc, Bool, true, false, Some, None, List, [], ◌∷◌, refl, ◌∙◌, ap, arith}
use Rattle.std.specs.Prelude.{Contains}
use Rattle.std.specs.List.{list_any}
use Rattle.fx_term.specs.declared.node.Arg.TheVariants.{Number, Slot}
use Rattle.fx_term.specs.declared.done.Done.TheVariants.{Val}
use Rattle.fx_term.specs.declared.outcome.Outcome.TheVariants.{Succeeded}
use Rattle.fx_term.specs.declared.outcome.Outcome.TheVariants as outcome
use Rattle.fx_term.specs.declared.event.Event.TheVariants as event
use Rattle.fx_term.specs.Term.{Term, Pure, Never, Let, Mask, Start, Cancel, Finished, Masked, Await, put}
use Rattle.fx_term.specs.Script.{ScriptView}
use Rattle.fx_model.specs.Row.{Counts, Label, Silent, Shows, Learns, Starts, numbers_taken, one_more_mask}
use Rattle.fx_model.specs.Origin.{Origin, main_origin, child_origin}
use Rattle.fx_model.specs.Step.{Runs, HasEnded}
use Rattle.fx_model.specs.Run.{first_counts, events}
use Rattle.fx_model.specs.Report.{ReportView, trace_in, outcome_shown, is_request_for}
use Rattle.fx_model.specs.LawfulReport.{starts_of, IsLawfulReport}
use Rattle.fx_model.proofs.ComputedSteps.{Next}
use Rattle.fx_spawn_laws.specs.MainFiber.{FiberEnds, MainEnds, hands_back, start_cancel_and_join, masked_start, masked_cancel}
use Rattle.fx_spawn_laws.proofs.HaltingRuns.{GoesTo, goes_to}
use Rattle.fx_spawn_laws.proofs.Outcomes.{ComesTo, can_by_leaf, after_step, at_end, pure_comes}
use Rattle.fx_spawn_laws.proofs.StartedFibers.{child_in_report, fiber_ends, main_ends, main_runs, requested_never_ends}

-- the child, and the main fiber after its start
abbrev child : Origin
child = child_origin 1 Never

abbrev silently_to : Counts → Term → Next
silently_to c t = record { label = Silent; counts = c; progress = Runs t }

abbrev started_at : Counts → Term → Next
started_at c t = record { label = Starts 1 child; counts = numbers_taken 1 c; progress = Runs t }

abbrev requested_at : Counts → Term → Next
requested_at c t = record { label = Shows (event.Request 1); counts = c; progress = Runs t }

abbrev awaited_at : Counts → Term → Next
awaited_at c t = record { label = Learns 1 outcome.Canceled (event.Awaited 1); counts = c; progress = Runs t }

abbrev ended_at : Counts → Next
ended_at c = record { label = Shows (event.Ended (Succeeded 0)); counts = c; progress = HasEnded (Succeeded 0) }

abbrev joined_at : ℕ → Counts → Next
joined_at m c = record { label = Learns 1 outcome.Canceled (event.Joined 1 outcome.Canceled); counts = c; progress = Runs (Pure (Number m)) }

-- what the main fiber of each of the four scripts counts before its start and after it, in its mask or not
abbrev joined_before : ℕ → Counts
joined_before m = first_counts (main_origin (start_cancel_and_join m))

abbrev joined_after : ℕ → Counts
joined_after m = numbers_taken 1 (joined_before m)

abbrev masked_before : Counts
masked_before = first_counts (main_origin masked_start)

abbrev masked_inside : Counts
masked_inside = one_more_mask masked_before

abbrev masked_after : Counts
masked_after = numbers_taken 1 masked_inside

abbrev cancel_before : Counts
cancel_before = first_counts (main_origin masked_cancel)

abbrev cancel_after : Counts
cancel_after = numbers_taken 1 cancel_before

abbrev cancel_inside : Counts
cancel_inside = one_more_mask cancel_after

abbrev never_main : ℕ → Term
never_main n = Start 0 Never (Pure (Number n))

abbrev never_before : ℕ → Counts
never_before n = first_counts (main_origin (never_main n))

-- the join, where the child has its number
abbrev joining : ℕ → Term
joining m = put 0 1 (hands_back m)

module _ (s : ScriptView) (may : ℕ → Bool) (r : ReportView) where
  -- a child that the main fiber has started and requested ends as canceled
  ends_canceled : (lawful : IsLawfulReport s may r) → (ls : List Label) → lawful.runs.labels 0 ≡ ls → (n : ℕ) → starts_of 1 (events ls) ≡ suc n
      → Contains ls (Starts 1 child) → list_any (is_request_for 1) (events ls) ≡ true → outcome_shown (trace_in r 1) ≡ Some outcome.Canceled
  ends_canceled lawful ls is n starts holds asks =
      requested_never_ends s may r lawful 1 n (ap (λ (ks : List Label). starts_of 1 (events ks)) is ∙ starts) child refl (rw is holds)
      (ap (λ (ks : List Label). list_any (is_request_for 1) (events ks)) is ∙ asks)

  child_ends : (lawful : IsLawfulReport s may r) → (ls : List Label) → lawful.runs.labels 0 ≡ ls → (n : ℕ) → starts_of 1 (events ls) ≡ suc n
      → outcome_shown (trace_in r 1) ≡ Some outcome.Canceled → FiberEnds r 1 outcome.Canceled
  child_ends lawful ls is n starts told =
      let there = child_in_report s may r lawful 1 n (ap (λ (ks : List Label). starts_of 1 (events ks)) is ∙ starts) in
      fiber_ends s may r lawful 1 there.0 there.1 outcome.Canceled told

  -- the wait for a child that has ended as canceled, which comes to 0, in a mask or not
  masked_wait_comes : outcome_shown (trace_in r 1) ≡ Some outcome.Canceled → (c : Counts) → c.known ≡ false
      → ComesTo s r 0 c (Runs (Masked 0 (Await 1))) (Some (Succeeded 0))
  masked_wait_comes told c free =
      after_step s r 0 c (Runs (Masked 0 (Await 1))) (awaited_at c (Masked 0 (Finished (Val 0)))) (Some (Succeeded 0))
      (can_by_leaf s r 0 c (Masked 0 (Await 1)) (rw told refl)) tt (λ room front. rw (free, told) refl) (λ ls. refl)
      (after_step s r 0 c (Runs (Masked 0 (Finished (Val 0)))) (silently_to c (Finished (Val 0))) (Some (Succeeded 0))
      (can_by_leaf s r 0 c (Masked 0 (Finished (Val 0))) refl) tt (λ room front. rw free refl) (λ ls. refl)
      (at_end s r 0 c (Runs (Finished (Val 0))) (ended_at c) (Succeeded 0)
      (can_by_leaf s r 0 c (Finished (Val 0)) refl) tt (λ room front. rw free refl) (λ ls. refl)))

  pub canceled_and_joined : (m : ℕ) → s.term ≡ start_cancel_and_join m → IsLawfulReport s may r → r.outside ≡ [] → MainEnds r (Succeeded m)
  canceled_and_joined m is lawful alone =
      main_ends s may r lawful (Succeeded m) (ap (λ (ls : List Label). outcome_shown (events ls)) all_is ∙ comes asked.labels asked.rest)
    where
      started : GoesTo s r 0 (started_at (joined_before m) (Let None (Cancel (Number 1)) (joining m))) (lawful.runs.labels 0)
      started =
          goes_to s r 0 (joined_before m) (Runs (start_cancel_and_join m)) (lawful.runs.labels 0) _
          (main_runs s may r lawful alone (start_cancel_and_join m) is
          ((tt, refl, (refl, tt, (refl, refl, refl, refl, refl, tt))), (tt, (tt, (tt, tt, tt, tt)))))
          (can_by_leaf s r 0 (joined_before m) (start_cancel_and_join m) refl) tt (λ room front. refl)

      asked : GoesTo s r 0 (requested_at (joined_after m) (Let None (Await 1) (joining m))) started.labels
      asked =
          goes_to s r 0 (joined_after m) (Runs (Let None (Cancel (Number 1)) (joining m))) started.labels _ started.rest
          (can_by_leaf s r 0 (joined_after m) (Let None (Cancel (Number 1)) (joining m)) refl) tt (λ room front. refl)

      all_is : lawful.runs.labels 0 ≡ Starts 1 child ∷ Shows (event.Request 1) ∷ asked.labels
      all_is = started.is ∙ ap (λ (ls : List Label). Starts 1 child ∷ ls) asked.is

      told : outcome_shown (trace_in r 1) ≡ Some outcome.Canceled
      told =
          ends_canceled lawful (Starts 1 child ∷ Shows (event.Request 1) ∷ asked.labels) all_is (starts_of 1 (events asked.labels)) refl
          (0, omega arith, refl) refl

      comes : ComesTo s r 0 (joined_after m) (Runs (Let None (Await 1) (joining m))) (Some (Succeeded m))
      comes =
          after_step s r 0 (joined_after m) (Runs (Let None (Await 1) (joining m)))
          (awaited_at (joined_after m) (Let None (Finished (Val 0)) (joining m))) (Some (Succeeded m))
          (can_by_leaf s r 0 (joined_after m) (Let None (Await 1) (joining m)) (rw told refl)) tt (λ room front. rw told refl) (λ ls. refl)
          (after_step s r 0 (joined_after m) (Runs (Let None (Finished (Val 0)) (joining m))) (silently_to (joined_after m) (joining m)) (Some (Succeeded m))
          (can_by_leaf s r 0 (joined_after m) (Let None (Finished (Val 0)) (joining m)) refl) tt (λ room front. refl) (λ ls. refl)
          (after_step s r 0 (joined_after m) (Runs (joining m))
          (joined_at m (joined_after m)) (Some (Succeeded m))
          (can_by_leaf s r 0 (joined_after m) (joining m) (rw told refl)) tt (λ room front. rw told refl) (λ ls. refl)
          (pure_comes s r 0 (joined_after m) refl m)))

  pub started_in_mask : s.term ≡ masked_start → IsLawfulReport s may r → r.outside ≡ []
      → MainEnds r (Succeeded 0) × FiberEnds r 1 outcome.Canceled
  started_in_mask is lawful alone = (
    main_ends s may r lawful (Succeeded 0)
        (ap (λ (ls : List Label). outcome_shown (events ls)) all_is ∙ masked_wait_comes told masked_after refl asked.labels asked.rest),
    child_ends lawful (Silent ∷ Starts 1 child ∷ Shows (event.Request 1) ∷ asked.labels) all_is (starts_of 1 (events asked.labels)) refl told,
  )
    where
      entered : GoesTo s r 0 (silently_to masked_inside (Masked 0 (Start 1 Never (Cancel (Slot 1))))) (lawful.runs.labels 0)
      entered =
          goes_to s r 0 masked_before (Runs masked_start) (lawful.runs.labels 0) _
          (main_runs s may r lawful alone masked_start is ((refl, (tt, refl, refl)), (tt, tt)))
          (can_by_leaf s r 0 masked_before masked_start refl) tt (λ room front. refl)

      started : GoesTo s r 0 (started_at masked_inside (Masked 0 (Cancel (Number 1)))) entered.labels
      started =
          goes_to s r 0 masked_inside (Runs (Masked 0 (Start 1 Never (Cancel (Slot 1))))) entered.labels _ entered.rest
          (can_by_leaf s r 0 masked_inside (Masked 0 (Start 1 Never (Cancel (Slot 1)))) refl) tt (λ room front. refl)

      asked : GoesTo s r 0 (requested_at masked_after (Masked 0 (Await 1))) started.labels
      asked =
          goes_to s r 0 masked_after (Runs (Masked 0 (Cancel (Number 1)))) started.labels _ started.rest
          (can_by_leaf s r 0 masked_after (Masked 0 (Cancel (Number 1))) refl) tt (λ room front. refl)

      all_is : lawful.runs.labels 0 ≡ Silent ∷ Starts 1 child ∷ Shows (event.Request 1) ∷ asked.labels
      all_is = entered.is ∙ ap (λ (ls : List Label). Silent ∷ ls) (started.is ∙ ap (λ (ls : List Label). Starts 1 child ∷ ls) asked.is)

      told : outcome_shown (trace_in r 1) ≡ Some outcome.Canceled
      told =
          ends_canceled lawful (Silent ∷ Starts 1 child ∷ Shows (event.Request 1) ∷ asked.labels) all_is (starts_of 1 (events asked.labels)) refl
          (1, omega arith, refl) refl

  pub canceled_in_mask : s.term ≡ masked_cancel → IsLawfulReport s may r → r.outside ≡ []
      → MainEnds r (Succeeded 0) × FiberEnds r 1 outcome.Canceled
  canceled_in_mask is lawful alone = (
    main_ends s may r lawful (Succeeded 0)
        (ap (λ (ls : List Label). outcome_shown (events ls)) all_is ∙ masked_wait_comes told cancel_inside refl asked.labels asked.rest),
    child_ends lawful (Starts 1 child ∷ Silent ∷ Shows (event.Request 1) ∷ asked.labels) all_is (starts_of 1 (events asked.labels)) refl told,
  )
    where
      started : GoesTo s r 0 (started_at cancel_before (Mask 1 (Cancel (Number 1)))) (lawful.runs.labels 0)
      started =
          goes_to s r 0 cancel_before (Runs masked_cancel) (lawful.runs.labels 0) _
          (main_runs s may r lawful alone masked_cancel is ((tt, refl, (refl, refl)), (tt, tt)))
          (can_by_leaf s r 0 cancel_before masked_cancel refl) tt (λ room front. refl)

      entered : GoesTo s r 0 (silently_to cancel_inside (Masked 0 (Cancel (Number 1)))) started.labels
      entered =
          goes_to s r 0 cancel_after (Runs (Mask 1 (Cancel (Number 1)))) started.labels _ started.rest
          (can_by_leaf s r 0 cancel_after (Mask 1 (Cancel (Number 1))) refl) tt (λ room front. refl)

      asked : GoesTo s r 0 (requested_at cancel_inside (Masked 0 (Await 1))) entered.labels
      asked =
          goes_to s r 0 cancel_inside (Runs (Masked 0 (Cancel (Number 1)))) entered.labels _ entered.rest
          (can_by_leaf s r 0 cancel_inside (Masked 0 (Cancel (Number 1))) refl) tt (λ room front. refl)

      all_is : lawful.runs.labels 0 ≡ Starts 1 child ∷ Silent ∷ Shows (event.Request 1) ∷ asked.labels
      all_is = started.is ∙ ap (λ (ls : List Label). Starts 1 child ∷ ls) (entered.is ∙ ap (λ (ls : List Label). Silent ∷ ls) asked.is)

      told : outcome_shown (trace_in r 1) ≡ Some outcome.Canceled
      told =
          ends_canceled lawful (Starts 1 child ∷ Silent ∷ Shows (event.Request 1) ∷ asked.labels) all_is (starts_of 1 (events asked.labels)) refl
          (0, omega arith, refl) refl

  pub started_never : (n : ℕ) → s.term ≡ Start 0 Never (Pure (Number n)) → IsLawfulReport s may r → r.outside ≡ [] → MainEnds r (Succeeded n)
  started_never n is lawful alone =
      main_ends s may r lawful (Succeeded n)
      (after_step s r 0 (never_before n) (Runs (never_main n)) (started_at (never_before n) (Pure (Number n))) (Some (Succeeded n))
      (can_by_leaf s r 0 (never_before n) (never_main n) refl) tt
      (λ room front. refl) (λ ls. refl) (pure_comes s r 0 (numbers_taken 1 (never_before n)) refl n) (lawful.runs.labels 0)
      (main_runs s may r lawful alone (never_main n) is ((tt, refl, tt), (tt, tt))))
