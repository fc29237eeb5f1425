-- A race that nobody wins, inside a mask.
use Rattle.std.proofs.Common.{◌≡◌, ℕ, Bool, true, false, Option, Some, None, List, [], ◌∷◌, refl, sym, ◌∙◌, ap, subst, arith, ◌⊎◌, inl, inr}
use Rattle.std.specs.Prelude.{◌==◌, if◌then◌else◌, nat_lt}
use Rattle.std.proofs.lemmas.Option.{same_Some}
use Rattle.std.proofs.lemmas.List.Elements.{All-head, All-tail}
use Rattle.fx_term.specs.declared.node.Arg.TheVariants.{Number, Slot}
use Rattle.fx_term.specs.declared.done.Done.TheVariants.{Val}
use Rattle.fx_term.specs.declared.outcome.Outcome.{Outcome}
use Rattle.fx_term.specs.declared.outcome.Outcome.TheVariants as outcome
use Rattle.fx_term.specs.declared.event.Event.TheVariants as event
use Rattle.fx_term.specs.Term.{Term, Pure, Raise, Canceled, Never, Let, If, Mask, Poll, OnCancel, Start, Join, Cancel, First, Finished, Masked, Opened, put}
use Rattle.fx_term.specs.Script.{ScriptView}
use Rattle.fx_model.specs.Scopes.{IsClosedTerm, UsesGiven}
use Rattle.fx_text.specs.Race.{race_slots, deciding, race}
use Rattle.fx_model.specs.Path.{leaf, is_open, cleanup_terms, LetIn, HandleIn, OnCancelIn, AcquireIn, AcquireCaseIn, MaskedIn, OpenedIn, InUseIn}
use Rattle.fx_model.specs.Path.{InUseCaseIn, InReleaseIn}
use Rattle.fx_model.specs.Row.{Counts, Label, Silent, Shows, Learns, Starts, Row, numbers_taken, one_more_mask, known_canceled}
use Rattle.fx_model.specs.Row as row
use Rattle.fx_model.specs.Origin.{Origin, main_origin, child_origin}
use Rattle.fx_model.specs.Step.{Progress, Runs, Unwinds, HasEnded, leaf_at, Step}
use Rattle.fx_model.specs.Step as step
use Rattle.fx_model.specs.Run.{first_counts, Leads, IsUnrequested, events}
use Rattle.fx_model.specs.Outside.{outcome_at, leaf_can_step}
use Rattle.fx_model.specs.Report.{ReportView, trace_in, outcome_shown, final_outside}
use Rattle.fx_model.specs.LawfulReport.{starts_of, IsLawfulReport}
use Rattle.fx_model.proofs.Paths.{leaf_plug}
use Rattle.fx_model.proofs.ComputedSteps.{Answers, Next, next}
use Rattle.fx_model.proofs.NextSteps.{IsAnswered, LooksLeftFirst, step_is_next}
use Rattle.fx_spawn_laws.specs.MainFiber.{MainIsBlocked}
use Rattle.fx_spawn_laws.proofs.HaltingRuns.{LeftWaits, answers, IsToldRightly, RunsToHalt, GoesTo, goes_to}
use Rattle.fx_spawn_laws.proofs.Outcomes.{ComesTo, NextIs, can_by_leaf, after_step, where_it_waits}
use Rattle.fx_spawn_laws.proofs.StartedFibers.{main_is_blocked, main_runs, child_in_report, child_begins, canceled_child_ends, shown_at, told_by_labels}

-- what a fiber that began at `never` can come to: it goes on waiting, or ends as canceled
abbrev pub IsNeverOn : Progress → Type 0
IsNeverOn (Runs Never) = Unit {0}
IsNeverOn (Unwinds []) = Unit {0}
IsNeverOn (HasEnded outcome.Canceled) = Unit {0}
IsNeverOn _ = ⊥

never_row : {k : Bool} {c e : Counts} {m : Label} {t u : Term} → Row k c t m e u → IsNeverOn (Runs t) → IsNeverOn (Runs u)
never_row (row.inside (LetIn x b) e j r) on = absurd (rw e at on)
never_row (row.inside (HandleIn x b) e j r) on = absurd (rw e at on)
never_row (row.inside (OnCancelIn b) e j r) on = absurd (rw e at on)
never_row (row.inside (AcquireIn x u b) e j r) on = absurd (rw e at on)
never_row (row.inside (AcquireCaseIn x u y s z d b) e j r) on = absurd (rw e at on)
never_row (row.inside (MaskedIn n) e j r) on = absurd (rw e at on)
never_row (row.inside (OpenedIn n) e j r) on = absurd (rw e at on)
never_row (row.inside (InUseIn n b) e j r) on = absurd (rw e at on)
never_row (row.inside (InUseCaseIn n y s z d b) e j r) on = absurd (rw e at on)
never_row (row.inside (InReleaseIn n v) e j r) on = absurd (rw e at on)
never_row _ on = absurd on

never_cleanups : (t : Term) → IsNeverOn (Runs t) → IsNeverOn (Unwinds (cleanup_terms t))
never_cleanups Never on = tt
never_cleanups _ on = absurd on

never_step : {c e : Counts} {p m : Progress} {k : Label} → Step c p k e m → IsNeverOn p → IsNeverOn m
never_step (step.cancelled {t = t} must) on = never_cleanups t on
never_step (step.seen free open_here) on = on
never_step (step.row free r) on = never_row r on
never_step step.unwound on = tt
never_step _ on = absurd on

pub never_on : (c d : Counts) (p q : Progress) (ls : List Label) → Leads c p ls d q → IsNeverOn p → IsNeverOn q
never_on c d p q [] h on = rw h.1 on
never_on c d p q (l ∷ ls) h on = never_on h.0 d h.1 q ls h.3 (never_step h.2 on)

pub none_or_canceled : (p : Progress) → IsNeverOn p → (outcome_at p ≡ None) ⊎ (outcome_at p ≡ Some outcome.Canceled)
none_or_canceled (Runs Never) on = inl refl
none_or_canceled (Unwinds []) on = inl refl
none_or_canceled (HasEnded outcome.Canceled) on = inr refl
none_or_canceled _ on = absurd on

-- a row of a wait for the first of two learns of one of them
abbrev pub LearnsOne : ℕ → ℕ → Label → Type 0
LearnsOne g h l = (o : Outcome) × ((l ≡ Learns g o (event.First 0)) ⊎ (l ≡ Learns h o (event.First 1)))

pub first_row : {k : Bool} {c d : Counts} {l : Label} {t u : Term} (g h : ℕ) → Row k c t l d u → leaf t ≡ First (Number g) (Number h) → LearnsOne g h l
first_row g h (row.first_left {f = f} {g = f'} {o = o}) e = (o, inl (let same : f ≡ g = cc in rw same refl))
first_row g h (row.first_right {f = f} {g = f'} {o = o}) e = (o, inr (let same : f' ≡ h = cc in rw same refl))
first_row g h (row.inside f {a = a} e j r) is = first_row g h r (sym (leaf_plug f a) ∙ sym (ap leaf e) ∙ is)
first_row g h _ e = absurd cc

first_step : {c d : Counts} {l : Label} {t : Term} {q : Progress} (g h : ℕ) → Step c (Runs t) l d q → is_open t ≡ false
    → leaf t ≡ First (Number g) (Number h) → LearnsOne g h l
first_step g h (step.cancelled {t = t} must) shut is = absurd cc
first_step g h (step.seen free open_here) shut is = absurd cc
first_step g h (step.row free r) shut is = first_row g h r is
first_step g h (step.succeeds free) shut is = absurd cc
first_step g h (step.errs free) shut is = absurd cc

-- the parts of the race inside its two masks, where its children are fibers 1 and 2
abbrev inside : Term → Term
inside t = Masked 0 (Masked 1 t)

abbrev cancel_two : Term
cancel_two = Let None (Cancel (Number 1)) (Cancel (Number 2))

abbrev outcome_part : ℕ → Term
outcome_part f = Join (Number f) 5 (Pure (Slot 5)) 5 (Raise (Slot 5)) (Let None Canceled Never)

abbrev decided_part : ℕ → ℕ → Term
decided_part f g =
    Join (Number f) 5 (Let None (Cancel (Number g)) (Pure (Slot 5))) 5 (Let None (Cancel (Number g)) (Raise (Slot 5)))
    (OnCancel (Poll (Number 1) (outcome_part g)) cancel_two)

abbrev choice : Term
choice = If (Slot 4) (decided_part 2 1) (decided_part 1 2)

abbrev waiting : Term
waiting = inside (Let (Some 4) (OnCancel (Opened 1 (First (Number 1) (Number 2))) cancel_two) choice)

abbrev found : ℕ → Term
found n = inside (Let (Some 4) (OnCancel (Opened 1 (Finished (Val n))) cancel_two) choice)

abbrev silently_to : Counts → Term → Next
silently_to c t = record { label = Silent; counts = c; progress = Runs t }

abbrev learning_to : ℕ → Label → Counts → Term → Next
learning_to f l c t = record { label = l; counts = c; progress = Runs t }

module _ (s : ScriptView) (r : ReportView) where
  abbrev Tells : ℕ → Option Outcome → Type 0
  Tells f v = outcome_shown (trace_in r f) ≡ v

  -- a silent step to where none is come to
  silent : (c d : Counts) (t u : Term) → leaf_can_step (final_outside s r) (leaf t) ≡ true → LeftWaits s r (leaf_at (Runs t))
      → NextIs s r 0 c (Runs t) (silently_to d u)
      → ComesTo s r 0 d (Runs u) None → ComesTo s r 0 c (Runs t) None
  silent c d t u can left is later = after_step s r 0 c (Runs t) (silently_to d u) None (can_by_leaf s r 0 c t can) left is (λ ls. refl) later

  -- both have ended as canceled: the race cancels itself, and waits
  loses : (f : ℕ) → Tells f (Some outcome.Canceled) → (c : Counts) → ComesTo s r 0 c (Runs (inside (OnCancel (Opened 1 (outcome_part f)) cancel_two))) None
  loses f told c =
      after_step s r 0 c (Runs (inside (OnCancel (Opened 1 (outcome_part f)) cancel_two)))
      (record {
        label = Learns f outcome.Canceled (event.Joined f outcome.Canceled);
        counts = c;
        progress = Runs (inside (OnCancel (Opened 1 (Let None Canceled Never)) cancel_two));
      }) None
      (can_by_leaf s r 0 c (inside (OnCancel (Opened 1 (outcome_part f)) cancel_two)) (rw told refl)) tt (λ room front. rw told refl) (λ ls. refl)
      (after_step s r 0 c (Runs (inside (OnCancel (Opened 1 (Let None Canceled Never)) cancel_two)))
      (record {
        label = Shows event.SelfRequest;
        counts = known_canceled c;
        progress = Runs (inside (OnCancel (Opened 1 (Let None (Finished (Val 0)) Never)) cancel_two));
      }) None
      (can_by_leaf s r 0 c (inside (OnCancel (Opened 1 (Let None Canceled Never)) cancel_two)) refl) tt (λ room front. refl) (λ ls. refl)
      (silent (known_canceled c) (known_canceled c) (inside (OnCancel (Opened 1 (Let None (Finished (Val 0)) Never)) cancel_two))
      (inside (OnCancel (Opened 1 Never) cancel_two)) refl tt (λ room front. refl)
      (where_it_waits s r 0 (known_canceled c) (Runs (inside (OnCancel (Opened 1 Never) cancel_two))) refl (λ room front. refl) tt)))

  -- one has ended as canceled, and the other waits for good or has ended so too
  decided_waits : (f g : ℕ) → Tells f (Some outcome.Canceled) → (Tells g None) ⊎ (Tells g (Some outcome.Canceled)) → (c : Counts)
      → ComesTo s r 0 c (Runs (inside (decided_part f g))) None
  decided_waits f g told other c =
      after_step s r 0 c (Runs (inside (decided_part f g)))
      (record {
        label = Learns f outcome.Canceled (event.Joined f outcome.Canceled);
        counts = c;
        progress = Runs (inside (OnCancel (Poll (Number 1) (outcome_part g)) cancel_two));
      }) None
      (can_by_leaf s r 0 c (inside (decided_part f g)) (rw told refl)) tt (λ room front. rw told refl) (λ ls. refl)
      (silent c c (inside (OnCancel (Poll (Number 1) (outcome_part g)) cancel_two)) (inside (OnCancel (Opened 1 (outcome_part g)) cancel_two)) refl tt
      (λ room front. refl)
      (elim other [
        | inl none ↦ where_it_waits s r 0 c (Runs (inside (OnCancel (Opened 1 (outcome_part g)) cancel_two))) (rw none refl) (λ room front. rw none refl) tt
        | inr too ↦ loses g too c
      ]))

  -- from where one has been found to the part that is decided
  found_waits : (c : Counts) (n f g : ℕ)
      → NextIs s r 0 c (Runs (inside (If (Number n) (decided_part 2 1) (decided_part 1 2)))) (silently_to c (inside (decided_part f g)))
      → ComesTo s r 0 c (Runs (inside (decided_part f g))) None → ComesTo s r 0 c (Runs (found n)) None
  found_waits c n f g is later =
      silent c c (found n) (inside (Let (Some 4) (OnCancel (Finished (Val n)) cancel_two) choice)) refl tt (λ room front. refl)
      (silent c c (inside (Let (Some 4) (OnCancel (Finished (Val n)) cancel_two) choice)) (inside (Let (Some 4) (Finished (Val n)) choice)) refl tt
      (λ room front. refl)
      (silent c c (inside (Let (Some 4) (Finished (Val n)) choice)) (inside (If (Number n) (decided_part 2 1) (decided_part 1 2))) refl tt
      (λ room front. refl)
      (silent c c (inside (If (Number n) (decided_part 2 1) (decided_part 1 2))) (inside (decided_part f g)) refl tt is later)))

  -- a step that such answers lead to
  goes_by : (w : Answers) (n : Next) (c : Counts) (l : Label) (ls : List Label) → RunsToHalt s r 0 c (Runs waiting) (l ∷ ls) → IsAnswered w l
      → LooksLeftFirst w l (Some (First (Number 1) (Number 2))) → w.is_requested ≡ false → next w c (Runs waiting) ≡ Some n
      → ((ks : List Label) → outcome_shown (events (n.label ∷ ks)) ≡ outcome_shown (events ks)) → ComesTo s r 0 n.counts n.progress None
      → outcome_shown (events (l ∷ ls)) ≡ None
  goes_by w n c l ls h answered left unasked computed shows_none later =
      ap (λ (x : Next). outcome_shown (events (x.label ∷ ls))) same ∙ shows_none ls
      ∙ later ls (subst (λ (x : Next). RunsToHalt s r 0 x.counts x.progress ls) same rest)
    where
      made : Next
      made = record { label = l; counts = h.leads.0; progress = h.leads.1 }

      same : record { label = l; counts = h.leads.0; progress = h.leads.1 } ≡ n
      same = same_Some _ _ (sym (step_is_next w h.leads.2 answered left (λ look asked. absurd cc)) ∙ computed)

      rest : RunsToHalt s r 0 h.leads.0 h.leads.1 ls
      rest = record {
        counts = h.counts;
        progress = h.progress;
        leads = h.leads.3;
        unable = h.unable;
        told = All-tail (IsToldRightly s r) l ls h.told;
        unseen = All-tail IsUnrequested l ls h.unseen;
      }

  -- what is told of the others, as if fiber 1 had not ended
  abbrev but_for_1 : Answers
  but_for_1 = record {
    outcome = λ f. if f == 1 then None else outcome_shown (trace_in r f);
    has_room = λ q. true;
    front = λ q. None;
    is_requested = false;
  }

  -- the wait for the first of two goes on to the one or to the other
  waiting_goes : (c : Counts) → (Tells 1 None) ⊎ (Tells 1 (Some outcome.Canceled)) → Tells 2 (Some outcome.Canceled) → ComesTo s r 0 c (Runs waiting) None
  waiting_goes c (inl none) two ls h =
      after_step s r 0 c (Runs waiting) (record { label = Learns 2 outcome.Canceled (event.First 1); counts = c; progress = Runs (found 1) }) None
      (can_by_leaf s r 0 c waiting (rw (none, two) refl)) none (λ room front. rw (none, two) refl) (λ ks. refl)
      (found_waits c 1 2 1 (λ room front. refl) (decided_waits 2 1 two (inl none) c)) ls h
  waiting_goes c (inr one) two [] h = refl
  waiting_goes c (inr one) two (l ∷ ls) h =
      let learns = first_step 1 2 h.leads.2 refl refl in
      let told = All-head (IsToldRightly s r) l ls h.told in
      elim learns.1 [
        | inl left ↦
            goes_by (answers s r (λ q. true) (λ q. None))
            (record { label = Learns 1 outcome.Canceled (event.First 0); counts = c; progress = Runs (found 0) }) c l ls h
            (rw left (subst (IsToldRightly s r) left told)) (rw left tt) refl (rw one refl) (λ ks. refl)
            (found_waits c 0 1 2 (λ room front. refl) (decided_waits 1 2 one (inr two) c))
        | inr right ↦
            goes_by but_for_1
            (record { label = Learns 2 outcome.Canceled (event.First 1); counts = c; progress = Runs (found 1) }) c l ls h
            (rw right (subst (IsToldRightly s r) right told)) (rw right refl) refl (rw two refl) (λ ks. refl)
            (found_waits c 1 2 1 (λ room front. refl) (decided_waits 2 1 two (inr one) c))
      ]

-- the race in its mask, and what is left of it as its children start
abbrev raced : Term
raced = race (race_slots 1) Never Canceled

abbrev main_term : Term
main_term = Mask 0 raced

abbrev entered_term : Term
entered_term = Start 2 Never (Start 3 Canceled (put 1 1 (deciding (race_slots 1))))

abbrev left_started : Term
left_started = Start 3 Canceled (put 2 1 (put 1 1 (deciding (race_slots 1))))

abbrev both_started : Term
both_started = Let (Some 4) (OnCancel (Poll (Number 1) (First (Number 1) (Number 2))) cancel_two) choice

abbrev before : Counts
before = first_counts (main_origin main_term)

main_closed : IsClosedTerm main_term
main_closed = (
  refl,
  (
    refl,
    (
      tt,
      refl,
      (
        tt,
        refl,
        (
          ((refl, (refl, refl)), (refl, tt, refl)),
          refl,
          (
            refl,
            (refl, refl, (refl, tt, refl), refl, (refl, tt, refl), ((refl, (refl, refl, refl, refl, refl, (tt, tt, tt))), (refl, tt, refl))),
            (refl, refl, (refl, tt, refl), refl, (refl, tt, refl), ((refl, (refl, refl, refl, refl, refl, (tt, tt, tt))), (refl, tt, refl))),
          ),
        ),
      ),
    ),
  ),
)

main_uses : UsesGiven (nat_lt 0) main_term
main_uses = (
  tt,
  (
    tt,
    (
      ((tt, tt), (tt, tt)),
      ((tt, (tt, tt), (tt, tt), ((tt, tt, tt, (tt, tt)), (tt, tt))), (tt, (tt, tt), (tt, tt), ((tt, tt, tt, (tt, tt)), (tt, tt)))),
    ),
  ),
)

module _ (s : ScriptView) (may : ℕ → Bool) (r : ReportView) (is : s.term ≡ main_term) (lawful : IsLawfulReport s may r) (alone : r.outside ≡ []) where
  abbrev in_two : Counts
  in_two = one_more_mask (one_more_mask before)

  abbrev first_child : Origin
  first_child = child_origin 1 Never

  abbrev second_child : Origin
  second_child = child_origin 2 Canceled

  masked : GoesTo s r 0 (silently_to (one_more_mask before) (Masked 0 raced)) (lawful.runs.labels 0)
  masked =
      goes_to s r 0 before (Runs main_term) (lawful.runs.labels 0) _ (main_runs s may r lawful alone main_term is (main_closed, main_uses))
      (can_by_leaf s r 0 before main_term refl) tt (λ room front. refl)

  entered : GoesTo s r 0 (silently_to in_two (inside entered_term)) masked.labels
  entered =
      goes_to s r 0 (one_more_mask before) (Runs (Masked 0 raced)) masked.labels _ masked.rest
      (can_by_leaf s r 0 (one_more_mask before) (Masked 0 raced) refl) tt (λ room front. refl)

  one_started : GoesTo s r 0 (record { label = Starts 1 first_child; counts = numbers_taken 1 in_two; progress = Runs (inside left_started) }) entered.labels
  one_started =
      goes_to s r 0 in_two (Runs (inside entered_term)) entered.labels _ entered.rest (can_by_leaf s r 0 in_two (inside entered_term) refl) tt
      (λ room front. refl)

  abbrev with_one : Counts
  with_one = numbers_taken 1 in_two

  two_started : GoesTo s r 0 (record { label = Starts 2 second_child; counts = numbers_taken 1 with_one; progress = Runs (inside both_started) })
      one_started.labels
  two_started =
      goes_to s r 0 with_one (Runs (inside left_started)) one_started.labels _ one_started.rest
      (can_by_leaf s r 0 with_one (inside left_started) refl) tt (λ room front. refl)

  all_is : lawful.runs.labels 0 ≡ Silent ∷ Silent ∷ Starts 1 first_child ∷ Starts 2 second_child ∷ two_started.labels
  all_is =
      masked.is ∙ ap (λ (ls : List Label). Silent ∷ ls) (entered.is
      ∙ ap (λ (ls : List Label). Silent ∷ ls) (one_started.is ∙ ap (λ (ls : List Label). Starts 1 first_child ∷ ls) two_started.is))

  one_tells : (outcome_shown (trace_in r 1) ≡ None) ⊎ (outcome_shown (trace_in r 1) ≡ Some outcome.Canceled)
  one_tells =
      let child = child_in_report s may r lawful 1 _ (ap (λ (ls : List Label). starts_of 1 (events ls)) all_is) in
      let begins = child_begins s may r lawful 1 (record { origin = first_child; holds = rw all_is (2, omega arith, refl) }) in
      let run = (lawful.runs.run 1 child.0 child.1).run in
      let on = never_on _ (lawful.runs.counts 1) _ (lawful.runs.progress 1) (lawful.runs.labels 1) run (rw begins tt) in
      let shown = told_by_labels s may r lawful 1 child.0 child.1 ∙ shown_at s may r lawful 1 child.0 child.1 in
      elim (none_or_canceled (lawful.runs.progress 1) on) [ inl none ↦ inl (shown ∙ none) | inr ended ↦ inr (shown ∙ ended) ]

  two_tells : outcome_shown (trace_in r 2) ≡ Some outcome.Canceled
  two_tells =
      canceled_child_ends s may r lawful 2 _ (ap (λ (ls : List Label). starts_of 2 (events ls)) all_is) second_child refl (rw all_is (3, omega arith, refl))

  pub race_in_mask_waits : MainIsBlocked r
  race_in_mask_waits =
      main_is_blocked s may r lawful (ap (λ (ls : List Label). outcome_shown (events ls)) all_is ∙ comes two_started.labels two_started.rest)
    where
      comes : ComesTo s r 0 (numbers_taken 1 with_one) (Runs (inside both_started)) None
      comes =
          silent s r (numbers_taken 1 with_one) (numbers_taken 1 with_one) (inside both_started) waiting refl tt (λ room front. refl)
          (waiting_goes s r (numbers_taken 1 with_one) one_tells two_tells)
