-- The run of a main fiber that races two others: all that its labels can be, by how the two ended.
use Rattle.std.proofs.Common.{◌≡◌, ℕ, Bool, true, false, Option, Some, None, List, [], ◌∷◌, inl, inr, refl, sym, ◌∙◌, ap, subst}
use Rattle.std.specs.Prelude.{◌==◌, if◌then◌else◌}
use Rattle.std.proofs.lemmas.Bool.{eq-eqb}
use Rattle.std.proofs.lemmas.Option.{same_Some}
use Rattle.std.proofs.lemmas.List.Elements.{All-head, All-tail}
use Rattle.fx_term.specs.declared.node.Arg.TheVariants.{Number, Slot}
use Rattle.fx_term.specs.declared.done.Done.TheVariants.{Val, Err}
use Rattle.fx_term.specs.declared.outcome.Outcome.{Outcome}
use Rattle.fx_term.specs.declared.outcome.Outcome.TheVariants.{Succeeded, Errored}
use Rattle.fx_term.specs.declared.outcome.Outcome.TheVariants as outcome
use Rattle.fx_term.specs.declared.event.Event.TheVariants as event
use Rattle.fx_term.specs.Term.{Term, Pure, Raise, Canceled, Never, Let, If, Poll, OnCancel, Join, Cancel, First, Finished, Masked, Opened, Await}
use Rattle.fx_term.specs.Script.{ScriptView}
use Rattle.fx_model.specs.Path.{leaf, must_cancel, Finalizer}
use Rattle.fx_model.specs.Row.{Counts, Label, Silent, Shows, Learns}
use Rattle.fx_model.specs.Step.{Progress, Runs, Unwinds, CleansUp, HasEnded, leaf_at, Step}
use Rattle.fx_model.specs.Step as step
use Rattle.fx_model.specs.Run.{IsUnrequested}
use Rattle.fx_model.specs.Outside.{leaf_can_step, can_step}
use Rattle.fx_model.specs.Report.{ReportView, trace_in, outcome_shown, is_requested_in, final_outside}
use Rattle.fx_model.proofs.ComputedSteps.{Answers, Next, next}
use Rattle.fx_model.proofs.NextSteps.{IsAnswered, LooksLeftFirst, step_is_next}
use Rattle.fx_spawn_laws.proofs.HaltingRuns.{LeftWaits, answers, IsToldRightly, RunsToHalt, goes_to, stays}
use Rattle.fx_spawn_laws.proofs.Outcomes.{NextIs, CanStep, can_by_leaf}
use Rattle.fx_spawn_laws.proofs.RaceLaws.{LearnsOne, first_row}

-- the parts of a race of fibers f and g, in its mask
abbrev pub inside : Term → Term
inside t = Masked 0 t

abbrev cancel_two : ℕ → ℕ → Term
cancel_two f g = Let None (Cancel (Number f)) (Cancel (Number g))

abbrev outcome_part : ℕ → Term
outcome_part x = Join (Number x) 4 (Pure (Slot 4)) 4 (Raise (Slot 4)) (Let None Canceled Never)

abbrev decided_part : ℕ → ℕ → ℕ → ℕ → Term
decided_part f g w x =
    Join (Number w) 4 (Let None (Cancel (Number x)) (Pure (Slot 4))) 4 (Let None (Cancel (Number x)) (Raise (Slot 4)))
    (OnCancel (Poll (Number 0) (outcome_part x)) (cancel_two f g))

abbrev choice : ℕ → ℕ → Term
choice f g = If (Slot 3) (decided_part f g g f) (decided_part f g f g)

abbrev pub both_started : ℕ → ℕ → Term
both_started f g = Let (Some 3) (OnCancel (Poll (Number 0) (First (Number f) (Number g))) (cancel_two f g)) (choice f g)

abbrev waiting : ℕ → ℕ → Term
waiting f g = inside (Let (Some 3) (OnCancel (Opened 0 (First (Number f) (Number g))) (cancel_two f g)) (choice f g))

abbrev found : ℕ → ℕ → ℕ → Term
found f g n = inside (Let (Some 3) (OnCancel (Opened 0 (Finished (Val n))) (cancel_two f g)) (choice f g))

-- the labels from a result on, outside of the mask's poll and in it
abbrev result_tail : Outcome → List Label
result_tail o = Silent ∷ Silent ∷ Shows (event.Ended o) ∷ []

abbrev polled_tail : Outcome → List Label
polled_tail o = Silent ∷ Silent ∷ result_tail o

-- from a cancellation on: both are requested and waited for
abbrev cancel_tail : ℕ → ℕ → List Label
cancel_tail f g =
    Shows event.Cancelled ∷ Silent ∷ Shows (event.Request f) ∷ Learns f outcome.Canceled (event.Awaited f) ∷ Silent ∷ Shows (event.Request g)
    ∷ Learns g outcome.Canceled (event.Awaited g) ∷ Silent ∷ Shows (event.Ended outcome.Canceled) ∷ []

-- from where the outcome of x is waited for
abbrev pub outcome_tail : ℕ → ℕ → ℕ → Option Outcome → List Label
outcome_tail f g x None = []
outcome_tail f g x (Some outcome.Canceled) = Learns x outcome.Canceled (event.Joined x outcome.Canceled) ∷ cancel_tail f g
outcome_tail f g x (Some o) = Learns x o (event.Joined x o) ∷ polled_tail o

-- from where x is requested, since the other one came to this
abbrev pub asked_tail : ℕ → Outcome → Option Outcome → List Label
asked_tail x o None = Shows (event.Request x) ∷ []
asked_tail x o (Some v) = Shows (event.Request x) ∷ Learns x v (event.Awaited x) ∷ Silent ∷ result_tail o

-- from where w has been found to have ended so, and x has, or has not
abbrev pub decided_tail : ℕ → ℕ → ℕ → ℕ → Outcome → Option Outcome → List Label
decided_tail f g w x outcome.Canceled v = Learns w outcome.Canceled (event.Joined w outcome.Canceled) ∷ Silent ∷ outcome_tail f g x v
decided_tail f g w x o v = Learns w o (event.Joined w o) ∷ asked_tail x o v

abbrev pub found_tail : ℕ → ℕ → ℕ → ℕ → ℕ → Outcome → Option Outcome → List Label
found_tail n f g w x o v = Learns w o (event.First n) ∷ Silent ∷ Silent ∷ Silent ∷ Silent ∷ decided_tail f g w x o v

-- what the labels of the race are from where it waits, where the two came to this: none has ended; or one was found to have
pub data RacedSo (f g : ℕ) : Option Outcome → Option Outcome → List Label → Type 0 where
  none_ends : RacedSo f g None None []
  left_first : {o : Outcome} {v : Option Outcome} → RacedSo f g (Some o) v (found_tail 0 f g f g o v)
  right_first : {o : Outcome} {v : Option Outcome} → RacedSo f g v (Some o) (found_tail 1 f g g f o v)

module _ (s : ScriptView) (r : ReportView) (quiet : is_requested_in r 0 ≡ false) where
  -- a run from here to where it cannot step has these labels
  abbrev pub Is : Counts → Progress → List Label → Type 0
  Is c p ks = (ls : List Label) → RunsToHalt s r 0 c p ls → ls ≡ ks

  abbrev Tells : ℕ → Option Outcome → Type 0
  Tells f v = outcome_shown (trace_in r f) ≡ v

  step_is : (c : Counts) (p : Progress) (n : Next) (ks : List Label) → CanStep s r 0 c p → LeftWaits s r (leaf_at p) → NextIs s r 0 c p n
      → Is n.counts n.progress ks → Is c p (n.label ∷ ks)
  step_is c p n ks can left is later ls run =
      let g = goes_to s r 0 c p ls n run can left is in g.is ∙ ap (λ (ms : List Label). n.label ∷ ms) (later g.labels g.rest)

  stop_is : (c : Counts) (p : Progress) → can_step (final_outside s r) 0 c p ≡ false
      → ((room : ℕ → Bool) (front : ℕ → Option ℕ) → next (answers s r room front) c p ≡ None) → LeftWaits s r (leaf_at p) → Is c p []
  stop_is c p cannot none left ls run = stays s r 0 c p ls run cannot none left

  -- a step of a term, with this label
  row_is : (c : Counts) (t u : Term) (l : Label) (ks : List Label) → leaf_can_step (final_outside s r) (leaf t) ≡ true → LeftWaits s r (leaf_at (Runs t))
      → NextIs s r 0 c (Runs t) (record { label = l; counts = c; progress = Runs u }) → Is c (Runs u) ks → Is c (Runs t) (l ∷ ks)
  row_is c t u l ks can left is later = step_is c (Runs t) (record { label = l; counts = c; progress = Runs u }) ks (can_by_leaf s r 0 c t can) left is later

  clean_is : (c : Counts) (t u : Term) (l : Label) (ks : List Label) → leaf_can_step (final_outside s r) (leaf t) ≡ true
      → LeftWaits s r (leaf_at (CleansUp None t []))
      → NextIs s r 0 c (CleansUp None t []) (record { label = l; counts = c; progress = CleansUp None u [] }) → Is c (CleansUp None u []) ks
      → Is c (CleansUp None t []) (l ∷ ks)
  clean_is c t u l ks can left is later =
      step_is c (CleansUp None t []) (record { label = l; counts = c; progress = CleansUp None u [] }) ks can left is later

  end_is : (c : Counts) (o : Outcome) → Is c (HasEnded o) []
  end_is c o = stop_is c (HasEnded o) refl (λ room front. refl) tt

  -- a step of a term that such answers lead to
  record GoesFrom (n : Next) (l : Label) (ls : List Label) : Type 0 where
    pub is : n.label ≡ l
    pub rest : RunsToHalt s r 0 n.counts n.progress ls

  goes_from : (w : Answers) (n : Next) (c : Counts) (p : Progress) (l : Label) (ls : List Label) → RunsToHalt s r 0 c p (l ∷ ls) → IsAnswered w l
      → LooksLeftFirst w l (leaf_at p) → w.is_requested ≡ false → next w c p ≡ Some n → GoesFrom n l ls
  goes_from w n c p l ls h answered left unasked computed =
      record { is = ap (λ (x : Next). x.label) (sym same); rest = subst (λ (x : Next). RunsToHalt s r 0 x.counts x.progress ls) same rest }
    where
      same : record { label = l; counts = h.leads.0; progress = h.leads.1 } ≡ n
      same = same_Some _ _ (sym (step_is_next w h.leads.2 answered left (λ look asked. absurd cc)) ∙ computed)

      rest : RunsToHalt s r 0 h.leads.0 h.leads.1 ls
      rest = record {
        counts = h.counts;
        progress = h.progress;
        leads = h.leads.3;
        unable = h.unable;
        told = All-tail (IsToldRightly s r) l ls h.told;
        unseen = All-tail IsUnrequested l ls h.unseen;
      }

  module _ (c : Counts) (free : c.known ≡ false) where
    value_is : (n : ℕ) → Is c (Runs (inside (Pure (Number n)))) (result_tail (Succeeded n))
    value_is n =
        row_is c (inside (Pure (Number n))) (inside (Finished (Val n))) Silent _ refl tt (λ room front. rw free refl)
        (row_is c (inside (Finished (Val n))) (Finished (Val n)) Silent _ refl tt (λ room front. rw free refl)
        (step_is c (Runs (Finished (Val n))) (record { label = Shows (event.Ended (Succeeded n)); counts = c; progress = HasEnded (Succeeded n) }) []
        (can_by_leaf s r 0 c (Finished (Val n)) refl) tt (λ room front. rw free refl) (end_is c (Succeeded n))))

    error_is : (n : ℕ) → Is c (Runs (inside (Raise (Number n)))) (result_tail (Errored n))
    error_is n =
        row_is c (inside (Raise (Number n))) (inside (Finished (Err n))) Silent _ refl tt (λ room front. rw free refl)
        (row_is c (inside (Finished (Err n))) (Finished (Err n)) Silent _ refl tt (λ room front. rw free refl)
        (step_is c (Runs (Finished (Err n))) (record { label = Shows (event.Ended (Errored n)); counts = c; progress = HasEnded (Errored n) }) []
        (can_by_leaf s r 0 c (Finished (Err n)) refl) tt (λ room front. rw free refl) (end_is c (Errored n))))

    module _ (f g : ℕ) where
      abbrev polled : Term → Term
      polled t = inside (OnCancel (Opened 0 t) (cancel_two f g))

      abbrev closing : Term → Term
      closing t = inside (OnCancel t (cancel_two f g))

      polled_value_is : (n : ℕ) → Is c (Runs (polled (Pure (Number n)))) (polled_tail (Succeeded n))
      polled_value_is n =
          row_is c (polled (Pure (Number n))) (polled (Finished (Val n))) Silent _ refl tt (λ room front. rw free refl)
          (row_is c (polled (Finished (Val n))) (closing (Finished (Val n))) Silent _ refl tt (λ room front. rw free refl)
          (row_is c (closing (Finished (Val n))) (inside (Finished (Val n))) Silent _ refl tt (λ room front. rw free refl)
          (row_is c (inside (Finished (Val n))) (Finished (Val n)) Silent _ refl tt (λ room front. rw free refl)
          (step_is c (Runs (Finished (Val n))) (record { label = Shows (event.Ended (Succeeded n)); counts = c; progress = HasEnded (Succeeded n) }) []
          (can_by_leaf s r 0 c (Finished (Val n)) refl) tt (λ room front. rw free refl) (end_is c (Succeeded n))))))

      polled_error_is : (n : ℕ) → Is c (Runs (polled (Raise (Number n)))) (polled_tail (Errored n))
      polled_error_is n =
          row_is c (polled (Raise (Number n))) (polled (Finished (Err n))) Silent _ refl tt (λ room front. rw free refl)
          (row_is c (polled (Finished (Err n))) (closing (Finished (Err n))) Silent _ refl tt (λ room front. rw free refl)
          (row_is c (closing (Finished (Err n))) (inside (Finished (Err n))) Silent _ refl tt (λ room front. rw free refl)
          (row_is c (inside (Finished (Err n))) (Finished (Err n)) Silent _ refl tt (λ room front. rw free refl)
          (step_is c (Runs (Finished (Err n))) (record { label = Shows (event.Ended (Errored n)); counts = c; progress = HasEnded (Errored n) }) []
          (can_by_leaf s r 0 c (Finished (Err n)) refl) tt (λ room front. rw free refl) (end_is c (Errored n))))))

      -- the race cancels itself, where both have ended
      canceled_is : Tells f (Some outcome.Canceled) → Tells g (Some outcome.Canceled) → Is c (Runs (polled (Let None Canceled Never))) (cancel_tail f g)
      canceled_is tf tg =
          step_is c (Runs (polled (Let None Canceled Never)))
          (record { label = Shows event.Cancelled; counts = c; progress = Unwinds (Finalizer (cancel_two f g) ∷ []) }) _
          (can_by_leaf s r 0 c (polled (Let None Canceled Never)) refl) tt (λ room front. rw free refl)
          (step_is c (Unwinds (Finalizer (cancel_two f g) ∷ [])) (record { label = Silent; counts = c; progress = CleansUp None (cancel_two f g) [] }) _
          refl tt (λ room front. refl)
          (clean_is c (cancel_two f g) (Let None (Await f) (Cancel (Number g))) (Shows (event.Request f)) _ refl tt (λ room front. refl)
          (clean_is c (Let None (Await f) (Cancel (Number g))) (Let None (Finished (Val 0)) (Cancel (Number g)))
          (Learns f outcome.Canceled (event.Awaited f)) _ (rw tf refl) tt (λ room front. rw tf refl)
          (clean_is c (Let None (Finished (Val 0)) (Cancel (Number g))) (Cancel (Number g)) Silent _ refl tt (λ room front. refl)
          (clean_is c (Cancel (Number g)) (Await g) (Shows (event.Request g)) _ refl tt (λ room front. refl)
          (clean_is c (Await g) (Finished (Val 0)) (Learns g outcome.Canceled (event.Awaited g)) _ (rw tg refl) tt (λ room front. rw tg refl)
          (step_is c (CleansUp None (Finished (Val 0)) []) (record { label = Silent; counts = c; progress = Unwinds [] }) _ refl tt (λ room front. refl)
          (step_is c (Unwinds []) (record { label = Shows (event.Ended outcome.Canceled); counts = c; progress = HasEnded outcome.Canceled }) [] refl tt
          (λ room front. refl) (end_is c outcome.Canceled)))))))))

      outcome_is : (x : ℕ) (v : Option Outcome) → Tells x v → (v ≡ Some outcome.Canceled → Tells f (Some outcome.Canceled) × Tells g (Some outcome.Canceled))
          → Is c (Runs (polled (outcome_part x))) (outcome_tail f g x v)
      outcome_is x None told both =
          stop_is c (Runs (polled (outcome_part x))) (rw (told, quiet, free) refl) (λ room front. rw (free, told) refl) tt
      outcome_is x (Some (Succeeded n)) told both =
          row_is c (polled (outcome_part x)) (polled (Pure (Number n))) (Learns x (Succeeded n) (event.Joined x (Succeeded n))) _ (rw told refl) tt
          (λ room front. rw (free, told) refl) (polled_value_is n)
      outcome_is x (Some (Errored n)) told both =
          row_is c (polled (outcome_part x)) (polled (Raise (Number n))) (Learns x (Errored n) (event.Joined x (Errored n))) _ (rw told refl) tt
          (λ room front. rw (free, told) refl) (polled_error_is n)
      outcome_is x (Some outcome.Canceled) told both =
          row_is c (polled (outcome_part x)) (polled (Let None Canceled Never)) (Learns x outcome.Canceled (event.Joined x outcome.Canceled)) _
          (rw told refl) tt (λ room front. rw (free, told) refl) (canceled_is (both refl).0 (both refl).1)

      asked_value_is : (x n : ℕ) (v : Option Outcome) → Tells x v
          → Is c (Runs (inside (Let None (Cancel (Number x)) (Pure (Number n))))) (asked_tail x (Succeeded n) v)
      asked_value_is x n None told =
          row_is c (inside (Let None (Cancel (Number x)) (Pure (Number n)))) (inside (Let None (Await x) (Pure (Number n)))) (Shows (event.Request x)) _ refl tt
          (λ room front. refl)
          (stop_is c (Runs (inside (Let None (Await x) (Pure (Number n))))) (rw told refl) (λ room front. rw told refl) tt)
      asked_value_is x n (Some o) told =
          row_is c (inside (Let None (Cancel (Number x)) (Pure (Number n)))) (inside (Let None (Await x) (Pure (Number n)))) (Shows (event.Request x)) _ refl tt
          (λ room front. refl)
          (row_is c (inside (Let None (Await x) (Pure (Number n)))) (inside (Let None (Finished (Val 0)) (Pure (Number n)))) (Learns x o (event.Awaited x)) _
          (rw told refl) tt (λ room front. rw told refl)
          (row_is c (inside (Let None (Finished (Val 0)) (Pure (Number n)))) (inside (Pure (Number n))) Silent _ refl tt (λ room front. refl) (value_is n)))

      asked_error_is : (x n : ℕ) (v : Option Outcome) → Tells x v
          → Is c (Runs (inside (Let None (Cancel (Number x)) (Raise (Number n))))) (asked_tail x (Errored n) v)
      asked_error_is x n None told =
          row_is c (inside (Let None (Cancel (Number x)) (Raise (Number n)))) (inside (Let None (Await x) (Raise (Number n))))
          (Shows (event.Request x)) _ refl tt
          (λ room front. refl)
          (stop_is c (Runs (inside (Let None (Await x) (Raise (Number n))))) (rw told refl) (λ room front. rw told refl) tt)
      asked_error_is x n (Some o) told =
          row_is c (inside (Let None (Cancel (Number x)) (Raise (Number n)))) (inside (Let None (Await x) (Raise (Number n))))
          (Shows (event.Request x)) _ refl tt
          (λ room front. refl)
          (row_is c (inside (Let None (Await x) (Raise (Number n)))) (inside (Let None (Finished (Val 0)) (Raise (Number n)))) (Learns x o (event.Awaited x)) _
          (rw told refl) tt (λ room front. rw told refl)
          (row_is c (inside (Let None (Finished (Val 0)) (Raise (Number n)))) (inside (Raise (Number n))) Silent _ refl tt (λ room front. refl) (error_is n)))

      decided_is : (w x : ℕ) (o : Outcome) (v : Option Outcome) → Tells w (Some o) → Tells x v
          → (o ≡ outcome.Canceled → v ≡ Some outcome.Canceled → Tells f (Some outcome.Canceled) × Tells g (Some outcome.Canceled))
          → Is c (Runs (inside (decided_part f g w x))) (decided_tail f g w x o v)
      decided_is w x (Succeeded n) v told other both =
          row_is c (inside (decided_part f g w x)) (inside (Let None (Cancel (Number x)) (Pure (Number n))))
          (Learns w (Succeeded n) (event.Joined w (Succeeded n))) _ (rw told refl) tt (λ room front. rw told refl) (asked_value_is x n v other)
      decided_is w x (Errored n) v told other both =
          row_is c (inside (decided_part f g w x)) (inside (Let None (Cancel (Number x)) (Raise (Number n))))
          (Learns w (Errored n) (event.Joined w (Errored n))) _ (rw told refl) tt (λ room front. rw told refl) (asked_error_is x n v other)
      decided_is w x outcome.Canceled v told other both =
          row_is c (inside (decided_part f g w x)) (closing (Poll (Number 0) (outcome_part x)))
          (Learns w outcome.Canceled (event.Joined w outcome.Canceled)) _ (rw told refl) tt (λ room front. rw told refl)
          (row_is c (closing (Poll (Number 0) (outcome_part x))) (polled (outcome_part x)) Silent _ refl tt (λ room front. refl)
          (outcome_is x v other (both refl)))

      -- from where one has been found to the part that is decided
      found_is : (n w x : ℕ) (ks : List Label)
          → NextIs s r 0 c (Runs (inside (If (Number n) (decided_part f g g f) (decided_part f g f g))))
          (record { label = Silent; counts = c; progress = Runs (inside (decided_part f g w x)) })
          → Is c (Runs (inside (decided_part f g w x))) ks → Is c (Runs (found f g n)) (Silent ∷ Silent ∷ Silent ∷ Silent ∷ ks)
      found_is n w x ks is later =
          row_is c (found f g n) (inside (Let (Some 3) (OnCancel (Finished (Val n)) (cancel_two f g)) (choice f g))) Silent _ refl tt
          (λ room front. rw free refl)
          (row_is c (inside (Let (Some 3) (OnCancel (Finished (Val n)) (cancel_two f g)) (choice f g))) (inside (Let (Some 3) (Finished (Val n)) (choice f g)))
          Silent _ refl tt (λ room front. refl)
          (row_is c (inside (Let (Some 3) (Finished (Val n)) (choice f g))) (inside (If (Number n) (decided_part f g g f) (decided_part f g f g))) Silent _
          refl tt (λ room front. refl)
          (row_is c (inside (If (Number n) (decided_part f g g f) (decided_part f g f g))) (inside (decided_part f g w x)) Silent ks refl tt is later)))

      -- a step where it waits
      waiting_step : {d : Counts} {l : Label} {t : Term} {q : Progress} → Step c (Runs t) l d q → must_cancel c.known t ≡ false → IsUnrequested l
          → leaf t ≡ First (Number f) (Number g) → LearnsOne f g l
      waiting_step (step.cancelled must) free_here unseen is = absurd cc
      waiting_step (step.seen free_here open_here) free_there unseen is = absurd (unseen refl)
      waiting_step (step.row free_here r) free_there unseen is = first_row f g r is
      waiting_step (step.succeeds free_here) free_there unseen is = absurd cc
      waiting_step (step.errs free_here) free_there unseen is = absurd cc

      -- what is told of the others, as if fiber f had not ended
      abbrev but_for : Answers
      but_for = record {
        outcome = λ h. if h == f then None else outcome_shown (trace_in r h);
        has_room = λ q. true;
        front = λ q. None;
        is_requested = false;
      }

      module _ (apart : (g == f) ≡ false) where
        both_told : (vf vg : Option Outcome) → Tells f vf → Tells g vg → vf ≡ Some outcome.Canceled → vg ≡ Some outcome.Canceled
            → Tells f (Some outcome.Canceled) × Tells g (Some outcome.Canceled)
        both_told vf vg tf tg ef eg = (tf ∙ ef, tg ∙ eg)

        left_found : (o : Outcome) (vf vg : Option Outcome) → Tells f vf → Tells g vg → Tells f (Some o) → (l : Label) (ls : List Label)
            → l ≡ Learns f o (event.First 0) → RunsToHalt s r 0 c (Runs (waiting f g)) (l ∷ ls) → RacedSo f g vf vg (l ∷ ls)
        left_found o vf vg tf tg told l ls is h =
            let from = goes_from (answers s r (λ q. true) (λ q. None))
            (record { label = Learns f o (event.First 0); counts = c; progress = Runs (found f g 0) }) c (Runs (waiting f g)) l ls h
            (rw is told) (rw is tt) refl (rw (free, told) refl) in
            let rest = found_is 0 f g (decided_tail f g f g o vg) (λ room front. refl)
            (decided_is f g o vg told tg (λ eo ev. both_told (Some o) vg told tg (ap Some eo) ev)) ls from.rest in
            subst (λ (v : Option Outcome). RacedSo f g v vg (l ∷ ls)) (sym told ∙ tf) (rw (is, rest) left_first)

        right_found : (o : Outcome) (vf vg : Option Outcome) → Tells f vf → Tells g vg → Tells g (Some o) → (l : Label) (ls : List Label)
            → l ≡ Learns g o (event.First 1) → RunsToHalt s r 0 c (Runs (waiting f g)) (l ∷ ls) → RacedSo f g vf vg (l ∷ ls)
        right_found o vf vg tf tg told l ls is h =
            let same : (f == f) ≡ true = eq-eqb f f refl in
            let from = goes_from but_for
            (record { label = Learns g o (event.First 1); counts = c; progress = Runs (found f g 1) }) c (Runs (waiting f g)) l ls h
            (rw (is, apart) told) (rw (is, same) refl) refl (rw (free, same, apart, told) refl) in
            let rest = found_is 1 g f (decided_tail f g g f o vf) (λ room front. refl)
            (decided_is g f o vf told tf (λ eo ev. both_told vf (Some o) tf told ev (ap Some eo))) ls from.rest in
            subst (λ (v : Option Outcome). RacedSo f g vf v (l ∷ ls)) (sym told ∙ tg) (rw (is, rest) right_first)

        stops_where_none : (vf vg : Option Outcome) → Tells f vf → Tells g vg → can_step (final_outside s r) 0 c (Runs (waiting f g)) ≡ false
            → RacedSo f g vf vg []
        stops_where_none None None tf tg unable = none_ends
        stops_where_none (Some o) vg tf tg unable =
            absurd (let can = can_by_leaf s r 0 c (waiting f g) (rw tf refl) in cc)
        stops_where_none None (Some o) tf tg unable =
            absurd (let can = can_by_leaf s r 0 c (waiting f g) (rw (tf, tg) refl) in cc)

        waiting_is : (vf vg : Option Outcome) → Tells f vf → Tells g vg → (ls : List Label) → RunsToHalt s r 0 c (Runs (waiting f g)) ls
            → RacedSo f g vf vg ls
        waiting_is vf vg tf tg [] h = stops_where_none vf vg tf tg (rw (h.leads.0, h.leads.1) at h.unable)
        waiting_is vf vg tf tg (l ∷ ls) h =
            let told = All-head (IsToldRightly s r) l ls h.told in
            let learns = waiting_step h.leads.2 (rw free refl) (All-head IsUnrequested l ls h.unseen) refl in
            elim learns.1 [
              | inl left ↦ left_found learns.0 vf vg tf tg (subst (IsToldRightly s r) left told) l ls left h
              | inr right ↦ right_found learns.0 vf vg tf tg (subst (IsToldRightly s r) right told) l ls right h
            ]

        -- the labels of the race, from where both have been started
        pub race_is : (vf vg : Option Outcome) → Tells f vf → Tells g vg → (ls : List Label) → RunsToHalt s r 0 c (Runs (inside (both_started f g))) ls
            → (rest : List Label) × (ls ≡ Silent ∷ rest) × RacedSo f g vf vg rest
        race_is vf vg tf tg ls h =
            let at = goes_to s r 0 c (Runs (inside (both_started f g))) ls (record { label = Silent; counts = c; progress = Runs (waiting f g) }) h
            (can_by_leaf s r 0 c (inside (both_started f g)) refl) tt (λ room front. refl) in
            (at.labels, at.is, waiting_is vf vg tf tg at.labels at.rest)
