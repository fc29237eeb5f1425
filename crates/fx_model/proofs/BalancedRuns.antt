-- The events of a run that has ended are balanced, and those of any run are so far.
use Rattle.std.proofs.Common.{nat_eq, Some, None, List, [], ◌∷◌, ◌++◌, refl, sym, ap, subst, append_assoc, append-nil}
use Rattle.std.specs.List.{IsDistinct}
use Rattle.fx_term.specs.declared.outcome.Outcome.{Outcome}
use Rattle.fx_term.specs.declared.event.Event.{Event}
use Rattle.fx_term.specs.Forms.{IsCore}
use Rattle.fx_model.specs.Origin.{Origin}
use Rattle.fx_model.specs.Row.{Counts, Label}
use Rattle.fx_model.specs.Step.{Progress, Runs, HasEnded, Step}
use Rattle.fx_model.specs.Step as step
use Rattle.fx_model.specs.Run.{first_counts, Leads, IsRun, events}
use Rattle.fx_model.specs.Balanced.{acquired_numbers, IsBalanced, IsBalancedSoFar, nothing}
use Rattle.fx_model.proofs.AcquiredNumbers.{acquired_in_order, range_is_distinct}
use Rattle.fx_model.proofs.HeldResources.{Held, BeingReleased, held_for, held_at, core_holds_none, held_by_cleanups}
use Rattle.fx_model.proofs.Runs.{events_append}
use Rattle.fx_model.proofs.Nesting.{LeadsTo, Changes, changes_inside, changes_lead, releases, released_acquires_same, released_is_nested}
use Rattle.fx_model.proofs.CancelledSteps.{must_is_paired}
use Rattle.fx_model.proofs.PairedMasks.{paired_has_no_seal}
use Rattle.fx_model.proofs.ResourceRows.{row_keeps_running}
use Rattle.fx_model.proofs.RunningTerms.{IsRunningProgress, core_runs, cleanups_core}

-- a step keeps how far a fiber is a running progress, and changes what is held as its label says
pub step_keeps : {c d : Counts} {p q : Progress} {l : Label} → Step c p l d q → IsRunningProgress p → IsRunningProgress q × Changes l (held_at p) (held_at q)
step_keeps {c = c} (step.cancelled {t = t} m) h = (cleanups_core t h, sym (held_by_cleanups t (paired_has_no_seal (must_is_paired c.known t m))))
step_keeps (step.seen m o) h = (h, refl)
step_keeps (step.row m r) h = row_keeps_running r h
step_keeps (step.succeeds m) h = (tt, refl)
step_keeps (step.errs m) h = (tt, refl)
step_keeps (step.finalizer {f = f} {rest = rest}) h = ((core_runs f h.0, h.1), ap (λ (s : List Held). s ++ held_for rest) (core_holds_none f h.0))
step_keeps (step.release {k = k} {r = r} {rest = rest}) h =
    ((core_runs r h.0, h.1), (held_for rest, refl, ap (λ (s : List Held). s ++ (BeingReleased k ∷ held_for rest)) (core_holds_none r h.0)))
step_keeps (step.cleans {k = None} r) h = let g = row_keeps_running r h.0 in ((g.0, h.1), changes_inside _ _ _ _ g.1)
step_keeps (step.cleans {k = Some k} r) h = let g = row_keeps_running r h.0 in ((g.0, h.1), changes_inside _ _ _ _ g.1)
step_keeps step.finalizer_ends h = (h.1, refl)
step_keeps step.release_ends h = (h.1, refl)
step_keeps step.unwound h = (tt, refl)

steps_lead : (c d : Counts) (p q : Progress) (ls : List Label) (es : List Event) → Leads c p ls d q → IsRunningProgress p → LeadsTo (held_at p) es
    → LeadsTo (held_at q) (es ++ events ls)
steps_lead c d p q [] es r h n = rw (r.1, append-nil) n
steps_lead c d p q (l ∷ ls) es r h n =
    let g = step_keeps r.2 h in
    rw (events_append (l ∷ []) ls, ← append_assoc) (steps_lead r.0 d r.1 q ls (es ++ events (l ∷ [])) r.3 g.0 (changes_lead l _ _ es g.1 n))

run_leads : (b : Origin) (ls : List Label) (d : Counts) (q : Progress) → IsCore b.term → IsRun b ls d q → LeadsTo (held_at q) (events ls)
run_leads b ls d q h r = steps_lead (first_counts b) d (Runs b.term) q ls [] r (core_runs b.term h) (rw (core_holds_none b.term h) nothing)

run_acquires_once : (b : Origin) (ls : List Label) (d : Counts) (q : Progress) → IsRun b ls d q → IsDistinct nat_eq (acquired_numbers (events ls))
run_acquires_once b ls d q r = rw (acquired_in_order b ls d q r) (range_is_distinct 0 d.acquired)

pub ended_run_is_balanced : (b : Origin) (ls : List Label) (d : Counts) (o : Outcome) → IsCore b.term → IsRun b ls d (HasEnded o) → IsBalanced (events ls)
ended_run_is_balanced b ls d o h r = record { nested = run_leads b ls d (HasEnded o) h r; once = run_acquires_once b ls d (HasEnded o) r }

-- what is held can be released
pub run_is_balanced_so_far : (b : Origin) (ls : List Label) (d : Counts) (q : Progress) → IsCore b.term → IsRun b ls d q → IsBalancedSoFar (events ls)
run_is_balanced_so_far b ls d q h r =
    let nested = released_is_nested (held_at q) (events ls) (run_leads b ls d q h r) in
    let once = subst (IsDistinct nat_eq) (sym (released_acquires_same (held_at q) (events ls))) (run_acquires_once b ls d q r) in
    (releases (held_at q), record { nested = nested; once = once })
