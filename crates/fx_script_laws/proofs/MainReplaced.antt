-- A report stays lawful where the main fiber has another term and a run of its own with the same labels.
use Rattle.std.proofs.Common.{◌≡◌, ℕ, zero, suc, ◌+◌, ◌<◌, ◌≤◌, Bool, false, Some, List, [], ◌∷◌, All, refl, sym, ◌∙◌, ap, subst, arith}
use Rattle.std.specs.Prelude.{slice_get}
use Rattle.std.proofs.lemmas.List.Elements.{All-nil, All-cons, All-head, All-tail}
use Rattle.fx_term.specs.Need.{need}
use Rattle.fx_term.specs.Term.{Term}
use Rattle.fx_term.specs.Script.{ScriptView}
use Rattle.fx_term.specs.declared.event.Event.TheVariants as event
use Rattle.fx_model.specs.Row.{Label, Silent, Shows, Learns, Starts}
use Rattle.fx_model.specs.Origin.{Origin, main_origin}
use Rattle.fx_model.specs.Step.{Runs, has_ended}
use Rattle.fx_model.specs.Run.{first_counts, IsUnrequested, shown, events}
use Rattle.fx_model.specs.Report.{FiberReportView, ReportView, fiber_in, trace_in, is_requested_in, final_outside}
use Rattle.fx_model.specs.LawfulReport.{HasRun, HasRuns, BeginsAs, IsLearnt, IsSeenRightly, IsLawfulReport}
use Rattle.fx_model.specs.Causes.{Needs, taken_element, end_of_other, start, LeavesQueue, CausesComeFirst, IsLawfulInOneOrder}
use Rattle.fx_model.specs.Happenings.{IsLawfulInOneList}
use Rattle.fx_model.proofs.StartLaws.{IsStartRight, run_starts}
use Rattle.fx_model.proofs.HeadlineLaws.{numbers_above}
use Rattle.fx_script_laws.specs.Interchange.{StopsThere, CanComeTo}
use Rattle.fx_script_laws.specs.InScripts.{HaveSameReports}
use Rattle.fx_script_laws.proofs.StartsFound.{all_shown, all_of_shown, events_shown}

-- labels that are seen rightly, where nobody requests the fiber
pub unseen_all : (r : ReportView) (f : ℕ) → is_requested_in r f ≡ false → (ls : List Label) → All (IsSeenRightly r f) ls → All IsUnrequested ls
unseen_all r f quiet [] h = All-nil IsUnrequested
unseen_all r f quiet (l ∷ ls) h =
    All-cons IsUnrequested l ls (one l (All-head (IsSeenRightly r f) l ls h))
    (unseen_all r f quiet ls (All-tail (IsSeenRightly r f) l ls h))
  where
    one : (l : Label) → IsSeenRightly r f l → IsUnrequested l
    one (Shows event.Seen) asked e = cc
    one _ asked e = cc

-- another first one
abbrev pub first_as : {A : Type 0} → A → (ℕ → A) → ℕ → A
first_as a g zero = a
first_as a g (suc n) = g (suc n)

-- fibers begin as before, but for the main one, which nobody starts
module _ (origin : ℕ → Origin) (first : Origin) where
  pub begins_as_new : (low : ℕ) → 1 ≤ low → (ls : List Label) → All (BeginsAs origin) ls → All (IsStartRight low) ls → All (BeginsAs (first_as first origin)) ls
  begins_as_new low some [] h right = All-nil (BeginsAs (first_as first origin))
  begins_as_new low some (l ∷ ls) h right =
      All-cons (BeginsAs (first_as first origin)) l ls (one l (All-head (BeginsAs origin) l ls h) (All-head (IsStartRight low) l ls right))
      (begins_as_new low some ls (All-tail (BeginsAs origin) l ls h) (All-tail (IsStartRight low) l ls right))
    where
      one : (l : Label) → BeginsAs origin l → IsStartRight low l → BeginsAs (first_as first origin) l
      one (Starts zero b) e right = absurd (let h = right.least in omega arith)
      one (Starts (suc g) b) e right = e
      one Silent e right = tt
      one (Shows v) e right = tt
      one (Learns g o v) e right = tt

module _ (s : ScriptView) (other : Term) (may : ℕ → Bool) (r : ReportView) (lawful : IsLawfulReport s may r) (needs : need s.term ≡ need other)
    (k : CanComeTo (StopsThere (final_outside s r) 0 (has_ended (lawful.runs.progress 0))) (first_counts (main_origin other)) (Runs other)
    (shown (lawful.runs.labels 0))) where
  abbrev s' : ScriptView
  s' = record { term = other; capacities = s.capacities }

  abbrev new_origin : ℕ → Origin
  new_origin = first_as (main_origin other) lawful.runs.origin

  abbrev new_labels : ℕ → List Label
  new_labels = first_as k.labels lawful.runs.labels

  -- what holds of main's labels, and of a silent one, holds of the new ones
  moved : (P : Label → Type 0) → P Silent → All P (lawful.runs.labels 0) → All P k.labels
  moved P silent h = all_of_shown P silent k.labels (subst (All P) (sym k.shown_is) (all_shown P (lawful.runs.labels 0) h))

  new_run : (f : ℕ) (x : FiberReportView) → fiber_in r f ≡ Some x
      → HasRun s' r f x (new_origin f) (new_labels f) (first_as k.counts lawful.runs.counts f) (first_as k.progress lawful.runs.progress f)
  new_run zero x at =
      let h = lawful.runs.run 0 x at in
      record {
        run = k.run;
        trace = sym (events_shown k.labels) ∙ ap events k.shown_is ∙ events_shown (lawful.runs.labels 0) ∙ h.trace;
        state = k.ends.1 ∙ h.state;
        unable = k.ends.0;
      }
  new_run (suc f) x at =
      let h = lawful.runs.run (suc f) x at in record { run = h.run; trace = h.trace; state = h.state; unable = h.unable }

  abbrev new_runs : HasRuns s' r
  new_runs =
      record {
        origin = new_origin;
        labels = new_labels;
        counts = first_as k.counts lawful.runs.counts;
        progress = first_as k.progress lawful.runs.progress;
        run = new_run;
      }

  new_begins : (f : ℕ) (x : FiberReportView) → fiber_in r f ≡ Some x → All (BeginsAs new_origin) (new_labels f)
  new_begins zero x at =
      begins_as_new lawful.runs.origin (main_origin other) 1 (omega arith) k.labels (moved (BeginsAs lawful.runs.origin) tt (lawful.origins.child 0 x at))
      (run_starts (main_origin other) k.labels k.counts k.progress k.run)
  new_begins (suc f) x at =
      let above = numbers_above s r lawful.starters lawful.runs lawful.origins (suc f) x at in
      begins_as_new lawful.runs.origin (main_origin other) (lawful.runs.origin (suc f)).next (omega arith)
      (lawful.runs.labels (suc f)) (lawful.origins.child (suc f) x at)
      (run_starts (lawful.runs.origin (suc f)) (lawful.runs.labels (suc f)) (lawful.runs.counts (suc f)) (lawful.runs.progress (suc f))
      (lawful.runs.run (suc f) x at).run)

  new_learnt : (f : ℕ) (x : FiberReportView) → fiber_in r f ≡ Some x → All (IsLearnt r) (new_labels f)
  new_learnt zero x at = moved (IsLearnt r) tt (lawful.learnt 0 x at)
  new_learnt (suc f) x at = lawful.learnt (suc f) x at

  new_seen : (f : ℕ) (x : FiberReportView) → fiber_in r f ≡ Some x → All (IsSeenRightly r f) (new_labels f)
  new_seen zero x at = moved (IsSeenRightly r 0) tt (lawful.seen 0 x at)
  new_seen (suc f) x at = lawful.seen (suc f) x at

  abbrev main_replaced : IsLawfulReport s' may r
  main_replaced =
      record {
        starters = lawful.starters;
        runs = new_runs;
        origins = record { main = refl; child = new_begins };
        left_by_queue = lawful.left_by_queue;
        histories = lawful.histories;
        learnt = new_learnt;
        seen = new_seen;
        outside_ascending = lawful.outside_ascending;
        outside_named = λ f h. let n = lawful.outside_named f h in (subst (λ (m : ℕ). f < 1 + m) needs n.0, n.1);
      }

  -- the labels that are shown are the same, so that causes still come first
  same_shown : (f : ℕ) → shown (new_labels f) ≡ shown (lawful.runs.labels f)
  same_shown zero = k.shown_is
  same_shown (suc f) = refl

  needs_kept : (f i g j : ℕ) → Needs (trace_in r) new_labels (LeavesQueue s may r lawful) f i g j
      → Needs (trace_in r) lawful.runs.labels (LeavesQueue s may r lawful) f i g j
  needs_kept f i g j (taken_element t) = taken_element t
  needs_kept f i g j (end_of_other t) =
      end_of_other (record {
        outcome = t.outcome;
        learning = t.learning;
        learns = ap (λ (ls : List Label). slice_get ls i) (sym (same_shown f)) ∙ t.learns;
        tells = t.tells;
        ended = t.ended;
      })
  needs_kept f i g j (start e h) = start e h

  abbrev causes_replaced : CausesComeFirst s may r lawful → CausesComeFirst s' may r main_replaced
  causes_replaced c =
      record {
        moment = c.moment;
        in_order = record {
          distinct = c.in_order.distinct;
          keeps = c.in_order.keeps;
          needed = λ f i g j h e n. c.in_order.needed f i g j h e (needs_kept f i g j n);
          requested = c.in_order.requested;
        };
      }

-- by each main run the other main fiber has one that shows the same and comes to the same end
abbrev pub MainsCome : Term → Term → List ℕ → (ℕ → Bool) → ReportView → Type 0
MainsCome t u capacities may r =
    (lawful : IsLawfulReport (record { term = t; capacities = capacities }) may r)
    → CanComeTo (StopsThere (final_outside (record { term = t; capacities = capacities }) r) 0 (has_ended (lawful.runs.progress 0)))
    (first_counts (main_origin u)) (Runs u) (shown (lawful.runs.labels 0))

module _ (t u : Term) (capacities : List ℕ) (may : ℕ → Bool) (r : ReportView) (needs : need t ≡ need u) (comes : MainsCome t u capacities may r) where
  abbrev one : ScriptView
  one = record { term = t; capacities = capacities }

  abbrev two : ScriptView
  two = record { term = u; capacities = capacities }

  report_moved : IsLawfulReport one may r → IsLawfulReport two may r
  report_moved lawful = main_replaced one u may r lawful needs (comes lawful)

  abbrev order_moved : IsLawfulInOneOrder one may r → IsLawfulInOneOrder two may r
  order_moved h =
      record {
        lawful = main_replaced one u may r h.lawful needs (comes h.lawful);
        causes = causes_replaced one u may r h.lawful needs (comes h.lawful) h.causes;
      }

  list_moved : IsLawfulInOneList one may r → IsLawfulInOneList two may r
  list_moved h = record { in_order = order_moved h.in_order; list = h.list; listed = h.listed }

pub have_same : (t u : Term) (capacities : List ℕ) (may : ℕ → Bool) (r : ReportView) → need t ≡ need u → MainsCome t u capacities may r
    → MainsCome u t capacities may r
    → HaveSameReports (record { term = t; capacities = capacities }) (record { term = u; capacities = capacities }) may r
have_same t u capacities may r needs to from =
    record {
      reports = (report_moved t u capacities may r needs to, report_moved u t capacities may r (sym needs) from);
      orders = (order_moved t u capacities may r needs to, order_moved u t capacities may r (sym needs) from);
      lists = (list_moved t u capacities may r needs to, list_moved u t capacities may r (sym needs) from);
    }
