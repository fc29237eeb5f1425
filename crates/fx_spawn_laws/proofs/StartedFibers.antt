-- The main fiber of a lawful report, and a fiber that it started.
use Rattle.std.proofs.Common.{◌≡◌, ℕ, suc, Bool, true, false, Option, Some, None, List, [], refl, sym, ◌∙◌, ap, subst, arith}
use Rattle.std.specs.Prelude.{if◌then◌else◌, Contains, nat_lt}
use Rattle.std.specs.List.{list_any}
use Rattle.std.proofs.lemmas.Bool.{or_left}
use Rattle.fx_term.specs.declared.outcome.Outcome.{Outcome}
use Rattle.fx_term.specs.declared.outcome.Outcome.TheVariants as outcome
use Rattle.fx_term.specs.Term.{Term, Canceled, Never}
use Rattle.fx_term.specs.Script.{ScriptView}
use Rattle.fx_model.specs.Row.{Counts, Label, Starts}
use Rattle.fx_model.specs.Origin.{Origin, main_origin}
use Rattle.fx_model.specs.Step.{Progress, Runs, HasEnded, has_ended}
use Rattle.fx_model.specs.Run.{first_counts, Leads, events}
use Rattle.fx_model.specs.Outside.{outcome_at, can_step}
use Rattle.fx_model.specs.Report.{FiberReportView, ReportView, fiber_in, parent_in, parent_of_report, trace_of_report, trace_in, outcome_shown, is_requested_in}
use Rattle.fx_model.specs.Report.{is_request_for, final_outside}
use Rattle.fx_model.specs.LawfulReport.{starts_of, is_parent, IsLawfulReport}
use Rattle.fx_model.specs.Scopes.{IsScopedOver}
use Rattle.fx_model.proofs.OutcomeLaws.{run_outcome, run_stops}
use Rattle.fx_model.proofs.StartLaws.{HasStart}
use Rattle.fx_model.proofs.HeadlineLaws.{begin_told}
use Rattle.fx_report.proofs.Keys.{found_passes}
use Rattle.fx_spawn_laws.specs.MainFiber.{FiberEnds, MainEnds, MainIsBlocked}
use Rattle.fx_spawn_laws.proofs.Requests.{main_is_unrequested}
use Rattle.fx_spawn_laws.proofs.HaltingRuns.{RunsToHalt, runs_to_halt}
use Rattle.fx_spawn_laws.proofs.Outcomes.{ComesTo}
use Rattle.fx_spawn_laws.proofs.CanceledChildren.{canceled_ends, requested_ends}

ended_so : (p : Progress) (o : Outcome) → outcome_at p ≡ Some o → has_ended p ≡ true
ended_so (HasEnded v) o e = refl
ended_so _ o e = absurd cc

not_ended : (p : Progress) → outcome_at p ≡ None → has_ended p ≡ false
not_ended (HasEnded v) e = absurd cc
not_ended _ e = refl

module _ (s : ScriptView) (may : ℕ → Bool) (r : ReportView) (lawful : IsLawfulReport s may r) where
  abbrev labels_of : ℕ → List Label
  labels_of f = lawful.runs.labels f

  pub shown_at : (f : ℕ) (x : FiberReportView) → fiber_in r f ≡ Some x → outcome_shown (events (labels_of f)) ≡ outcome_at (lawful.runs.progress f)
  shown_at f x at = run_outcome (lawful.runs.origin f) (labels_of f) (lawful.runs.counts f) (lawful.runs.progress f) (lawful.runs.run f x at).run

  -- the outcome that the trace of a fiber tells is that of its labels
  pub told_by_labels : (f : ℕ) (x : FiberReportView) → fiber_in r f ≡ Some x → outcome_shown (trace_in r f) ≡ outcome_shown (events (labels_of f))
  told_by_labels f x at = ap outcome_shown (ap trace_of_report at ∙ sym (lawful.runs.run f x at).trace)

  pub fiber_ends : (f : ℕ) (x : FiberReportView) → fiber_in r f ≡ Some x → (o : Outcome) → outcome_shown (trace_in r f) ≡ Some o → FiberEnds r f o
  fiber_ends f x at o told =
      let run = lawful.runs.run f x at in
      let here = sym (shown_at f x at) ∙ sym (told_by_labels f x at) ∙ told in
      let stops = run_stops (lawful.runs.origin f) (labels_of f) (lawful.runs.counts f) (lawful.runs.progress f) o run.run here in
      record {
        fiber = x;
        is_fiber = at;
        has_ended = sym run.state ∙ ended_so (lawful.runs.progress f) o here;
        ends = record { before = stops.ends.before; is = sym run.trace ∙ stops.ends.is };
      }

  pub main_ends : (o : Outcome) → outcome_shown (events (labels_of 0)) ≡ Some o → MainEnds r o
  main_ends o shown =
      let main = lawful.starters.main in
      let run = lawful.runs.run 0 main.0 main.1 in
      let at = sym (shown_at 0 main.0 main.1) ∙ shown in
      let stops = run_stops (lawful.runs.origin 0) (labels_of 0) (lawful.runs.counts 0) (lawful.runs.progress 0) o run.run at in
      record {
        fiber = main.0;
        is_main = main.1;
        has_ended = sym run.state ∙ ended_so (lawful.runs.progress 0) o at;
        ends = record { before = stops.ends.before; is = sym run.trace ∙ stops.ends.is };
      }

  pub main_is_blocked : outcome_shown (events (labels_of 0)) ≡ None → MainIsBlocked r
  main_is_blocked shown =
      let main = lawful.starters.main in
      record {
        fiber = main.0;
        is_main = main.1;
        is_blocked = sym (lawful.runs.run 0 main.0 main.1).state ∙ not_ended (lawful.runs.progress 0) (sym (shown_at 0 main.0 main.1) ∙ shown);
      }

  -- a fiber that the main one starts is in the report, and begins as that says
  pub child_in_report : (f n : ℕ) → starts_of f (events (labels_of 0)) ≡ suc n → (x : FiberReportView) × (fiber_in r f ≡ Some x)
  child_in_report f n starts = by_fiber (fiber_in r f) refl
    where
      once : starts_of f (events (labels_of 0)) ≡ (if is_parent (parent_in r f) 0 then 1 else 0)
      once =
          let main = lawful.starters.main in
          ap (starts_of f) (lawful.runs.run 0 main.0 main.1).trace ∙ lawful.starters.once 0 main.0 main.1 f

      by_fiber : (o : Option FiberReportView) → fiber_in r f ≡ o → (x : FiberReportView) × (fiber_in r f ≡ Some x)
      by_fiber None is =
          absurd (let e = sym starts ∙ once ∙ ap (λ (v : Option FiberReportView). if is_parent (parent_of_report v) 0 then 1 else 0) is in omega (arith, e))
      by_fiber (Some x) is = (x, is)

  pub child_begins : (f : ℕ) (h : HasStart (labels_of 0) f) → lawful.runs.origin f ≡ h.origin
  child_begins f h =
      let main = lawful.starters.main in begin_told s r lawful.starters lawful.runs lawful.origins f 0 main.0 main.1 h

  -- the run of a fiber that begins so and is not requested
  pub runs_from : (f : ℕ) (x : FiberReportView) → fiber_in r f ≡ Some x → (b : Origin) → lawful.runs.origin f ≡ b → is_requested_in r f ≡ false
      → RunsToHalt s r f (first_counts b) (Runs b.term) (labels_of f)
  runs_from f x at b begins none =
      subst (λ (a : Origin). RunsToHalt s r f (first_counts a) (Runs a.term) (labels_of f)) begins (runs_to_halt s may r lawful f x at none)

  -- what its trace tells
  pub tells : (f : ℕ) (x : FiberReportView) → fiber_in r f ≡ Some x → (b : Origin) → lawful.runs.origin f ≡ b → is_requested_in r f ≡ false
      → (v : Option Outcome) → ComesTo s r f (first_counts b) (Runs b.term) v → outcome_shown (trace_in r f) ≡ v
  tells f x at b begins none v comes = told_by_labels f x at ∙ comes (labels_of f) (runs_from f x at b begins none)

  -- the run of the main fiber of this script, which nobody requested
  pub main_runs : r.outside ≡ [] → (t : Term) → s.term ≡ t → IsScopedOver (nat_lt 0) t
      → RunsToHalt s r 0 (first_counts (main_origin t)) (Runs t) (labels_of 0)
  main_runs alone t is scoped =
      let main = lawful.starters.main in
      runs_from 0 main.0 main.1 (main_origin t) (lawful.origins.main ∙ ap main_origin is)
      (main_is_unrequested s may r lawful alone (subst (IsScopedOver (nat_lt 0)) (sym is) scoped))

  -- what the trace of a fiber tells that comes to this outcome however it runs
  pub tells_always : (f : ℕ) (x : FiberReportView) → fiber_in r f ≡ Some x → (b : Origin) → lawful.runs.origin f ≡ b → (o : Outcome)
      → ((d : Counts) (q : Progress) (ls : List Label) → Leads (first_counts b) (Runs b.term) ls d q → can_step (final_outside s r) f d q ≡ false
      → outcome_at q ≡ Some o)
      → outcome_shown (trace_in r f) ≡ Some o
  tells_always f x at b begins o always =
      let run = lawful.runs.run f x at in
      told_by_labels f x at ∙ shown_at f x at
      ∙ always (lawful.runs.counts f) (lawful.runs.progress f) (labels_of f)
      (subst (λ (a : Origin). Leads (first_counts a) (Runs a.term) (labels_of f) (lawful.runs.counts f) (lawful.runs.progress f)) begins run.run) run.unable

  -- a fiber that the main one requests is requested
  pub requested_by_main : (g : ℕ) → list_any (is_request_for g) (events (labels_of 0)) ≡ true → is_requested_in r g ≡ true
  requested_by_main g asks =
      let main = lawful.starters.main in
      or_left _ _ (found_passes (λ (x : FiberReportView). x.id) 0 (λ (x : FiberReportView). list_any (is_request_for g) x.trace) r.fibers main.0 main.1
      (sym (ap (list_any (is_request_for g)) (lawful.runs.run 0 main.0 main.1).trace) ∙ asks))

  -- a child at `never` that the main fiber requests, and one at `canceled`, end as canceled
  pub requested_never_ends : (f n : ℕ) → starts_of f (events (labels_of 0)) ≡ suc n → (b : Origin) → b.term ≡ Never → Contains (labels_of 0) (Starts f b)
      → list_any (is_request_for f) (events (labels_of 0)) ≡ true → outcome_shown (trace_in r f) ≡ Some outcome.Canceled
  requested_never_ends f n starts b is holds asks =
      let child = child_in_report f n starts in
      tells_always f child.0 child.1 b (child_begins f (record { origin = b; holds = holds })) outcome.Canceled
      (λ d q ls leads unable. requested_ends (final_outside s r) f (requested_by_main f asks) b d q ls
      (subst (λ (t : Term). Leads (first_counts b) (Runs t) ls d q) is leads) unable)

  pub canceled_child_ends : (f n : ℕ) → starts_of f (events (labels_of 0)) ≡ suc n → (b : Origin) → b.term ≡ Canceled
      → Contains (labels_of 0) (Starts f b) → outcome_shown (trace_in r f) ≡ Some outcome.Canceled
  canceled_child_ends f n starts b is holds =
      let child = child_in_report f n starts in
      tells_always f child.0 child.1 b (child_begins f (record { origin = b; holds = holds })) outcome.Canceled
      (λ d q ls leads unable. canceled_ends (final_outside s r) f b d q ls
      (subst (λ (t : Term). Leads (first_counts b) (Runs t) ls d q) is leads) unable)
