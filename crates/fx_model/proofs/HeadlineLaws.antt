-- A lawful report has what is promised.
use Rattle.std.proofs.Common.{◌≡◌, ℕ, zero, suc, ◌<◌, Bool, true, Some, List, ◌++◌, All, refl, sym, ◌∙◌, ap, subst, arith, inl, inr}
use Rattle.std.proofs.lemmas.Bool.{eq-eqb, cases_eq}
use Rattle.std.proofs.lemmas.List.Elements.{All-contains}
use Rattle.fx_term.specs.declared.outcome.Outcome.{Outcome}
use Rattle.fx_term.specs.Forms.{IsCore}
use Rattle.fx_model.specs.Row.{Counts, Label, Starts}
use Rattle.fx_model.specs.Origin.{Origin, main_origin}
use Rattle.fx_model.specs.Step.{Progress, Runs, Unwinds, CleansUp, HasEnded, has_ended}
use Rattle.fx_model.specs.Run.{first_counts, IsRun, events}
use Rattle.fx_model.specs.Outside.{outcome_at}
use Rattle.fx_model.proofs.BalancedRuns.{ended_run_is_balanced}
use Rattle.fx_model.proofs.CancelledSteps.{cancels_where_opened}
use Rattle.fx_term.specs.Element.{Element}
use Rattle.fx_term.specs.Script.{ScriptView}
use Rattle.fx_term.specs.Queue.{items_of, items_taken, accepted_offers}
use Rattle.fx_model.specs.Report.{FiberReportView, ReportView, fiber_in, parent_in, trace_in, capacity_of}
use Rattle.fx_model.specs.LawfulReport.{starts_of, HasStarters, BeginsAs, HasRuns, HasOrigins, HasHistory, IsLawfulReport}
use Rattle.fx_model.specs.Headline.{EachOfferOnce, EndsBalanced, HoldsWhatIsPromised}
use Rattle.fx_term.proofs.QueueLaws.{takes_then_rest}
use Rattle.fx_model.proofs.OutcomeLaws.{run_stops}
use Rattle.fx_model.proofs.StartLaws.{StartsRightly, IsStartRight, run_starts, StartsSo, run_starts_core, HasStart, start_of_trace}

module _ (s : ScriptView) (r : ReportView) (starters : HasStarters r) (runs : HasRuns s r) (origins : HasOrigins s r runs) where
  -- the parent's trace starts the fiber once
  pub started_once : (f p : ℕ) (x y : FiberReportView) → fiber_in r f ≡ Some x → x.parent ≡ Some p → fiber_in r p ≡ Some y → starts_of f y.trace ≡ 1
  started_once f p x y at parent at_p =
      let named : parent_in r f ≡ Some p = rw at parent in
      starters.once p y at_p f ∙ (rw named (rw (eq-eqb p p refl) refl))

  -- the start of a fiber in its parent's run
  pub start_told : (f p : ℕ) (x y : FiberReportView) → fiber_in r f ≡ Some x → x.parent ≡ Some p → fiber_in r p ≡ Some y → HasStart (runs.labels p) f
  start_told f p x y at parent at_p =
      let all = run_starts (runs.origin p) (runs.labels p) (runs.counts p) (runs.progress p) (runs.run p y at_p).run in
      start_of_trace (runs.origin p).next (runs.labels p) f 0 all (ap (starts_of f) (runs.run p y at_p).trace ∙ started_once f p x y at parent at_p)

  -- it says what the fiber begins with
  pub begin_told : (f p : ℕ) (y : FiberReportView) → fiber_in r p ≡ Some y → (h : HasStart (runs.labels p) f) → runs.origin f ≡ h.origin
  begin_told f p y at_p h = All-contains (BeginsAs runs.origin) (runs.labels p) (Starts f h.origin) (origins.child p y at_p) h.holds

  -- what a fiber begins with, by its parent
  pub child_begins : (f p : ℕ) (x y : FiberReportView) → fiber_in r f ≡ Some x → x.parent ≡ Some p → fiber_in r p ≡ Some y
      → StartsRightly (runs.origin p).next f (runs.origin f)
  child_begins f p x y at parent at_p =
      let h = start_told f p x y at parent at_p in
      let all = run_starts (runs.origin p) (runs.labels p) (runs.counts p) (runs.progress p) (runs.run p y at_p).run in
      let right : StartsRightly (runs.origin p).next f h.origin =
      All-contains (IsStartRight (runs.origin p).next) (runs.labels p) (Starts f h.origin) all h.holds in
      subst (λ (b : Origin). StartsRightly (runs.origin p).next f b) (sym (begin_told f p y at_p h)) right

  -- a fiber has numbers above its own
  pub numbers_above : (f : ℕ) (x : FiberReportView) → fiber_in r f ≡ Some x → f < (runs.origin f).next
  numbers_above f x at = elim (cases_eq f 0) [
    | inl e ↦ subst (λ (n : ℕ). n < (runs.origin n).next) (sym e) (rw origins.main (omega arith))
    | inr ne ↦ (let h = starters.others f x at ne in let c = child_begins f h.0 x h.1 at h.2 h.3 in let e = c.next in omega arith)
  ]

  -- what is so of the main fiber, and of each fiber whose starter it is so of, is so of each fiber of the report
  module _ (IsSo : ℕ → Type 0) (main : IsSo 0)
      (child : (p : ℕ) (y : FiberReportView) → fiber_in r p ≡ Some y → IsSo p → (f : ℕ) → HasStart (runs.labels p) f → IsSo f) where
    so_below : (n f : ℕ) → f < n → (x : FiberReportView) → fiber_in r f ≡ Some x → IsSo f
    so_below zero f lt x at = absurd (omega arith)
    so_below (suc n) f lt x at = elim (cases_eq f 0) [
      | inl e ↦ subst IsSo (sym e) main
      | inr ne ↦
          (let h = starters.others f x at ne in
          let above = numbers_above h.0 h.1 h.3 in
          let least = (child_begins f h.0 x h.1 at h.2 h.3).least in
          child h.0 h.1 h.3 (so_below n h.0 (omega arith) h.1 h.3) f (start_told f h.0 x h.1 at h.2 h.3))
    ]

    pub each_so : (f : ℕ) (x : FiberReportView) → fiber_in r f ≡ Some x → IsSo f
    each_so f x at = so_below (suc f) f (omega arith) x at

  -- what is so of the main fiber's beginning, and of what a fiber starts where it is so of its own, is so of each fiber's
  pub each_begins_so : (IsSo : Origin → Type 0)
      → ((b : Origin) (ls : List Label) (c : Counts) (p : Progress) → IsSo b → IsRun b ls c p → All (StartsSo IsSo) ls)
      → IsSo (main_origin s.term) → (f : ℕ) (x : FiberReportView) → fiber_in r f ≡ Some x → IsSo (runs.origin f)
  each_begins_so IsSo starts_so so f x at = each_so (λ g. IsSo (runs.origin g)) (subst IsSo (sym origins.main) so) begins f x at
    where
      begins : (p : ℕ) (y : FiberReportView) → fiber_in r p ≡ Some y → IsSo (runs.origin p) → (g : ℕ) → HasStart (runs.labels p) g → IsSo (runs.origin g)
      begins p y at_p p_so g h =
          let all = starts_so (runs.origin p) (runs.labels p) (runs.counts p) (runs.progress p) p_so (runs.run p y at_p).run in
          subst IsSo (sym (begin_told g p y at_p h)) (All-contains (StartsSo IsSo) (runs.labels p) (Starts g h.origin) all h.holds)

  -- each fiber begins at a core term, where the script's term is core
  pub begins_at_core : IsCore s.term → (f : ℕ) (x : FiberReportView) → fiber_in r f ≡ Some x → IsCore (runs.origin f).term
  begins_at_core core f x at = each_begins_so (λ b. IsCore b.term) run_starts_core core f x at

-- a fiber that has ended has done so with some outcome
ended_with : (p : Progress) → has_ended p ≡ true → (o : Outcome) × (p ≡ HasEnded o)
ended_with (HasEnded o) e = (o, refl)
ended_with (Runs t) e = absurd cc
ended_with (Unwinds rest) e = absurd cc
ended_with (CleansUp k t rest) e = absurd cc

-- the trace of a fiber that has ended
trace_ends : (b : Origin) (ls : List Label) (c : Counts) (p : Progress) → IsCore b.term → IsRun b ls c p → has_ended p ≡ true → EndsBalanced (events ls)
trace_ends b ls c p core run ended =
    let o = ended_with p ended in
    record {
      outcome = o.0;
      stops = run_stops b ls c p o.0 run (ap outcome_at o.1);
      balanced = ended_run_is_balanced b ls c o.0 core (subst (λ (q : Progress). IsRun b ls c q) o.1 run);
    }

-- the offers on a queue that has such a history
offers_told : (r : ReportView) (q capacity : ℕ) → HasHistory r q capacity → EachOfferOnce r q capacity
offers_told r q capacity h = record {
  history = h.history;
  last = h.leaves.last;
  legal = h.leaves.legal;
  rest_is = h.leaves.rest_is;
  orders = h.cuts;
  offers = λ f.
      subst (λ (left : List Element). items_of f (items_taken h.leaves.last ++ left) ≡ accepted_offers q f (trace_in r f)) h.leaves.rest_is
      (takes_then_rest capacity q f h.history h.leaves.last (trace_in r f) h.leaves.legal (h.cuts f));
}

module _ (s : ScriptView) (may : ℕ → Bool) (r : ReportView) (core : IsCore s.term) (lawful : IsLawfulReport s may r) where
  -- a fiber that has ended, whatever the others do
  ended_fiber_holds : (f : ℕ) (x : FiberReportView) → fiber_in r f ≡ Some x → x.has_ended ≡ true → EndsBalanced x.trace
  ended_fiber_holds f x at ended =
      let runs = lawful.runs in
      let h = runs.run f x at in
      let b_core = begins_at_core s r lawful.starters runs lawful.origins core f x at in
      subst EndsBalanced h.trace (trace_ends (runs.origin f) (runs.labels f) (runs.counts f) (runs.progress f) b_core h.run (h.state ∙ ended))

  pub lawful_report_holds : HoldsWhatIsPromised s r lawful.runs
  lawful_report_holds =
      let runs = lawful.runs in
      record {
        queues = λ q. offers_told r q (capacity_of s q) (lawful.histories q);
        ends = ended_fiber_holds;
        opened = λ f x at.
            let b = runs.origin f in
            cancels_where_opened (first_counts b) (Runs b.term) (runs.labels f) (runs.counts f) (runs.progress f) (runs.run f x at).run;
      }
