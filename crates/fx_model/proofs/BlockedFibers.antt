-- A fiber that has not ended, and cannot step, stands at a leaf that waits.
use Rattle.std.proofs.Common.{◌≡◌, ℕ, Bool, true, false, Option, Some, None, All, List, refl, sym, ◌∙◌}
use Rattle.std.specs.Prelude.{◌&&◌, ◌||◌, option_and_then}
use Rattle.std.proofs.lemmas.List.Elements.{All-weaker}
use Rattle.fx_term.specs.Script.{ScriptView}
use Rattle.fx_model.specs.Path.{leaf, is_open, must_cancel}
use Rattle.fx_model.specs.Row.{Counts, Label, Starts}
use Rattle.fx_model.specs.Origin.{Origin}
use Rattle.fx_model.specs.Step.{Progress, Runs, Unwinds, CleansUp, HasEnded, has_ended, leaf_at}
use Rattle.fx_model.specs.Run.{IsRun}
use Rattle.fx_model.specs.Outside.{Outside, leaf_can_step, can_step}
use Rattle.fx_model.specs.declared.source.Source.{Source}
use Rattle.fx_model.specs.Waiting.{wait_at}
use Rattle.fx_model.specs.Scopes.{IsScopedOver, IsProgressScopedOver, StartsScopedOver}
use Rattle.fx_model.specs.Report.{FiberReportView, ReportView, fiber_in, final_outside}
use Rattle.fx_model.specs.LawfulReport.{IsLawfulReport}
use Rattle.fx_model.proofs.StartLaws.{StartsSo}
use Rattle.fx_model.proofs.HeadlineLaws.{each_begins_so}
use Rattle.fx_model.proofs.ScopedRuns.{leaf_at_over, run_stays_scoped, run_starts_scoped}
use Rattle.fx_model.proofs.WaitingLaws.{leaf_goes_on}

-- what the leaf of a fiber waits for, if it is one that can wait
abbrev pub source_at : Progress → Option Source
source_at p = option_and_then wait_at (leaf_at p)

-- a fiber has ended, and waits for nothing; or it waits, and has not ended
pub data HasEndedOrWaits (source : Option Source) (ended : Bool) : Type 0 where
  ends : source ≡ None → ended ≡ true → HasEndedOrWaits source ended
  waits_for : (w : Source) → source ≡ Some w → ended ≡ false → HasEndedOrWaits source ended

pub ended_waits_not : (p : Progress) → has_ended p ≡ true → HasEndedOrWaits (source_at p) (has_ended p)
ended_waits_not (HasEnded o) e = ends refl refl
ended_waits_not (Runs t) e = absurd cc
ended_waits_not (Unwinds rest) e = absurd cc
ended_waits_not (CleansUp k t rest) e = absurd cc

-- no number of a fiber is one that was not given
abbrev any : ℕ → Bool
any f = true

still_goes : (m asked goes : Bool) → true ≡ goes → (m || asked || goes) ≡ true
still_goes true asked goes e = refl
still_goes false true goes e = refl
still_goes false false goes e = sym e

stands : (o : Outside) (f : ℕ) (c : Counts) (p : Progress) → IsProgressScopedOver any p → can_step o f c p ≡ false
    → HasEndedOrWaits (source_at p) (has_ended p)
stands o f c (HasEnded x) h e = ends refl refl
stands o f c (Unwinds rest) h e = absurd cc
stands o f c (Runs t) h e = by_leaf (wait_at (leaf t)) refl
  where
    by_leaf : (w : Option Source) → wait_at (leaf t) ≡ w → HasEndedOrWaits (wait_at (leaf t)) false
    by_leaf (Some w) is = waits_for w is refl
    by_leaf None is =
        let goes : true ≡ leaf_can_step o (leaf t) = leaf_goes_on o (leaf t) (leaf_at_over any (Runs t) (leaf t) refl h).0 is in
        let steps : can_step o f c (Runs t) ≡ true =
        still_goes (must_cancel c.known t) (is_open t && o.is_requested f) (leaf_can_step o (leaf t)) goes in
        absurd (let no : true ≡ false = sym steps ∙ e in cc)
stands o f c (CleansUp k t rest) h e = by_leaf (wait_at (leaf t)) refl
  where
    by_leaf : (w : Option Source) → wait_at (leaf t) ≡ w → HasEndedOrWaits (wait_at (leaf t)) false
    by_leaf (Some w) is = waits_for w is refl
    by_leaf None is =
        let goes : true ≡ leaf_can_step o (leaf t) = leaf_goes_on o (leaf t) (leaf_at_over any (CleansUp k t rest) (leaf t) refl h).0 is in
        absurd (let no : true ≡ false = goes ∙ e in cc)

starts_so : (l : Label) → StartsScopedOver any l → StartsSo (λ b. IsScopedOver any b.term) l
starts_so (Starts f b) h = h
starts_so _ h = tt

runs_start_so : (b : Origin) (ls : List Label) (c : Counts) (p : Progress) → IsScopedOver any b.term → IsRun b ls c p
    → All (StartsSo (λ b. IsScopedOver any b.term)) ls
runs_start_so b ls c p h run =
    All-weaker (StartsScopedOver any) (StartsSo (λ b. IsScopedOver any b.term)) starts_so ls (run_starts_scoped any b ls c p h (λ f low high. refl) run)

-- so each fiber of a lawful report has ended or waits, where the script's term binds each name that it uses
module _ (s : ScriptView) (may : ℕ → Bool) (r : ReportView) (scoped : IsScopedOver (λ f. true) s.term) (lawful : IsLawfulReport s may r) where
  begins_scoped : (f : ℕ) (x : FiberReportView) → fiber_in r f ≡ Some x → IsScopedOver any (lawful.runs.origin f).term
  begins_scoped = each_begins_so s r lawful.starters lawful.runs lawful.origins (λ (b : Origin). IsScopedOver any b.term) runs_start_so scoped

  pub has_ended_or_waits : (f : ℕ) (x : FiberReportView) → fiber_in r f ≡ Some x
      → HasEndedOrWaits (source_at (lawful.runs.progress f)) (has_ended (lawful.runs.progress f))
  has_ended_or_waits f x at =
      let runs = lawful.runs in
      let own = runs.run f x at in
      stands (final_outside s r) f (runs.counts f) (runs.progress f)
      (run_stays_scoped any (runs.origin f) (runs.labels f) (runs.counts f) (runs.progress f) (begins_scoped f x at) (λ g low high. refl) own.run)
      own.unable
