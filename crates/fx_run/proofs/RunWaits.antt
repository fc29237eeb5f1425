-- What the blocked fibers of a run that has ended wait for, and where they stand, is told rightly.
use Rattle.std.proofs.Common.{◌≡◌, ℕ, ◌+◌, ◌<◌, Bool, true, Option, Some, None, List, [], ◌∷◌, ◌++◌, length, map, take, All, refl, sym, ◌∙◌, ap, subst}
use Rattle.std.specs.Prelude.{MatchOption, option_map, slice_index_or}
use Rattle.std.specs.List.{cons_option}
use Rattle.std.proofs.lemmas.List.{take_more}
use Rattle.std.proofs.lemmas.List.Elements.{All-nil, All-cons, All-head, All-tail, All-contains, filter_map-append}
use Rattle.fx_term.specs.declared.node.Node.{Node}
use Rattle.fx_term.specs.QueuesNamed.{NamesQueuesBelow}
use Rattle.fx_term.specs.Script.{ScriptView}
use Rattle.fx_model.specs.Origin.{Origin}
use Rattle.fx_model.specs.declared.source.Source.{Source}
use Rattle.fx_model.specs.Step.{Progress, has_ended, leaf_at}
use Rattle.fx_model.specs.Scopes.{IsScopedOver}
use Rattle.fx_model.specs.Report.{FiberReportView, ReportView, fiber_in}
use Rattle.fx_model.specs.LawfulReport.{IsLawfulReport}
use Rattle.fx_model.proofs.HeadlineLaws.{each_begins_so}
use Rattle.fx_model.proofs.QueueNames.{ProgressNamesBelow, run_starts_named, run_stays_named}
use Rattle.fx_model.proofs.BlockedFibers.{source_at, HasEndedOrWaits, has_ended_or_waits}
use Rattle.fx_fiber.specs.Bare.{BareView, reached}
use Rattle.fx_fiber.specs.NodePlaces.{IsPlaceOf, HasNoNode}
use Rattle.fx_fiber.proofs.NodePlaces.{with_some_numbers}
use Rattle.fx_report.specs.declared.blocked.Blocked.{Blocked}
use Rattle.fx_report.specs.declared.wait.Wait.{Wait}
use Rattle.fx_report.specs.Waits.{WaitsAtQueueBelow}
use Rattle.fx_report.proofs.BlockedFibers.{fibers_of, blocked_of, wait_from, one_blocked, source_named}
use Rattle.fx_report.proofs.Keys.{all_found}
use Rattle.fx_run.specs.RanFiber.{RanFiber, bares_of}
use Rattle.fx_run.specs.Reported.{bare_at, report_of_bare}
use Rattle.fx_run.specs.EndOfRun.{EndsWithReport}
use Rattle.fx_run.specs.RunWaits.{AreWaitsAt, StandsAt, StandsAmong, wait_of, all_waits}
use Rattle.fx_run.proofs.GivenFibers.{report_in, of_bare, id_at}
use Rattle.fx_run.proofs.EndedRun.{end_report, end_is_lawful, end_progress}

-- what a fiber more waits for
pub one_more : (bares : List BareView) (k : ℕ) (x : BareView) → k < length bares → x ≡ slice_index_or bares k x
    → all_waits (take (k + 1) bares) ≡ all_waits (take k bares) ++ cons_option (wait_of x) []
one_more bares k x lt e =
    ap all_waits (take_more bares k x lt) ∙ filter_map-append wait_of (take k bares) (slice_index_or bares k x ∷ [])
    ∙ ap (λ (y : BareView). all_waits (take k bares) ++ cons_option (wait_of y) []) (sym e)

abbrev Stands : BareView → Type 0
Stands x = HasEndedOrWaits (source_at (reached x)) (has_ended (reached x))

-- those that are listed are those that the report has as blocked
blocked_are : (all bares : List BareView) → All Stands bares → fibers_of (all_waits bares) ≡ blocked_of (map (report_of_bare all) bares)
blocked_are all [] h = refl
blocked_are all (x ∷ bares) h =
    one_blocked x.id (report_of_bare all x) (source_at (reached x)) (all_waits bares) (map (report_of_bare all) bares) refl (All-head Stands x bares h)
    (blocked_are all bares (All-tail Stands x bares h))

-- at queues that their leaves name
module _ (n : ℕ) where
  one_named : (f : ℕ) (p : Progress) (source : Option Source) (waits : List Wait) → ProgressNamesBelow n p → source_at p ≡ source
      → All (WaitsAtQueueBelow n) waits → All (WaitsAtQueueBelow n) (cons_option (option_map (wait_from f) source) waits)
  one_named f p None waits named e all = all
  one_named f p (Some w) waits named e all = All-cons (WaitsAtQueueBelow n) (wait_from f w) waits (source_named n p w named e) all

  waits_named : (bares : List BareView) → All (λ x. ProgressNamesBelow n (reached x)) bares → All (WaitsAtQueueBelow n) (all_waits bares)
  waits_named [] h = All-nil (WaitsAtQueueBelow n)
  waits_named (x ∷ bares) h =
      one_named x.id (reached x) (source_at (reached x)) (all_waits bares) (All-head (λ x. ProgressNamesBelow n (reached x)) x bares h) refl
      (waits_named bares (All-tail (λ x. ProgressNamesBelow n (reached x)) x bares h))

module _ (progress : ℕ → Progress) where
  abbrev IsAt : BareView → Type 0
  IsAt x = progress x.id ≡ reached x

  abbrev IsSourceAt : Wait → Type 0
  IsSourceAt w = source_at (progress w.fiber) ≡ Some w.source

  one_source : (f : ℕ) (source : Option Source) (waits : List Wait) → source_at (progress f) ≡ source → All IsSourceAt waits
      → All IsSourceAt (cons_option (option_map (wait_from f) source) waits)
  one_source f None waits e all = all
  one_source f (Some w) waits e all = All-cons IsSourceAt (wait_from f w) waits e all

  -- each with what its leaf waits for
  sources_are : (bares : List BareView) → All IsAt bares → All IsSourceAt (all_waits bares)
  sources_are [] h = All-nil IsSourceAt
  sources_are (x ∷ bares) h =
      one_source x.id (source_at (reached x)) (all_waits bares) (ap source_at (All-head IsAt x bares h))
      (sources_are bares (All-tail IsAt x bares h))

module _ (s : ScriptView) (may : ℕ → Bool) (answer : ReportView) (h : EndsWithReport s may answer) (scoped : IsScopedOver (λ f. true) s.term) where
  abbrev ps : List RanFiber
  ps = h.fibers

  abbrev told : ReportView
  told = end_report s may answer h

  abbrev lawful : IsLawfulReport s may told
  lawful = end_is_lawful s may answer h

  abbrev reached_by : ℕ → Progress
  reached_by = lawful.runs.progress

  is_at : (f : ℕ) (b : BareView) → bare_at (bares_of ps) f ≡ Some b → IsAt reached_by b
  is_at f b at =
      let o = of_bare ps f b at in
      let number : b.id ≡ f = ap (λ (x : BareView). x.id) o.is ∙ id_at ps f o.fiber o.at in
      ap reached_by number ∙ end_progress s may answer h f o.fiber o.at ∙ ap reached (sym o.is)

  stands : (f : ℕ) (b : BareView) → bare_at (bares_of ps) f ≡ Some b → Stands b
  stands f b at =
      let o = of_bare ps f b at in
      let there = has_ended_or_waits s may told scoped lawful f _ (report_in ps h.left h.outside h.late f o.fiber o.at) in
      subst (λ (q : Progress). HasEndedOrWaits (source_at q) (has_ended q)) (end_progress s may answer h f o.fiber o.at ∙ ap reached (sym o.is)) there

  -- what they wait for is at queues that the script's term names
  module _ (n : ℕ) (named : NamesQueuesBelow n s.term) where
    begins_named : (f : ℕ) (x : FiberReportView) → fiber_in told f ≡ Some x → NamesQueuesBelow n (lawful.runs.origin f).term
    begins_named = each_begins_so s told lawful.starters lawful.runs lawful.origins (λ (b : Origin). NamesQueuesBelow n b.term) (run_starts_named n) named

    is_named : (f : ℕ) (b : BareView) → bare_at (bares_of ps) f ≡ Some b → ProgressNamesBelow n (reached b)
    is_named f b at =
        let o = of_bare ps f b at in
        let there = report_in ps h.left h.outside h.late f o.fiber o.at in
        let runs = lawful.runs in
        let run = (runs.run f _ there).run in
        subst (ProgressNamesBelow n) (end_progress s may answer h f o.fiber o.at ∙ ap reached (sym o.is))
        (run_stays_named n (runs.origin f) (runs.labels f) (runs.counts f) (runs.progress f) (begins_named f _ there) run)

    pub end_waits_named : (waits : List Wait) → waits ≡ all_waits (bares_of ps) → All (WaitsAtQueueBelow n) waits
    end_waits_named waits e =
        let key : BareView → ℕ = λ x. x.id in
        rw e (waits_named n (bares_of ps) (all_found key (λ x. ProgressNamesBelow n (reached x)) (bares_of ps) h.ascending is_named))

  -- each is where its run has come to
  all_at : All (IsAt reached_by) (bares_of ps)
  all_at = all_found (λ (x : BareView). x.id) (IsAt reached_by) (bares_of ps) h.ascending is_at

  pub end_waits : AreWaitsAt reached_by told (all_waits (bares_of ps))
  end_waits = record {
    blocked = blocked_are (bares_of ps) (bares_of ps) (all_found (λ (x : BareView). x.id) Stands (bares_of ps) h.ascending stands);
    sources = sources_are reached_by (bares_of ps) all_at;
  }

  pub end_stands : (b : Blocked) → StandsAmong (bares_of ps) b → StandsAt h.nodes reached_by b
  end_stands b (x, among, is) =
      let code : x.nodes ≡ h.nodes = All-contains (λ (y : BareView). y.nodes ≡ h.nodes) (bares_of ps) x h.ran among in
      let far : reached_by b.wait.fiber ≡ reached x = ap reached_by is.fiber ∙ All-contains (IsAt reached_by) (bares_of ps) x all_at among in
      subst (λ (p : Progress). MatchOption b.node (HasNoNode (leaf_at p)) (λ id. (numbers : List ℕ) × IsPlaceOf h.nodes numbers (leaf_at p) id)) (sym far)
      (with_some_numbers h.nodes x.registers (leaf_at (reached x)) b.node
      (subst (λ (nodes : List Node). MatchOption b.node (HasNoNode (leaf_at (reached x))) (IsPlaceOf nodes x.registers (leaf_at (reached x)))) code is.node))
