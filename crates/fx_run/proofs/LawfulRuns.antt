-- A run that has ended is lawful, and all that is said of it is so by the same runs and histories.
use Rattle.std.proofs.Common.{◌≡◌, ℕ, Bool, true, List, All, map, sym, ◌∙◌, ap, subst}
use Rattle.std.proofs.lemmas.List.Elements.{All-weaker}
use Rattle.fx_term.specs.Forms.{IsCore}
use Rattle.fx_term.specs.declared.node.Node.{Node}
use Rattle.fx_term.specs.Meaning.{root_term}
use Rattle.fx_term.specs.QueuesNamed.{NamesQueuesBelow}
use Rattle.fx_term.specs.Script.{ScriptView, total}
use Rattle.fx_model.specs.Report.{ReportView}
use Rattle.fx_model.specs.Scopes.{IsScopedOver}
use Rattle.fx_model.proofs.HeadlineLaws.{lawful_report_holds}
use Rattle.fx_fiber.specs.Bare.{BareView}
use Rattle.fx_report.specs.declared.blocked.Blocked.{Blocked}
use Rattle.fx_report.specs.Waits.{WaitsAtQueueBelow, IsBlockedAtQueueBelow, waits_in}
use Rattle.fx_report.proofs.BlockedFibers.{each_wait}
use Rattle.fx_word.specs.Words as word
use Rattle.fx_word.specs.SeatView as seat
use Rattle.fx_queue.specs.Queues.{QueueId}
use Rattle.fx_run.specs.declared.gathered.Gathered.{Gathered}
use Rattle.fx_run.specs.Gathered.{IsGathered, AreAllowed}
use Rattle.fx_run.specs.RanFiber.{bares_of}
use Rattle.fx_run.specs.Reported.{AreAscending, NoneIsLost}
use Rattle.fx_run.specs.EndOfRun.{EndsWithReport}
use Rattle.fx_run.specs.Closing.{IsReportOf}
use Rattle.fx_run.specs.RunWaits.{AreBlockedAt, StandsAt, StandsAmong, all_waits}
use Rattle.fx_run.specs.LawfulRun.{IsLawfulRun, IsLawfulHalt}
use Rattle.fx_run.proofs.EndedRun.{end_report, end_is_lawful}
use Rattle.fx_run.proofs.EndLaws.{bares_same, ends_so, ended_fibers, ended_nodes}
use Rattle.fx_run.proofs.EndStamps.{end_has_stamps}
use Rattle.fx_run.proofs.FoundPasses.{AllFound, all_found, AllHanded, all_handed}
use Rattle.fx_run.proofs.RefusalLaws.{end_refusals}
use Rattle.fx_run.proofs.RunWaits.{end_waits, end_stands, end_waits_named}

module _ (s : ScriptView) (may : ℕ → Bool) (answer : ReportView) (h : EndsWithReport s may answer) (all : AllFound s h.fibers)
    (handed : AllHanded s h.fibers) (core : IsCore s.term) (scoped : IsScopedOver (λ f. true) s.term) where
  abbrev ended : IsLawfulRun s may (end_report s may answer h)
  ended = record {
    lawful = end_is_lawful s may answer h;
    promised = lawful_report_holds s may (end_report s may answer h) core (end_is_lawful s may answer h);
    refusals = end_refusals s may answer h all handed;
    stamped = end_has_stamps s may answer h;
  }

  end_halts : (blocked : List Blocked) → waits_in blocked ≡ all_waits (bares_of h.fibers) → All (StandsAmong (bares_of h.fibers)) blocked
      → IsLawfulHalt h.nodes s may answer blocked
  end_halts blocked waits stand =
      let progress = (end_is_lawful s may answer h).runs.progress in
      let are : AreBlockedAt h.nodes progress (end_report s may answer h) blocked = record {
        waits = rw waits (end_waits s may answer h scoped);
        stand = All-weaker (StandsAmong (bares_of h.fibers)) (StandsAt h.nodes progress) (end_stands s may answer h scoped) blocked stand;
      } in
      subst (λ (r : ReportView). IsLawfulHalt h.nodes s may r blocked) (sym h.answered.is) (record { run = ended; are = are })

-- and so it is where a run is closed
module _ (nodes : List Node) (words : word.WordsId) (queues : List QueueId) (g : Gathered) (h : IsGathered nodes words queues g)
    (lost : NoneIsLost g.bares.items) (ascending : AreAscending g.bares.items) (s : ScriptView) (term : s.term ≡ root_term nodes)
    (fibers : words.fibers ≡ total s) (capacities : map (λ (i : QueueId). i.cap) queues ≡ s.capacities)
    (may : ℕ → Bool) (allowed : AreAllowed may g.noted) (settled : seat.IsSettled g.seat.view) (late : ℕ) (answer : ReportView)
    (r : IsReportOf s g late answer) (scoped : IsScopedOver (λ f. true) s.term) (blocked : List Blocked)
    (waits : waits_in blocked ≡ all_waits g.bares.items) where
  abbrev ends : EndsWithReport s may answer
  ends = ends_so nodes words queues g h lost ascending s term fibers capacities may allowed settled late answer r

  same_bares : bares_of ends.fibers ≡ g.bares.items
  same_bares =
      ap bares_of (ended_fibers nodes words queues g h lost ascending s term fibers capacities may allowed settled late answer r)
      ∙ bares_same nodes words queues g h

  pub halts_lawfully : IsCore s.term → All (StandsAmong g.bares.items) blocked → IsLawfulHalt nodes s may answer blocked
  halts_lawfully core stand =
      let same = sym (ended_fibers nodes words queues g h lost ascending s term fibers capacities may allowed settled late answer r) in
      subst (λ (ns : List Node). IsLawfulHalt ns s may answer blocked)
      (ended_nodes nodes words queues g h lost ascending s term fibers capacities may allowed settled late answer r)
      (end_halts s may answer ends (subst (AllFound s) same (all_found nodes words queues s fibers capacities g h))
      (subst (AllHanded s) same (all_handed nodes words queues s capacities g h)) core scoped blocked (waits ∙ ap all_waits (sym same_bares))
      (subst (λ (bares : List BareView). All (StandsAmong bares) blocked) (sym same_bares) stand))

  -- at queues that the script's term names
  pub blocked_below : (n : ℕ) → NamesQueuesBelow n s.term → All (IsBlockedAtQueueBelow n) blocked
  blocked_below n names =
      each_wait (WaitsAtQueueBelow n) blocked (end_waits_named s may answer ends scoped n names (waits_in blocked) (waits ∙ ap all_waits (sym same_bares)))
