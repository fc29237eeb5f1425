use Rattle.std.proofs.Common.{rules, ◌≡◌, ◌∙◌, Err, ℕ, ◌<◌, List, All, true, length, map, sym, ap, subst, refl}
use Rattle.std.proofs.lemmas.List.{length-map}
use Rattle.fx_term.proofs.CoreTerms.{code_is_core}
use Rattle.fx_term.specs.declared.begin.Begin.{Begin}
use Rattle.fx_term.specs.Script.{total}
use Rattle.fx_model.proofs.ScopedCode.{code_is_scoped}
use Rattle.fx_fiber.specs.Bare.{BareView}
use Rattle.fx_text.specs.View.{meaning}
use Rattle.fx_report.specs.Script.{script_of}
use Rattle.fx_report.specs.Waits.{IsBlockedAtQueueBelow}
use Rattle.fx_report.proofs.QueueNames.{names_declared}
use Rattle.fx_report.proofs.WritableReports.{lawful_is_writable}
use Rattle.fx_run.specs.Ledger.{empty_ledger, with_fibers}
use Rattle.fx_run.specs.Reported.{RanCode, NoneIsLost}
use Rattle.fx_run.specs.RunWaits.{StandsAmong, all_waits}
use Rattle.fx_run.specs.Closing.{AreMarked}
use Rattle.fx_run.proofs.CloseFaults.{lost_so, reported_so}
use Rattle.fx_run.proofs.EndLaws.{all_below, ran_so, seat_whole, passes_whole}
use Rattle.fx_run.proofs.LawfulRuns.{halts_lawfully, blocked_below}
use Rattle.fx_run.proofs.closing.close_run.Goals as goal

pub whole_ledger-requires-clause-below : goal.whole_ledger-requires-clause-below
whole_ledger-requires-clause-below g c =
    subst (All (λ (x : BareView). x.id < c.total.result)) (sym c.deref.ensures.value)
    (all_below c.args.script.now.code.nodes c.args.words c.args.queues.items c.args.gathered c.requires.gathered c.total.result
    (c.requires.fibers ∙ sym c.total.ensures.is))

pub report_by-requires-clause-told : goal.report_by-requires-clause-told
report_by-requires-clause-told g c =
    c.in_ok-ledger.ensures.told
    ∙ ap (λ (bares : List BareView). with_fibers bares (empty_ledger c.total.result)) c.deref.ensures.value
    ∙ ap (λ (n : ℕ). with_fibers c.args.gathered.bares.items (empty_ledger n)) c.total.ensures.is

pub report_by-requires-clause-whole : goal.report_by-requires-clause-whole
report_by-requires-clause-whole g c = subst NoneIsLost c.deref.ensures.value c.in_ok-ledger.ensures.whole

pub close-requires-clause-whole : goal.close-requires-clause-whole
close-requires-clause-whole g c =
    seat_whole c.args.script.now.code.nodes c.args.words c.args.queues.items c.args.gathered c.requires.gathered
    (subst NoneIsLost c.deref.ensures.value c.in_ok-ledger.ensures.whole) c.requires.ascending

pub close_queues-requires-clause-whole : goal.close_queues-requires-clause-whole
close_queues-requires-clause-whole g c =
    passes_whole c.args.script.now.code.nodes c.args.words c.args.queues.items c.args.gathered c.requires.gathered
    (subst NoneIsLost c.deref.ensures.value c.in_ok-ledger.ensures.whole) c.requires.ascending

pub report_by-requires-clause-code : goal.report_by-requires-clause-code
report_by-requires-clause-code g c = ran_so c.args.script.now.code.nodes c.args.words c.args.queues.items c.args.gathered c.requires.gathered

pub report_by-requires-clause-below : goal.report_by-requires-clause-below
report_by-requires-clause-below g c =
    let n = total (script_of (meaning c.args.script.now)) in
    all_below c.args.script.now.code.nodes c.args.words c.args.queues.items c.args.gathered c.requires.gathered n c.requires.fibers

pub all_blocked-requires : goal.all_blocked-requires
all_blocked-requires g c =
    subst (RanCode c.args.script.now.code.nodes) (sym c.deref-2.ensures.value)
    (ran_so c.args.script.now.code.nodes c.args.words c.args.queues.items c.args.gathered c.requires.gathered)

pub returns-clause-report : goal.returns-clause-report
returns-clause-report g c =
    let outside = c.in_ok-outside.outside.items in
    record {
      left = map (λ items. items.items) c.in_ok-left.left.items;
      outside = outside;
      rests = c.in_ok-left.ensures;
      ascending = c.in_ok-outside.ensures.ascending;
      marked = subst (λ (n : ℕ). AreMarked n c.args.gathered.noted outside) (ap (λ (b : Begin). b.end) c.main_begin-numbers.ensures.begin)
          c.in_ok-outside.ensures.marked;
      answered = c.in_ok-report.ensures.report;
    }

pub returns-clause-halted : goal.returns-clause-halted
returns-clause-halted g c may allowed =
    let s = script_of (meaning c.args.script.now) in
    let nodes = c.args.script.now.code.nodes in
    let code = c.main_begin-numbers.ensures.code in
    let lost = subst NoneIsLost c.deref.ensures.value c.in_ok-ledger.ensures.whole in
    halts_lawfully nodes c.args.words c.args.queues.items c.args.gathered c.requires.gathered lost c.requires.ascending s refl c.requires.fibers
    c.requires.capacities may allowed c.close.ensures.settled c.args.late _ (returns-clause-report g c) (code_is_scoped (λ f. true) nodes code)
    c.in_ok-blocked.blocked.items (c.in_ok-blocked.ensures.waits ∙ ap all_waits c.deref-2.ensures.value) (code_is_core nodes code)
    (subst (λ (bares : List BareView). All (StandsAmong bares) c.in_ok-blocked.blocked.items) c.deref-2.ensures.value c.in_ok-blocked.ensures.nodes)

pub returns-clause-writable : goal.returns-clause-writable
returns-clause-writable g c le =
    let named = names_declared c.args.script.now c.main_begin-numbers.ensures.code le in
    lawful_is_writable (meaning c.args.script.now) (λ f. true) _ named (returns-clause-halted g c (λ f. true) (λ f marked. refl)).run.lawful

pub returns-clause-named : goal.returns-clause-named
returns-clause-named g c le =
    let m = meaning c.args.script.now in
    let nodes = c.args.script.now.code.nodes in
    let code = c.main_begin-numbers.ensures.code in
    let lost = subst NoneIsLost c.deref.ensures.value c.in_ok-ledger.ensures.whole in
    subst (λ (n : ℕ). All (IsBlockedAtQueueBelow n) c.in_ok-blocked.blocked.items) (sym (length-map m.queues (λ (q : List ℕ × ℕ). q.0)))
    (blocked_below nodes c.args.words c.args.queues.items c.args.gathered c.requires.gathered lost c.requires.ascending (script_of m) refl c.requires.fibers
    c.requires.capacities (λ f. true) (λ f marked. refl) c.close.ensures.settled c.args.late _ (returns-clause-report g c)
    (code_is_scoped (λ f. true) nodes code) c.in_ok-blocked.blocked.items (c.in_ok-blocked.ensures.waits ∙ ap all_waits c.deref-2.ensures.value)
    (length m.queues) (names_declared c.args.script.now code le))

pub returns-in_err-ledger-clause-fault : goal.returns-in_err-ledger-clause-fault
returns-in_err-ledger-clause-fault g c =
    let s = script_of (meaning c.args.script.now) in
    let told = lost_so s c.args.gathered c.args.late c.deref.result.now c.deref.ensures.value c.in_err-ledger.field-0.0
    c.in_err-ledger.ensures.fault in
    let same : c.from_residual.result ≡ Err c.in_err-ledger.field-0.0 = search rules in
    rw same told

pub returns-in_err-report-clause-fault : goal.returns-in_err-report-clause-fault
returns-in_err-report-clause-fault g c =
    let s = script_of (meaning c.args.script.now) in
    let left = map (λ items. items.items) c.in_ok-left.left.items in
    let outside = c.in_ok-outside.outside.items in
    let marked = subst (λ (n : ℕ). AreMarked n c.args.gathered.noted outside) (ap (λ (b : Begin). b.end) c.main_begin-numbers.ensures.begin)
    c.in_ok-outside.ensures.marked in
    let told = reported_so s c.args.gathered c.args.late left outside c.in_ok-left.ensures marked c.in_err-report.field-0.0 c.in_err-report.ensures.fault in
    let same : c.from_residual-in_err-report.result ≡ Err c.in_err-report.field-0.0 = search rules in
    rw same told
