use Rattle.std.proofs.Common.{◌+◌, List, [], length, drop, arith, sym, ◌∙◌, subst}
use Rattle.std.proofs.lemmas.List.{drop_more, drop_all}
use Rattle.fx_term.proofs.CoreTerms.{code_is_core}
use Rattle.fx_text.specs.View.{meaning}
use Rattle.fx_text.specs.declared.pick.Pick.TheVariants as pick
use Rattle.fx_term.specs.declared.node.Node.{Node}
use Rattle.fx_report.specs.Script.{script_of}
use Rattle.fx_report.specs.Text.{queue_names}
use Rattle.fx_report.specs.Waits.{WaitsAtQueueBelow}
use Rattle.fx_report.proofs.BlockedFibers.{each_wait}
use Rattle.fx_plain.specs.Standing.{IsReplayWithBlocked}
use Rattle.fx_plain.proofs.PickedWay.{IsPickedWay, picked_begins, picked_on, picked_some, picked_way, tells_passed}
use Rattle.fx_plain.proofs.PassedNames.{passed_at_names}
use Rattle.fx_plain.proofs.ChosenRuns.{replay_is_lawful, replay_keeps_promises}
use Rattle.fx_plain.proofs.Waits.{replay_with_blocked, without_waits, waits_at_names}
use Rattle.fx_report.proofs.QueueNames.{names_declared}
use Rattle.fx_report.proofs.WritableReports.{lawful_is_writable}
use Rattle.fx_plain.proofs.chosen_run.replay_named.Goals as goal

pub take_pick-requires-clause-stands : goal.take_pick-requires-clause-stands
take_pick-requires-clause-stands g c =
    picked_some g.J.CodeBrand.nodes (script_of (meaning c.args.script.now)) c.args.picks.now _ _ _ _ c.loop-before.invariant

pub loop-before-init : goal.loop-before-init
loop-before-init g c =
    let s = script_of (meaning c.args.script.now) in
    picked_begins g.J.CodeBrand.nodes s c.args.picks.now _ c.in_ok-machine.ensures.stands

pub loop-before-preserved : goal.loop-before-preserved
loop-before-preserved g c =
    let nodes = g.J.CodeBrand.nodes in
    let s = script_of (meaning c.args.script.now) in
    let picks = c.args.picks.now in
    let i = c.loop-before.before in
    rw c.told_after-passed.ensures
    (picked_on nodes s picks i _ (drop (i + 1) picks) c.loop-before.passed c.in_ok-why.why _ _ (c.in_ok-why.ensures.takes s)
    (rw (drop_more picks i (pick.Step 0) c.loop-before-test.true) at c.loop-before.invariant))

pub returns-clause-replayed : goal.returns-clause-replayed
returns-clause-replayed g c =
    let s = script_of (meaning c.args.script.now) in
    let picks = c.args.picks.now in
    let taken : IsPickedWay g.J.CodeBrand.nodes s picks _ [] c.loop-before.passed c.loop-before.machine =
    rw (drop_all c.loop-before.before picks (let end = c.loop-before-test.false in omega arith)) at c.loop-before.invariant in
    let under_way = c.in_ok-run_to_halt.ensures.way s picks (picked_way g.J.CodeBrand.nodes s picks _ _ _ taken) in
    subst (λ (ns : List Node). IsReplayWithBlocked ns s picks c.in_ok-report.report c.in_ok-blocked.blocked.items) (sym c.requires.code)
    (replay_with_blocked g.J.CodeBrand.nodes s _ picks _ _ under_way c.in_ok-run_to_halt.ensures.halts (c.in_ok-report.ensures.replay s picks under_way)
    c.in_ok-report.ensures.fibers (c.in_ok-blocked.ensures.waits ∙ c.deref.ensures.value ∙ c.in_ok-waits.ensures) c.in_ok-blocked.ensures.nodes)

pub returns-clause-passed : goal.returns-clause-passed
returns-clause-passed g c =
    let s = script_of (meaning c.args.script.now) in
    let picks = c.args.picks.now in
    let taken : IsPickedWay g.J.CodeBrand.nodes s picks _ [] c.loop-before.passed c.loop-before.machine =
    rw (drop_all c.loop-before.before picks (let end = c.loop-before-test.false in omega arith)) at c.loop-before.invariant in
    tells_passed g.J.CodeBrand.nodes s picks _ _ _ taken (returns-clause-replayed g c).replay.chosen

pub returns-clause-promised : goal.returns-clause-promised
returns-clause-promised g c =
    let s = script_of (meaning c.args.script.now) in
    let core = code_is_core c.args.script.now.code.nodes c.in_ok-machine.ensures.code in
    replay_keeps_promises s c.args.picks.now _ core (without_waits s c.args.picks.now _ _ (returns-clause-replayed g c).replay)

pub returns-clause-writable : goal.returns-clause-writable
returns-clause-writable g c = λ le.
    let m = meaning c.args.script.now in
    let s = script_of m in
    let picks = c.args.picks.now in
    let named = names_declared c.args.script.now c.in_ok-machine.ensures.code le in
    lawful_is_writable m _ _ named (replay_is_lawful s picks _ (without_waits s picks _ _ (returns-clause-replayed g c).replay))

pub returns-clause-named : goal.returns-clause-named
returns-clause-named g c = λ le.
    let m = meaning c.args.script.now in
    each_wait (WaitsAtQueueBelow (length (queue_names m))) _
    (waits_at_names m c.args.picks.now _ _ (names_declared c.args.script.now c.in_ok-machine.ensures.code le) (returns-clause-replayed g c).replay)

pub returns-clause-passed_named : goal.returns-clause-passed_named
returns-clause-passed_named g c = λ le.
    passed_at_names (meaning c.args.script.now) c.args.picks.now _ (names_declared c.args.script.now c.in_ok-machine.ensures.code le)
    (returns-clause-passed g c)
