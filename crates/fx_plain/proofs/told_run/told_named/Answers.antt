use Rattle.std.proofs.Common.{◌+◌, [], drop, arith}
use Rattle.std.proofs.lemmas.List.{drop_more, drop_all}
use Rattle.fx_text.specs.View.{meaning}
use Rattle.fx_text.specs.declared.pick.Pick.TheVariants as pick
use Rattle.fx_report.specs.Script.{script_of}
use Rattle.fx_report.proofs.QueueNames.{names_declared}
use Rattle.fx_plain.specs.ToldWay.{IsToldWay}
use Rattle.fx_plain.proofs.ToldWays.{told_begins, told_on, told_some, told_ends}
use Rattle.fx_plain.proofs.ToldRuns.{told_at_names}
use Rattle.fx_plain.proofs.told_run.told_named.Goals as goal

pub tell_pick-requires-clause-stands : goal.tell_pick-requires-clause-stands
tell_pick-requires-clause-stands g c =
    told_some g.J.CodeBrand.nodes (script_of (meaning c.args.script.now)) c.args.picks.now _ _ _ _ c.loop-before.invariant

pub tell_rest-requires-clause-stands : goal.tell_rest-requires-clause-stands
tell_rest-requires-clause-stands g c =
    told_some g.J.CodeBrand.nodes (script_of (meaning c.args.script.now)) c.args.picks.now _ _ _ _ c.loop-before.invariant

pub loop-before-init : goal.loop-before-init
loop-before-init g c =
    let s = script_of (meaning c.args.script.now) in
    let picks = c.args.picks.now in
    rw c.new-told.ensures.items (told_begins g.J.CodeBrand.nodes s picks _ c.in_ok-machine.ensures.stands)

pub loop-before-preserved : goal.loop-before-preserved
loop-before-preserved g c =
    let nodes = g.J.CodeBrand.nodes in
    let s = script_of (meaning c.args.script.now) in
    let picks = c.args.picks.now in
    let i = c.loop-before.before in
    rw c.in_ok-push.ensures.items
    (told_on nodes s picks i _ (drop (i + 1) picks) c.loop-before.told.items c.in_ok-next.next _ _ (c.in_ok-next.ensures s)
    (rw (drop_more picks i (pick.Step 0) c.loop-before-test.true) at c.loop-before.invariant))

pub returns-clause-told : goal.returns-clause-told
returns-clause-told g c =
    let nodes = g.J.CodeBrand.nodes in
    let s = script_of (meaning c.args.script.now) in
    let picks = c.args.picks.now in
    let taken : IsToldWay nodes s picks _ [] c.loop-before.told.items c.loop-before.machine =
    rw (drop_all c.loop-before.before picks (let end = c.loop-before-test.false in omega arith)) at c.loop-before.invariant in
    told_ends nodes s picks _ _ _ (c.in_ok-tell_rest.ensures.way s picks _ taken) c.in_ok-tell_rest.ensures.halts

pub returns-clause-named : goal.returns-clause-named
returns-clause-named g c = λ le.
    told_at_names g.J.CodeBrand.nodes (meaning c.args.script.now) c.args.picks.now _ (names_declared c.args.script.now c.in_ok-machine.ensures.code le)
    (returns-clause-told g c)
