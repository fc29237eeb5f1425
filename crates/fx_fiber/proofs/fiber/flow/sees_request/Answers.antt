use Rattle.fx_fiber.proofs.Bursts.{seen_goes, seen_is_kept, look_advances}
use Rattle.fx_fiber.proofs.fiber.flow.sees_request.Goals as goal

pub returns-clause-saw : goal.returns-clause-saw
returns-clause-saw g c =
    let s = c.args.body.now.machine in
    rw c.show.ensures.machine (seen_goes g.P.Port.theory _ _ s c.seen.new.self _ _ _ _ _ _ _ _ c.requires.kept.clocked
    (look_advances g.P.Port.theory s _ _ _ _ _ _ c.requires.next
    (record { cause = c.in-Some.stamp; raised = c.raise.ensures; told = rw c.in-Some.is at c.look.ensures.told; done = c.in-Some.ensures.deed }) _ _
    c.look.ensures.facts c.seen.ensures)
    c.show.ensures.trace)

pub returns-clause-kept : goal.returns-clause-kept
returns-clause-kept g c =
    let s = c.args.body.now.machine in
    rw c.show.ensures.machine (seen_is_kept g.P.Port.theory c.args.body.now.trace.items c.args.body.now.source _ _
    s c.seen.new.self _ _ _ _ _ _ _ c.requires.kept
    (look_advances g.P.Port.theory s _ _ _ _ _ _ c.requires.next
    (record { cause = c.in-Some.stamp; raised = c.raise.ensures; told = rw c.in-Some.is at c.look.ensures.told; done = c.in-Some.ensures.deed }) _ _
    c.look.ensures.facts c.seen.ensures)
    c.show.ensures.trace c.show.ensures.clock)
