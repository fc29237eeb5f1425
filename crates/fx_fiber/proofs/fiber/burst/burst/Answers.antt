use Rattle.fx_fiber.proofs.Bursts.{sees, seen_is_kept, look_advances}
use Rattle.fx_fiber.proofs.fiber.burst.burst.Goals as goal

pub returns-in-Some-clause-ok : goal.returns-in-Some-clause-ok
returns-in-Some-clause-ok g c =
    let h = rw c.requires.1.1.0 at (rw c.in-Looks.is at c.in_ok-made.ensures.ok) in
    rw c.show.ensures.machine (sees g.P.Port.theory _ _ c.in-Looks.made c.args.most _ _ _ c.rules_before_look.new.body.machine
    c.seen.new.self _ _ _ _ _ _ _ h.0 h.1
    (look_advances g.P.Port.theory c.rules_before_look.new.body.machine _ _ _ _ _ _ h.2
    (record { cause = c.in-Some.stamp; raised = c.raise.ensures; told = rw c.in-Some.is at c.look.ensures.told; done = c.in-Some.ensures.deed }) _ _
    c.look.ensures.facts c.seen.ensures)
    c.show.ensures.trace)

pub returns-in-Some-clause-kept : goal.returns-in-Some-clause-kept
returns-in-Some-clause-kept g c =
    let h = rw c.requires.1.1.0 at (rw c.in-Looks.is at c.in_ok-made.ensures.ok) in
    rw c.show.ensures.machine (seen_is_kept g.P.Port.theory c.args.body.now.trace.items c.args.body.now.source _ _
    c.rules_before_look.new.body.machine c.seen.new.self _ _ _ _ _ _ _ h.1.kept
    (look_advances g.P.Port.theory c.rules_before_look.new.body.machine _ _ _ _ _ _ h.2
    (record { cause = c.in-Some.stamp; raised = c.raise.ensures; told = rw c.in-Some.is at c.look.ensures.told; done = c.in-Some.ensures.deed }) _ _
    c.look.ensures.facts c.seen.ensures)
    c.show.ensures.trace c.show.ensures.clock)
