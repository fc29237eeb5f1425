use Rattle.std.proofs.Common.{refl, ◌∙◌}
use Rattle.fx_fiber.proofs.Calls.{waits_call, learns_call}
use Rattle.fx_fiber.proofs.Fibers.{left_within, right_within, left_fits, right_fits, result_sound, first_leaf, left_step, right_step, first_waits}
use Rattle.fx_fiber.proofs.machine.Machine.first.Goals as goal

pub fiber_of-left-requires-clause-bound : goal.fiber_of-left-requires-clause-bound
fiber_of-left-requires-clause-bound g c = left_within g.P.Port.theory.code c.args.self.now c.requires.at.0 c.args.left c.args.right c.requires.at.1.at

pub fiber_of-left-requires-clause-fits : goal.fiber_of-left-requires-clause-fits
fiber_of-left-requires-clause-fits g c =
    left_fits g.P.Port.theory.code c.args.self.now c.requires.at.0 c.args.left c.args.right c.requires.at.1.at c.requires.scoped

pub fiber_of-right-requires-clause-bound : goal.fiber_of-right-requires-clause-bound
fiber_of-right-requires-clause-bound g c = right_within g.P.Port.theory.code c.args.self.now c.requires.at.0 c.args.left c.args.right c.requires.at.1.at

pub fiber_of-right-requires-clause-fits : goal.fiber_of-right-requires-clause-fits
fiber_of-right-requires-clause-fits g c =
    right_fits g.P.Port.theory.code c.args.self.now c.requires.at.0 c.args.left c.args.right c.requires.at.1.at c.requires.scoped

pub returns-in-Some : goal.returns-in-Some
returns-in-Some g c =
    let s = c.args.self.now in
    let stands = c.requires.at.1 in
    learns_call g.P.Port.theory _ _ s _ _ _ _ _ _ _ _ c.in-Some.stamp c.raise.ensures (λ h. h)
    (result_sound g.P.Port.theory.code s c.requires.at.0 c.args.left c.args.right stands.at 0)
    (left_step g.P.Port.theory.code s c.requires.at.0 c.args.left c.args.right stands.at _ _ c.fiber_of-left.ensures c.fiber_of-right.ensures stands.free
    c.in-Some.outcome)
    tt c.in-Some.ensures.told c.in-Some.ensures.deed c.in-Some.ensures.facts

pub returns-in-Some-peek : goal.returns-in-Some-peek
returns-in-Some-peek g c =
    let s = c.args.self.now in
    let stands = c.requires.at.1 in
    let same = c.in-None.ensures.unchanged in
    learns_call g.P.Port.theory _ _ s _ _ _ _ _ _ _ _ c.in-Some-peek.stamp c.raise-in-Some-peek.ensures (λ h. h)
    (result_sound g.P.Port.theory.code s c.requires.at.0 c.args.left c.args.right stands.at 1)
    (right_step g.P.Port.theory.code s c.requires.at.0 c.args.left c.args.right stands.at _ _ c.fiber_of-left.ensures c.fiber_of-right.ensures stands.free
    c.in-Some-peek.outcome)
    (rw (first_leaf g.P.Port.theory.code s c.requires.at.0 c.args.left c.args.right stands.at _ _ c.fiber_of-left.ensures c.fiber_of-right.ensures stands.free)
    (rw (same.0, same.1) at c.in-None.ensures.told))
    (rw (same.0, same.1) at c.in-Some-peek.ensures.told) (rw same.0 at c.in-Some-peek.ensures.deed)
    (rw same.0 at c.in-Some-peek.ensures.facts)

pub returns-in-None-peek : goal.returns-in-None-peek
returns-in-None-peek g c =
    let s = c.args.self.now in
    let stands = c.requires.at.1 in
    let same = c.in-None.ensures.unchanged in
    let again = c.in-None-peek.ensures.unchanged in
    let second = rw (again.0, again.1) at c.in-None-peek.ensures.told in
    waits_call g.P.Port.theory _ _ s s _ _ _ _ _ refl _
    (first_waits g.P.Port.theory.code s c.requires.at.0 c.args.left c.args.right stands.at _ _ c.fiber_of-left.ensures c.fiber_of-right.ensures stands.free)
    (rw (same.0, same.1) at c.in-None.ensures.told, rw (same.0, same.1) at second) refl (again.0 ∙ same.0) (again.1 ∙ same.1)
