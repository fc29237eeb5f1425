use Rattle.std.proofs.Common.{refl}
use Rattle.fx_fiber.proofs.Calls.{waits_call, learns_call}
use Rattle.fx_fiber.proofs.Fibers.{join_within, join_fits, join_reaches, join_has_register, join_goes_on, join_waits}
use Rattle.fx_fiber.proofs.machine.Machine.join.Goals as goal

pub fiber_of-fiber-requires-clause-bound : goal.fiber_of-fiber-requires-clause-bound
fiber_of-fiber-requires-clause-bound g c =
    let stands = rw c.in-Join.is at c.requires.at in join_within g.P.Port.theory.code c.args.self.now c.args.id _ _ _ _ _ _ stands.at

pub fiber_of-fiber-requires-clause-fits : goal.fiber_of-fiber-requires-clause-fits
fiber_of-fiber-requires-clause-fits g c =
    let stands = rw c.in-Join.is at c.requires.at in join_fits g.P.Port.theory.code c.args.self.now c.args.id _ _ _ _ _ _ stands.at c.requires.scoped

pub bind-requires : goal.bind-requires
bind-requires g c = let stands = rw c.in-Join.is at c.requires.at in join_reaches g.P.Port.theory.code c.args.self.now c.args.id _ _ _ _ _ _ stands.at

pub goes_on_after-requires : goal.goes_on_after-requires
goes_on_after-requires g c =
    let stands = rw c.in-Join.is at c.requires.at in
    rw c.in_ok-bind.ensures.ok (join_has_register g.P.Port.theory.code c.args.self.now c.args.id _ _ _ _ _ _ stands.at)

pub returns-in-Some-clause-ok : goal.returns-in-Some-clause-ok
returns-in-Some-clause-ok g c =
    let stands = rw c.in-Join.is at c.requires.at in
    let on = join_goes_on g.P.Port.theory.code c.args.self.now c.args.id _ _ _ _ _ _ stands.at c.fiber_of-fiber.result c.fiber_of-fiber.ensures stands.free
    c.in-Some.outcome _ (rw (c.goes_on_after.ensures, c.in_ok-bind.ensures.ok) refl) in
    learns_call g.P.Port.theory _ _ _ _ _ _ _ _ _ _ _ c.in-Some.stamp c.raise.ensures (λ h. h) on.0 on.1 tt c.in-Some.ensures.told c.in-Some.ensures.deed
    c.in-Some.ensures.facts

pub returns-in-None-clause-ok : goal.returns-in-None-clause-ok
returns-in-None-clause-ok g c =
    let stands = rw c.in-Join.is at c.requires.at in
    let waits = join_waits g.P.Port.theory.code c.args.self.now c.args.id _ _ _ _ _ _ stands.at c.fiber_of-fiber.result c.fiber_of-fiber.ensures stands.free
    _ (rw c.in_ok-bind.ensures.ok refl) in
    let same = c.in-None.ensures.unchanged in
    waits_call g.P.Port.theory _ _ _ _ _ _ _ _ _ refl _ waits (rw (same.0, same.1) at c.in-None.ensures.told) refl same.0 same.1
