use Rattle.std.proofs.Common.{refl}
use Rattle.fx_fiber.proofs.Calls.{waits_call, learns_call}
use Rattle.fx_fiber.proofs.Fibers.{await_sound, await_step, await_waits}
use Rattle.fx_fiber.proofs.machine.Machine.awaits.Goals as goal

pub returns-in-Some : goal.returns-in-Some
returns-in-Some g c =
    let s = c.args.self.now in
    learns_call g.P.Port.theory _ _ s _ _ _ _ _ _ _ _ c.in-Some.stamp c.raise.ensures (λ h. h)
    (await_sound g.P.Port.theory.code s c.args.fiber c.requires.sound c.requires.focus)
    (await_step g.P.Port.theory.code s c.args.fiber c.requires.sound c.requires.focus c.in-Some.outcome) tt c.in-Some.ensures.told c.in-Some.ensures.deed
    c.in-Some.ensures.facts

pub returns-in-None : goal.returns-in-None
returns-in-None g c =
    let s = c.args.self.now in
    let same = c.in-None.ensures.unchanged in
    waits_call g.P.Port.theory _ _ s s _ _ _ _ _ refl _
    (await_waits g.P.Port.theory.code s c.args.fiber c.requires.sound c.requires.focus)
    (rw (same.0, same.1) at c.in-None.ensures.told) refl same.0 same.1
