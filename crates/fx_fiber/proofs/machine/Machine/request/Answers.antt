use Rattle.std.proofs.Common.{refl}
use Rattle.fx_term.specs.declared.event.Event.TheVariants as event
use Rattle.fx_fiber.specs.declared.machine.made.Made.TheVariants as made
use Rattle.fx_fiber.proofs.Calls.{uncaused_call}
use Rattle.fx_fiber.proofs.Fibers.{request_within, request_fits, request_sound, request_step}
use Rattle.fx_fiber.proofs.machine.Machine.request.Goals as goal

pub fiber_of-fiber-requires-clause-bound : goal.fiber_of-fiber-requires-clause-bound
fiber_of-fiber-requires-clause-bound g c = request_within g.P.Port.theory.code c.args.self.now c.requires.at.0 c.args.slot c.requires.at.1.at

pub fiber_of-fiber-requires-clause-fits : goal.fiber_of-fiber-requires-clause-fits
fiber_of-fiber-requires-clause-fits g c =
    request_fits g.P.Port.theory.code c.args.self.now c.requires.at.0 c.args.slot c.requires.at.1.at c.requires.scoped

pub returns : goal.returns
returns g c =
    let stands = c.requires.at.1 in
    uncaused_call g.P.Port.theory _ _ c.args.self.now _ _ _ _ _ (made.Shows (event.Request c.fiber_of-fiber.result)) c.after.result c.after.ensures refl
    (request_sound g.P.Port.theory.code c.args.self.now c.requires.at.0 c.args.slot stands.at c.fiber_of-fiber.result)
    (request_step g.P.Port.theory.code c.args.self.now c.requires.at.0 c.args.slot stands.at c.fiber_of-fiber.result c.fiber_of-fiber.ensures stands.free)
    tt c.request.ensures.told c.request.ensures.deed c.request.ensures.facts
