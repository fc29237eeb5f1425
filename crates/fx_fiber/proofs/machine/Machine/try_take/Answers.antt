use Rattle.std.proofs.Common.{refl}
use Rattle.fx_term.specs.declared.event.Event.TheVariants as event
use Rattle.fx_fiber.specs.declared.machine.made.Made.TheVariants as made
use Rattle.fx_fiber.proofs.Calls.{uncaused_call}
use Rattle.fx_fiber.proofs.QueueLeaves.{try_take_reaches, try_take_has_register, try_take_goes_on, found_empty_goes_on}
use Rattle.fx_fiber.proofs.machine.Machine.try_take.Goals as goal

pub bind-requires : goal.bind-requires
bind-requires g c = let stands = rw c.in-TryTake.is at c.requires.at in try_take_reaches g.P.Port.theory.code c.args.self.now c.args.id _ _ _ _ stands.at

pub rebind-requires : goal.rebind-requires
rebind-requires g c =
    let stands = rw c.in-TryTake.is at c.requires.at in
    rw c.in_ok-bind.ensures.ok (try_take_has_register g.P.Port.theory.code c.args.self.now c.args.id _ _ _ _ stands.at)

pub returns-in-Some-clause-ok : goal.returns-in-Some-clause-ok
returns-in-Some-clause-ok g c =
    let stands = rw c.in-TryTake.is at c.requires.at in
    let on = try_take_goes_on g.P.Port.theory.code c.args.self.now c.args.id _ _ _ _ stands.at stands.free c.in-Some.value _
    (rw (c.rebind.ensures, c.in_ok-bind.ensures.ok) refl) in
    record {
      cause = c.in-Some.stamp;
      raises = record { raised = c.raise.ensures; none = λ h. absurd h };
      sound = on.0;
      rule = on.1;
      own = tt;
      told = c.in-Some.ensures.told;
      agreed = c.in-Some.ensures.deed;
      facts_are = c.in-Some.ensures.facts;
    }

pub returns-in-None-clause-ok : goal.returns-in-None-clause-ok
returns-in-None-clause-ok g c =
    let stands = rw c.in-TryTake.is at c.requires.at in
    let on = found_empty_goes_on g.P.Port.theory.code c.args.self.now c.args.id _ _ _ _ stands.at stands.free _ (rw c.in_ok-bind.ensures.ok refl) in
    uncaused_call g.P.Port.theory _ _ c.args.self.now _ _ _ _ _ (made.Shows (event.Empty _)) _ refl refl on.0 on.1 tt c.in-None.ensures.told
    c.in-None.ensures.empty c.in-None.ensures.facts
