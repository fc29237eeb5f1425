use Rattle.std.proofs.Common.{refl}
use Rattle.fx_fiber.specs.Places.{IsSame}
use Rattle.fx_fiber.proofs.Loops.{turn_is_no_cede, turn_register_stays, turned_sound, turned_step}
use Rattle.fx_fiber.proofs.Results.{on_any_error}
use Rattle.fx_fiber.proofs.machine.Machine.loop_turns.Goals as goal

pub returns-in_err-push-clause-err : goal.returns-in_err-push-clause-err
returns-in_err-push-clause-err g c =
    let turn = c.requires.0 in
    on_any_error {P = IsSame g.nodes c.args.self.now _} _
    (turn_register_stays g.nodes c.args.self.now c.args.id c.args.turn c.args.name turn.count c.args.part turn.at c.args.turn _
    (rw (c.in_err-push.ensures.err, c.in_ok-bind.ensures.ok, c.from.ensures) refl))

pub returns-clause-ok : goal.returns-clause-ok
returns-clause-ok g c =
    let turn = c.requires.0 in
    record {
      sound = rw (c.in_ok-push.ensures.ok, c.in_ok-bind.ensures.ok)
          (turned_sound g.nodes c.args.self.now c.args.id c.args.turn c.args.name turn.count c.args.part turn.at _);
      rule = (
        turn_is_no_cede g.nodes c.args.self.now c.args.id c.args.turn c.args.name turn.count c.args.part turn.at,
        rw c.in_ok-push.ensures.ok
            (turned_step g.nodes c.args.self.now c.args.id c.args.turn c.args.name turn.count c.args.part turn.at turn.more _
            (rw (c.in_ok-bind.ensures.ok, c.from.ensures) refl)),
      );
      is_local = tt;
    }
