use Rattle.std.proofs.Common.{rules}
use Rattle.fx_fiber.proofs.Loops.{turn_is_no_cede, ended_step}
use Rattle.fx_fiber.proofs.machine.Machine.loop_ends.Goals as goal

pub returns : goal.returns
returns g c =
    let l = c.requires in
    record {
      sound = let at = l.at in search rules;
      rule = (
        turn_is_no_cede g.nodes c.args.self.now l.id l.turn l.name l.count l.part l.at,
        ended_step g.nodes c.args.self.now l.id l.turn l.name l.count l.part l.at l.over,
      );
      is_local = tt;
    }
