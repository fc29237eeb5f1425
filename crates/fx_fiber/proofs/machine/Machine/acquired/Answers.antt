use Rattle.fx_term.specs.declared.done.Done.TheVariants.{Val}
use Rattle.fx_frames.specs.declared.frame.Frame.TheVariants as frame
use Rattle.fx_fiber.proofs.Results.{closed_inside}
use Rattle.fx_fiber.proofs.Resources.{acquired_sound, acquired_step}
use Rattle.fx_fiber.proofs.machine.Machine.acquired.Goals as goal

pub returns-clause-ok : goal.returns-clause-ok
returns-clause-ok g c =
    let id = c.requires.0.0 in
    let bracket = c.requires.0.1 in
    let inside = c.requires.0.2 in
    let shut = (closed_inside g.nodes c.args.self.now (frame.Acquire id) (Val c.args.n) inside).1 in (
      record {
        sound =
            rw (c.leave.ensures _ _ shut, c.replace.ensures _ _ inside.frames, c.in_ok-bind.ensures.ok)
            (acquired_sound g.nodes c.args.self.now id c.args.name c.args.use_part c.args.release c.args.n inside bracket _ shut);
        rule =
            rw (c.leave.ensures _ _ shut, c.replace.ensures _ _ inside.frames, c.in_ok-bind.ensures.ok)
            (acquired_step g.nodes c.args.self.now id c.args.name c.args.use_part c.args.release c.args.n inside bracket _ shut);
        is_local = tt;
      },
      tt,
    )
