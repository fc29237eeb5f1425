use Rattle.fx_term.specs.declared.done.Done.TheVariants.{Val}
use Rattle.fx_frames.specs.declared.frame.Frame.TheVariants as frame
use Rattle.fx_fiber.proofs.Results.{closed_inside}
use Rattle.fx_fiber.proofs.Cases.{acquired_case_sound, acquired_case_step}
use Rattle.fx_fiber.proofs.machine.Machine.acquired_case.Goals as goal

pub returns-clause-ok : goal.returns-clause-ok
returns-clause-ok g c =
    let case = c.requires.0 in
    let inside = c.requires.1.0 in
    let shut = (closed_inside g.nodes c.args.self.now (frame.AcquireCase c.args.id) (Val c.args.n) inside).1 in (
      record {
        sound =
            rw (c.leave.ensures _ _ shut, c.replace.ensures _ _ inside.frames, c.in_ok-bind.ensures.ok)
            (acquired_case_sound g.nodes c.args.self.now c.args.id c.args.name c.args.use_part c.args.canceled c.args.n inside case _ shut);
        rule =
            rw (c.leave.ensures _ _ shut, c.replace.ensures _ _ inside.frames, c.in_ok-bind.ensures.ok)
            (acquired_case_step g.nodes c.args.self.now c.args.id c.args.name c.args.use_part c.args.canceled c.args.n inside case _ shut);
        is_local = tt;
      },
      tt,
    )
