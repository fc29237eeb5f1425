use Rattle.std.proofs.Common.{refl, rules}
use Rattle.fx_frames.specs.declared.frame.Frame.TheVariants as frame
use Rattle.fx_model.specs.Row.{released}
use Rattle.fx_fiber.proofs.Results.{given_step, closed_inside}
use Rattle.fx_fiber.proofs.machine.Machine.released.Goals as goal

pub returns : goal.returns
returns g c =
    let inside = c.requires in
    let shut = (closed_inside g.nodes c.args.self.now (frame.Releasing c.args.resource c.args.use_result) c.args.done inside).1 in (
      record {
        sound = search rules;
        rule = rw (c.leave.ensures _ _ shut)
            (given_step g.nodes c.args.self.now (frame.Releasing c.args.resource c.args.use_result) (c.args.done) inside _ _ _ _
            (simp (c.pop.ensures.rest _ _ inside.frames, c.after_release.ensures, shut) refl)
            (λ k. released));
        is_local = tt;
      },
      tt,
    )
