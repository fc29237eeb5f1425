use Rattle.std.proofs.Common.{refl, rules}
use Rattle.fx_frames.specs.declared.frame.Frame.TheVariants as frame
use Rattle.fx_model.specs.Row.{masked_ends}
use Rattle.fx_fiber.proofs.Results.{given_is_no_cede, given_step, closed_inside}
use Rattle.fx_fiber.proofs.machine.Machine.masked_ends.Goals as goal

pub returns : goal.returns
returns g c =
    let inside = c.requires.1 in
    let shut = (closed_inside g.nodes c.args.self.now frame.Masked c.requires.0 inside).2 in
    record {
      sound = search rules;
      rule = (
        given_is_no_cede g.nodes c.args.self.now (c.requires.0) inside.given,
        rw (c.leave.ensures _ _ shut)
            (given_step g.nodes c.args.self.now (frame.Masked) (c.requires.0) inside _ _ _ _
            (simp (c.pop.ensures.rest _ _ inside.frames, inside.given.focus, shut) refl)
            (λ k. masked_ends)),
      );
      is_local = tt;
    }
