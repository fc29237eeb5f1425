use Rattle.std.proofs.Common.{refl, rules}
use Rattle.fx_frames.specs.declared.frame.Frame.TheVariants as frame
use Rattle.fx_model.specs.Row.{oncancel_ends}
use Rattle.fx_fiber.proofs.Results.{given_is_no_cede, given_step}
use Rattle.fx_fiber.proofs.machine.Machine.oncancel_ends.Goals as goal

pub returns : goal.returns
returns g c =
    let inside = c.requires.2 in
    record {
      sound = search rules;
      rule = (
        given_is_no_cede g.nodes c.args.self.now (c.requires.1) inside.given,
        given_step g.nodes c.args.self.now (frame.OnCancel c.requires.0) (c.requires.1) inside _ _ _ _
            (rw (c.pop.ensures.rest _ _ inside.frames, inside.given.focus) refl) (λ k. oncancel_ends),
      );
      is_local = tt;
    }
