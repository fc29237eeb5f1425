use Rattle.std.proofs.Common.{refl, rules}
use Rattle.fx_term.specs.declared.done.Done.TheVariants.{Err}
use Rattle.fx_frames.specs.declared.frame.Frame.TheVariants as frame
use Rattle.fx_model.specs.Row.{let_error}
use Rattle.fx_fiber.proofs.Results.{given_is_no_cede, given_step}
use Rattle.fx_fiber.proofs.machine.Machine.let_error.Goals as goal

pub returns : goal.returns
returns g c =
    let inside = c.requires.3 in
    record {
      sound = search rules;
      rule = (
        given_is_no_cede g.nodes c.args.self.now (Err c.requires.2) inside.given,
        given_step g.nodes c.args.self.now (frame.Let c.requires.0 c.requires.1) (Err c.requires.2) inside _ _ _ _
            (rw (c.pop.ensures.rest _ _ inside.frames, inside.given.focus) refl) (λ k. let_error),
      );
      is_local = tt;
    }
