use Rattle.std.proofs.Common.{refl}
use Rattle.fx_term.specs.declared.done.Done.TheVariants.{Err}
use Rattle.fx_frames.specs.declared.frame.Frame.TheVariants as frame
use Rattle.fx_model.specs.Row.{handle_error}
use Rattle.fx_fiber.proofs.Results.{given_is_no_cede, named_step, named_sound}
use Rattle.fx_fiber.proofs.machine.Machine.handle_error.Goals as goal

pub returns-clause-ok : goal.returns-clause-ok
returns-clause-ok g c =
    let inside = c.requires in
    record {
      sound =
          rw (c.pop.ensures.rest _ _ inside.frames, c.in_ok-bind.ensures.ok)
          (named_sound g.nodes c.args.self.now (frame.Handle c.args.name c.args.handler) (Err c.args.e)
          inside c.args.name c.args.handler c.args.e (λ e h. h) refl refl);
      rule = (
        given_is_no_cede g.nodes c.args.self.now (Err c.args.e) inside.given,
        named_step g.nodes c.args.self.now (frame.Handle c.args.name c.args.handler) (Err c.args.e) inside c.args.name c.args.handler c.args.e
            (λ e h. h) refl _ (rw (c.pop.ensures.rest _ _ inside.frames, c.in_ok-bind.ensures.ok) refl) (λ k. handle_error),
      );
      is_local = tt;
    }
