use Rattle.std.proofs.Common.{refl}
use Rattle.fx_term.specs.declared.done.Done.TheVariants.{Val}
use Rattle.fx_frames.specs.declared.frame.Frame.TheVariants as frame
use Rattle.fx_model.specs.Row.{let_value}
use Rattle.fx_fiber.proofs.Results.{given_is_no_cede, named_step, named_sound}
use Rattle.fx_fiber.proofs.machine.Machine.let_value.Goals as goal

pub returns-clause-ok : goal.returns-clause-ok
returns-clause-ok g c =
    let inside = c.requires in
    record {
      sound =
          rw (c.pop.ensures.rest _ _ inside.frames, c.in_ok-bind.ensures.ok)
          (named_sound g.nodes c.args.self.now (frame.Let c.args.name c.args.second) (Val c.args.n)
          inside c.args.name c.args.second c.args.n (λ e h. h) refl refl);
      rule = (
        given_is_no_cede g.nodes c.args.self.now (Val c.args.n) inside.given,
        named_step g.nodes c.args.self.now (frame.Let c.args.name c.args.second) (Val c.args.n) inside c.args.name c.args.second c.args.n
            (λ e h. h) refl _ (rw (c.pop.ensures.rest _ _ inside.frames, c.in_ok-bind.ensures.ok) refl) (λ k. let_value),
      );
      is_local = tt;
    }
