use Rattle.std.proofs.Common.{refl, rules}
use Rattle.fx_frames.specs.declared.frame.Frame.TheVariants as frame
use Rattle.fx_model.specs.Row.{used}
use Rattle.fx_fiber.proofs.Results.{given_step}
use Rattle.fx_fiber.proofs.machine.Machine.used.Goals as goal

pub returns-clause-ok : goal.returns-clause-ok
returns-clause-ok g c =
    let inside = c.requires in (
      record {
        sound = search rules;
        rule = rw c.in_ok-seal.ensures.ok
            (given_step g.nodes c.args.self.now (frame.Using c.args.resource c.args.release) (c.args.done) inside _ _ _ _
            (rw (c.replace.ensures _ _ inside.frames) refl)
            (λ k. used));
        is_local = tt;
      },
      tt,
    )
