use Rattle.std.proofs.Common.{refl, rules, sym}
use Rattle.fx_frames.specs.declared.frame.Frame.TheVariants as frame
use Rattle.fx_model.specs.Row.{opened_ends}
use Rattle.fx_fiber.proofs.Results.{given_is_no_cede, given_step, given_quietly, counts_same}
use Rattle.fx_fiber.proofs.machine.Machine.opened_ends.Goals as goal

pub returns-then-took_off : goal.returns-then-took_off
returns-then-took_off g c =
    let inside = c.requires.1 in
    record {
      sound = search rules;
      rule = (
        given_is_no_cede g.nodes c.args.self.now c.requires.0 inside.given,
        given_quietly g.nodes c.args.self.now (frame.Opened c.args.region c.args.took_off) c.requires.0 inside _ _ _
            (counts_same c.args.self.now _ (sym c.reclose.ensures.entries))
            (rw (c.pop.ensures.rest _ _ inside.frames, inside.given.focus, c.reclose.ensures.regions, c.if-took_off.true) refl) (λ k. opened_ends),
      );
      is_local = tt;
    }

pub returns-else-took_off : goal.returns-else-took_off
returns-else-took_off g c =
    let inside = c.requires.1 in
    record {
      sound = search rules;
      rule = (
        given_is_no_cede g.nodes c.args.self.now c.requires.0 inside.given,
        given_step g.nodes c.args.self.now (frame.Opened c.args.region c.args.took_off) c.requires.0 inside _ _ _ _
            (rw (c.pop.ensures.rest _ _ inside.frames, inside.given.focus, c.if-took_off.false) refl) (λ k. opened_ends),
      );
      is_local = tt;
    }
