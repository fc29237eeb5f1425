use Rattle.std.proofs.Common.{refl, rules}
use Rattle.fx_term.specs.declared.done.Done.TheVariants.{Err}
use Rattle.fx_frames.specs.declared.frame.Frame.TheVariants as frame
use Rattle.fx_fiber.proofs.Results.{given_is_no_cede, given_step, closed_inside}
use Rattle.std.specs.Prelude.{slice_get}
use Rattle.fx_fiber.proofs.Cases.{case_fails_row}
use Rattle.fx_fiber.proofs.machine.Machine.acquire_case_fails.Goals as goal

pub returns : goal.returns
returns g c =
    let inside = c.requires.2 in
    let shut = (closed_inside g.nodes c.args.self.now (frame.AcquireCase c.requires.0) (Err c.requires.1) inside).1 in
    record {
      sound = search rules;
      rule = (
        given_is_no_cede g.nodes c.args.self.now (Err c.requires.1) inside.given,
        rw (c.leave.ensures _ _ shut)
            (given_step g.nodes c.args.self.now (frame.AcquireCase c.requires.0) (Err c.requires.1) inside _ _ _ _
            (simp (c.pop.ensures.rest _ _ inside.frames, inside.given.focus, shut) refl)
            (λ k. case_fails_row g.nodes c.args.self.now.registers k _ c.requires.1 (slice_get g.nodes c.requires.0.0))),
      );
      is_local = tt;
    }
