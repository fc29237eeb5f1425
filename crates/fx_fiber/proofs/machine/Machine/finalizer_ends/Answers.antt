use Rattle.fx_model.specs.Step.{finalizer_ends}
use Rattle.fx_fiber.proofs.Results.{given_is_no_cede}
use Rattle.fx_fiber.proofs.Unwindings.{between_sound}
use Rattle.fx_fiber.proofs.machine.Machine.finalizer_ends.Goals as goal

pub returns : goal.returns
returns g c =
    let out = c.requires.2 in
    record {
      sound = between_sound g.nodes c.args.self.now c.requires.0 c.requires.1 out c.requires.3;
      rule = (given_is_no_cede g.nodes c.args.self.now c.requires.0 out.given, rw (out.given.focus, out.frames, c.requires.3, c.requires.4) finalizer_ends);
      is_local = tt;
    }
