use Rattle.fx_model.specs.Step.{release_ends}
use Rattle.fx_fiber.proofs.Unwindings.{between_sound}
use Rattle.fx_fiber.proofs.machine.Machine.release_ends.Goals as goal

pub returns : goal.returns
returns g c =
    let out = c.requires.2 in
    record {
      sound = between_sound g.nodes c.args.self.now c.requires.0 c.requires.1 out c.requires.3;
      rule = rw (out.given.focus, out.frames, c.requires.3, c.requires.4) release_ends;
      is_local = tt;
    }
