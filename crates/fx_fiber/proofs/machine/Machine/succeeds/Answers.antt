use Rattle.fx_term.specs.declared.done.Done.TheVariants.{Val}
use Rattle.fx_model.specs.Step.{succeeds}
use Rattle.fx_fiber.proofs.Results.{result_is_free, ended_sound}
use Rattle.fx_fiber.proofs.machine.Machine.succeeds.Goals as goal

pub returns : goal.returns
returns g c =
    let out = c.requires.0 in
    record {
      sound = ended_sound g.nodes c.args.self.now out.given.sound out.frames c.requires.1 _ _ _ c.new.ensures;
      rule = rw (out.given.focus, out.frames, c.requires.1)
          (succeeds (result_is_free g.nodes c.args.self.now (Val c.args.n) out.given out.frames c.requires.1));
      is_local = tt;
    }
