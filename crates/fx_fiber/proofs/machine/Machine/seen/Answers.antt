use Rattle.std.proofs.Common.{refl, rules}
use Rattle.fx_fiber.specs.Machine.{counts_of}
use Rattle.fx_fiber.proofs.Unwindings.{seen_at}
use Rattle.fx_fiber.proofs.machine.Machine.seen.Goals as goal

pub returns : goal.returns
returns g c =
    let s = c.args.self.now in
    let i = c.requires in
    record {
      shows = refl;
      sound = let sound = i.sound in search rules;
      rule = seen_at g.nodes s.registers s.frames s.masks s.cleanups s.focus i.sound i.going i.entered i.opened (counts_of s) i.due;
    }
