use Rattle.std.proofs.Common.{refl}
use Rattle.fx_fiber.specs.Machine.{counts_of}
use Rattle.fx_fiber.proofs.Unwindings.{cancelled_at, cancelled_sound}
use Rattle.fx_fiber.proofs.machine.Machine.cancelled.Goals as goal

pub returns-clause-ok : goal.returns-clause-ok
returns-clause-ok g c =
    let s = c.args.self.now in
    let i = c.requires in
    record {
      shows = refl;
      sound =
          rw (c.replace-frames.ensures.after, c.new.ensures, c.unwind.ensures, c.replace-frames.ensures.value, c.in_ok-seal.ensures.ok)
          (cancelled_sound g.nodes s.registers s.frames s.masks s.cleanups s.focus i.sound i.going i.entered i.opened);
      rule =
          rw (c.unwind.ensures, c.replace-frames.ensures.value, c.in_ok-seal.ensures.ok)
          (cancelled_at g.nodes s.registers s.frames s.masks s.cleanups s.focus i.sound i.going i.entered i.opened (counts_of s) i.due);
    }
