use Rattle.std.proofs.Common.{refl}
use Rattle.fx_fiber.specs.Machine.{counts_of}
use Rattle.fx_model.specs.Step.{unwound}
use Rattle.fx_fiber.proofs.Unwindings.{finalizer_sound, release_sound, unwound_sound, finalizer_begins, release_begins}
use Rattle.fx_fiber.proofs.machine.Machine.unwinds.Goals as goal

pub returns-in-None : goal.returns-in-None
returns-in-None g c =
    let s = c.args.self.now in
    let sound = rw (c.requires.1, c.in-Some.is) at c.requires.0 in
    record {
      sound = unwound_sound g.nodes s.registers s.frames s.masks c.in-Some.unwound c.next.new.self sound _ _ c.in-None.ensures.1;
      rule = rw (c.requires.1, c.in-Some.is, c.in-None.ensures.0) unwound;
      is_local = tt;
    }

pub returns-in-Some-Finalizer : goal.returns-in-Some-Finalizer
returns-in-Some-Finalizer g c =
    let s = c.args.self.now in
    let sound = rw (c.requires.1, c.in-Some.is) at c.requires.0 in
    let taken = rw c.in-Some-Finalizer.field-0-is at c.in-Some-Finalizer.ensures in
    record {
      sound = finalizer_sound g.nodes s.registers s.frames s.masks c.in-Some.unwound c.next.new.self sound c.in-Some-Finalizer.finalizer taken.0;
      rule = (
        rw (c.requires.1, c.in-Some.is) refl,
        rw (c.requires.1, c.in-Some.is)
            (finalizer_begins g.nodes s.registers s.frames s.masks c.in-Some.unwound c.next.new.self sound (counts_of s)
            c.in-Some-Finalizer.finalizer taken.0 taken.1),
      );
      is_local = tt;
    }

pub returns-in-Some-Release : goal.returns-in-Some-Release
returns-in-Some-Release g c =
    let s = c.args.self.now in
    let sound = rw (c.requires.1, c.in-Some.is) at c.requires.0 in
    let taken = rw c.in-Some-Release.field-0-is at c.in-Some-Release.ensures in
    record {
      sound =
          release_sound g.nodes s.registers s.frames s.masks c.in-Some.unwound c.next.new.self sound c.in-Some-Release.number c.in-Some-Release.release taken.0;
      rule =
          rw (c.requires.1, c.in-Some.is)
          (release_begins g.nodes s.registers s.frames s.masks c.in-Some.unwound c.next.new.self sound (counts_of s)
          c.in-Some-Release.number c.in-Some-Release.release taken.0 taken.1);
      is_local = tt;
    }
