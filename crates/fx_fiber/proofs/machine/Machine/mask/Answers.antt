use Rattle.std.proofs.Common.{refl}
use Rattle.fx_term.specs.declared.node.Node.TheVariants as node
use Rattle.fx_fiber.specs.Places.{IsSame}
use Rattle.fx_fiber.proofs.Leaves.{leaf_is_no_cede, mask_reaches, mask_register_stays, mask_sound, mask_step}
use Rattle.fx_fiber.proofs.Results.{on_any_error}
use Rattle.fx_fiber.proofs.machine.Machine.mask.Goals as goal

pub bind-requires : goal.bind-requires
bind-requires g c = mask_reaches g.nodes c.args.self.now c.requires.0.0 c.args.name c.args.part c.requires.0.1.at

pub returns-in_err-close_region-clause-err : goal.returns-in_err-close_region-clause-err
returns-in_err-close_region-clause-err g c =
    on_any_error {P = IsSame g.nodes c.args.self.now c.close_region.new.self} _
    (mask_register_stays g.nodes c.args.self.now c.requires.0.0 c.args.name c.args.part c.requires.0.1.at c.entries.result _
    (rw (c.in_err-close_region.ensures.err, c.in_ok-bind.ensures.ok) refl))

pub returns-clause-ok : goal.returns-clause-ok
returns-clause-ok g c =
    let stands = c.requires.0.1 in
    record {
      sound = rw (c.in_ok-close_region.ensures.ok, c.in_ok-bind.ensures.ok)
          (mask_sound g.nodes c.args.self.now c.requires.0.0 c.args.name c.args.part stands.at c.entries.result);
      rule = (
        leaf_is_no_cede g.nodes c.args.self.now c.requires.0.0 (node.Mask c.args.name c.args.part) stands.at tt (λ e. cc),
        rw (c.in_ok-close_region.ensures.ok)
            (mask_step g.nodes c.args.self.now c.requires.0.0 c.args.name c.args.part stands.at stands.free _
            (rw (c.in_ok-bind.ensures.ok, c.entries.ensures) refl)),
      );
      is_local = tt;
    }
