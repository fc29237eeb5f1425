use Rattle.std.proofs.Common.{refl}
use Rattle.fx_term.specs.declared.node.Node.TheVariants as node
use Rattle.fx_fiber.proofs.Leaves.{leaf_is_no_cede, other_sound, other_step}
use Rattle.fx_fiber.proofs.machine.Machine.if_zero.Goals as goal

pub returns : goal.returns
returns g c =
    let part = c.requires.0 in
    let here = c.requires.1 in
    let stands = here.stands in
    record {
      sound = other_sound g.nodes c.args.self.now here.id here.value part c.args.other stands.at;
      rule = (
        leaf_is_no_cede g.nodes c.args.self.now here.id (node.If here.value part c.args.other) stands.at tt (λ e. cc),
        other_step g.nodes c.args.self.now here.id here.value part c.args.other stands.at 0 here.number stands.free refl,
      );
      is_local = tt;
    }
