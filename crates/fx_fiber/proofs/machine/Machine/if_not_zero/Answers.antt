use Rattle.fx_term.specs.declared.node.Node.TheVariants as node
use Rattle.fx_fiber.proofs.Leaves.{leaf_is_no_cede, part_sound, part_step}
use Rattle.fx_fiber.proofs.machine.Machine.if_not_zero.Goals as goal

pub returns : goal.returns
returns g c =
    let n = c.requires.0 in
    let other = c.requires.1 in
    let here = c.requires.3 in
    let stands = here.stands in
    record {
      sound = part_sound g.nodes c.args.self.now here.id here.value c.args.part other stands.at;
      rule = (
        leaf_is_no_cede g.nodes c.args.self.now here.id (node.If here.value c.args.part other) stands.at tt (λ e. cc),
        part_step g.nodes c.args.self.now here.id here.value c.args.part other stands.at n here.number stands.free c.requires.2,
      );
      is_local = tt;
    }
