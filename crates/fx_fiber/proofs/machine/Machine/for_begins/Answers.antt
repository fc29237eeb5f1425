use Rattle.fx_term.specs.declared.node.Node.TheVariants as node
use Rattle.fx_fiber.proofs.Leaves.{leaf_is_no_cede}
use Rattle.fx_fiber.proofs.Loops.{begun_sound, begun_step}
use Rattle.fx_fiber.proofs.machine.Machine.for_begins.Goals as goal

pub returns : goal.returns
returns g c =
    let at = c.requires in
    record {
      sound = begun_sound g.nodes c.args.self.now c.args.id at.0 at.1 at.2 at.3.at;
      rule = (
        leaf_is_no_cede g.nodes c.args.self.now c.args.id (node.For at.0 at.1 at.2) at.3.at tt (λ e. cc),
        begun_step g.nodes c.args.self.now c.args.id at.0 at.1 at.2 at.3.at at.3.free,
      );
      is_local = tt;
    }
