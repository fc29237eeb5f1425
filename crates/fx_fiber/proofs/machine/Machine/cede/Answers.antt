use Rattle.std.proofs.Common.{refl, rules}
use Rattle.fx_term.specs.declared.node.Node.TheVariants as node
use Rattle.fx_model.specs.Row.{cede}
use Rattle.fx_fiber.proofs.Leaves.{leaf_at_cede, row_at}
use Rattle.fx_fiber.proofs.machine.Machine.cede.Goals as goal

pub returns : goal.returns
returns g c =
    let stands = c.requires.1 in
    record {
      sound = search rules;
      rule = (
        leaf_at_cede g.nodes c.args.self.now c.requires.0 stands.at,
        row_at g.nodes c.args.self.now c.requires.0 node.Cede stands.at tt stands.free _ _ _ _ _ refl refl (λ k h. cede),
      );
      is_local = tt;
    }
