use Rattle.std.proofs.Common.{refl, ap, rules}
use Rattle.fx_term.specs.declared.node.Node.TheVariants as node
use Rattle.fx_term.specs.Term.{Pure}
use Rattle.fx_model.specs.Row.{pure}
use Rattle.fx_fiber.proofs.Leaves.{arg_within, levels, leaf_is_no_cede, row_at}
use Rattle.fx_fiber.proofs.machine.Machine.pure.Goals as goal

pub number_of-n-requires : goal.number_of-n-requires
number_of-n-requires g c =
    let at = c.requires.1.at in
    arg_within g.nodes c.args.self.now c.requires.0 (node.Pure c.args.value) at c.args.value
    (levels g.nodes c.args.self.now c.requires.0 (node.Pure c.args.value) at)

pub returns : goal.returns
returns g c =
    let stands = c.requires.1 in
    record {
      sound = search rules;
      rule = (
        leaf_is_no_cede g.nodes c.args.self.now c.requires.0 (node.Pure c.args.value) stands.at tt (λ e. cc),
        row_at g.nodes c.args.self.now c.requires.0 (node.Pure c.args.value) stands.at tt stands.free _ _ _ _ _ (ap Pure c.number_of-n.ensures) refl
            (λ k h. pure),
      );
      is_local = tt;
    }
