use Rattle.std.proofs.Common.{refl, ap, rules}
use Rattle.fx_term.specs.declared.node.Node.TheVariants as node
use Rattle.fx_term.specs.Term.{Raise}
use Rattle.fx_model.specs.Row.{raise}
use Rattle.fx_fiber.proofs.Leaves.{arg_within, levels, leaf_is_no_cede, row_at}
use Rattle.fx_fiber.proofs.machine.Machine.raise.Goals as goal

pub number_of-e-requires : goal.number_of-e-requires
number_of-e-requires g c =
    let at = c.requires.1.at in
    arg_within g.nodes c.args.self.now c.requires.0 (node.Raise c.args.error) at c.args.error
    (levels g.nodes c.args.self.now c.requires.0 (node.Raise c.args.error) at)

pub returns : goal.returns
returns g c =
    let stands = c.requires.1 in
    record {
      sound = search rules;
      rule = (
        leaf_is_no_cede g.nodes c.args.self.now c.requires.0 (node.Raise c.args.error) stands.at tt (λ e. cc),
        row_at g.nodes c.args.self.now c.requires.0 (node.Raise c.args.error) stands.at tt stands.free _ _ _ _ _ (ap Raise c.number_of-e.ensures) refl
            (λ k h. raise),
      );
      is_local = tt;
    }
