use Rattle.std.proofs.Common.{refl, rules, ◌∙◌, ap}
use Rattle.std.specs.Prelude.{not}
use Rattle.fx_term.specs.declared.node.Node.TheVariants as node
use Rattle.fx_model.specs.Row.{self_request}
use Rattle.fx_fiber.proofs.Leaves.{closed_at_canceled, row_at}
use Rattle.fx_fiber.proofs.machine.Machine.self_request.Goals as goal

pub returns : goal.returns
returns g c =
    let stands = c.requires.1 in
    let shut = closed_at_canceled g.nodes c.args.self.now c.requires.0 stands.at stands.free in
    record {
      sound = search rules;
      rule = row_at g.nodes c.args.self.now c.requires.0 node.Canceled stands.at tt stands.free _ _ _ _ _ refl refl (λ k h. self_request (h ∙ ap not shut));
      is_local = tt;
    }
