use Rattle.std.proofs.Common.{refl}
use Rattle.fx_term.specs.declared.node.Node.TheVariants as node
use Rattle.fx_fiber.proofs.Leaves.{leaf_is_no_cede, opened_entries, poll_within, poll_sound, poll_step}
use Rattle.fx_fiber.proofs.Results.{counts_same}
use Rattle.fx_fiber.proofs.machine.Machine.poll.Goals as goal

pub number_of-requires : goal.number_of-requires
number_of-requires g c = poll_within g.nodes c.args.self.now c.requires.0 c.args.name c.args.part c.requires.1.at

pub returns-clause-ok : goal.returns-clause-ok
returns-clause-ok g c =
    let stands = c.requires.1 in
    let id = c.requires.0 in
    let opened = c.open-took_off.ensures.opened in
    record {
      sound = rw c.in_default.ensures.ok (poll_sound g.nodes c.args.self.now id c.args.name c.args.part stands.at _ _ _ opened c.open-took_off.ensures.regions
          c.open-took_off.ensures.number);
      rule = (
        leaf_is_no_cede g.nodes c.args.self.now id (node.Poll c.args.name c.args.part) stands.at tt (λ e. cc),
        poll_step g.nodes c.args.self.now id c.args.name c.args.part stands.at _ _ _ opened c.number_of.ensures stands.free _ _
            (counts_same c.args.self.now _ (opened_entries _ _ _ _ opened)) (rw c.in_default.ensures.ok refl),
      );
      is_local = tt;
    }
