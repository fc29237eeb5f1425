use Rattle.fx_text.proofs.MadeLaws.{guarantee_makes}
use Rattle.fx_text.proofs.reader.Reader.guarantee_node.Goals as goal

pub returns : goal.returns
returns c = guarantee_makes c.args.self.now c.add.new.self c.add-2.new.self c.in_ok-zero.zero c.args.used c.args.finalizer c.add-2.result c.requires
    c.in_ok-zero.ensures c.add-2.ensures
