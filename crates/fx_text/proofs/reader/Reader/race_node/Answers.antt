use Rattle.fx_text.proofs.MadeLaws.{race_made}
use Rattle.fx_text.proofs.reader.Reader.race_node.Goals as goal

pub returns : goal.returns
returns c = race_made _ _ _ _ _ c.args.slots c.args.left c.args.right c.in_ok-deciding.deciding c.in_ok-second.second c.in_ok-first.first _ c.requires
    c.in_ok-deciding.ensures c.in_ok-second.ensures c.in_ok-first.ensures c.in_ok-add.ensures
