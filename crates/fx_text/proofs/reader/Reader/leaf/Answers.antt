use Rattle.fx_text.proofs.HeadLaws.{leaf_ended}
use Rattle.fx_text.proofs.reader.Reader.leaf.Goals as goal

pub returns : goal.returns
returns c = λ each. leaf_ended _ _ _ _ c.requires.childless each _ c.end.ensures
