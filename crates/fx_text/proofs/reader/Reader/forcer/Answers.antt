use Rattle.fx_text.proofs.AheadLaws.{forcer_went}
use Rattle.fx_text.proofs.reader.Reader.forcer.Goals as goal

pub returns : goal.returns
returns c = forcer_went _ _ _ _ c.in_ok-zero.zero _ _ c.requires c.in_ok-zero.ensures c.in_ok-handled.ensures
