use Rattle.fx_text.proofs.GroupLaws.{no_name}
use Rattle.fx_text.proofs.reader.Reader.named.Goals as goal

pub returns-then-room-eq0-clause-read : goal.returns-then-room-eq0-clause-read
returns-then-room-eq0-clause-read c = no_name _ _ _ _ c.if-room-eq0.true c.too_deep.ensures
