use Rattle.std.proofs.Common.{◌∙◌, length, sym, ap}
use Rattle.fx_port.proofs.MarkBits.{bits_long}
use Rattle.fx_port.proofs.marks.Marks.numbers.Goals as goal

pub returns : goal.returns
returns c = sym (bits_long c.self.inside.numbers c.self.inside.words.items) ∙ ap length c.self.view_is
