use Rattle.std.proofs.Common.{◌∷◌, length}
use Rattle.fx_text.proofs.SequenceLaws.{JoinsLast}
use Rattle.fx_text.proofs.reader.Reader.in_order.Given as goal

abbrev pub invariant-loop-part : goal.invariant-loop-part
invariant-loop-part l = JoinsLast l.fn.self l.self l.fn.first l.fn.others.items (l.fn.first ∷ l.others.items) l.root

abbrev pub decreases-loop-part : goal.decreases-loop-part
decreases-loop-part l = length l.others.items
