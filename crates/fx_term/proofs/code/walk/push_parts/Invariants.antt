-- The parts from here on are pushed.
use Rattle.fx_term.proofs.PendingLaws.{FromPushed}
use Rattle.fx_term.proofs.code.walk.push_parts.Given as goal

abbrev pub invariant-loop-index : goal.invariant-loop-index
invariant-loop-index l = FromPushed l.path l.parent l.parts l.index l.initial.stack.items l.stack.items
