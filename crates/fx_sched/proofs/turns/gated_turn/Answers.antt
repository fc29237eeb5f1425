use Rattle.std.proofs.Common.{refl}
use Rattle.fx_sched.proofs.turns.gated_turn.Goals.{in-Some, in_default}
use Rattle.fx_sched.proofs.turns.gated_turn.Goals as goal

pub returns-clause-turn : goal.returns-clause-turn
returns-clause-turn g c = record {
  named = c.turn.result;
  answered = rw c.id.ensures.is at c.turn.ensures.answers;
  before = c.match-turn.fiber;
  between = c.match-turn.shared;
  requested = elim c.match-turn.branch [
    | in-Some w ↦ rw (w.in-Some.is, w.fiber-is, w.shared-is) (w.outside.ensures.told, w.outside.ensures.same)
    | in_default w ↦ rw (w.in_default.is, w.fiber-is, w.shared-is) (refl, refl)
  ];
  turns = c.one_turn.ensures.turns;
}
