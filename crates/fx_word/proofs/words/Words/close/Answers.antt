use Rattle.std.proofs.Common.{sym, subst}
use Rattle.fx_word.specs.SeatView.{IsWhole, IsSettled, AreSplitOffOnce}
use Rattle.fx_word.specs.Words.{Seated}
use Rattle.fx_word.proofs.words.Words.close.Goals as goal

pub close-requires-clause-whole : goal.close-requires-clause-whole
close-requires-clause-whole c = subst (λ (s : Seated). IsWhole s.view) (sym c.seat.view_is) c.requires.whole

pub returns-clause-settled : goal.returns-clause-settled
returns-clause-settled c = subst (λ (s : Seated). IsSettled s.view) c.seat.view_is c.close.ensures.settled

pub returns-clause-once : goal.returns-clause-once
returns-clause-once c = subst (λ (s : Seated). AreSplitOffOnce s.view) c.seat.view_is c.close.ensures.once
