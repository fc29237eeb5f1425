use Rattle.fx_word.proofs.word_table.WordTable.close.Goals as goal
use Rattle.fx_word.proofs.Joins.{closes, closes_once}

pub returns-clause-settled : goal.returns-clause-settled
returns-clause-settled c = closes _ _ c.args.seat.seat.me.0 _ _ c.args.seat.plain.1 c.requires.whole c.close_with.ensures.values.2

pub returns-clause-once : goal.returns-clause-once
returns-clause-once c = closes_once _ _ c.args.seat.seat.me.0 _ _ c.args.seat.plain.1 c.requires.whole c.close_with.ensures.values.2
