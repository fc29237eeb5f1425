use Rattle.std.proofs.Common.{arith}
use Rattle.fx_word.proofs.word_table.WordTable.gather.Goals as goal
use Rattle.fx_word.proofs.Joins.{joins}

pub join_seat-requires : goal.join_seat-requires
join_seat-requires c =
    let sized = c.args.self.now.sized in
    let small = sized.3 in (
      c.requires.words.0,
      c.requires.words.1,
      c.args.other.plain.0,
      rw sized.1 (omega (arith, small)),
      rw sized.0 (joins _ _ _ c.args.seat.now.seat.me.0 c.args.other.seat.me.0 c.args.seat.now.plain.1 c.args.other.plain.1),
    )
