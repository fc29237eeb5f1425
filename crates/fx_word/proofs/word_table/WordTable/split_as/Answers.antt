use Rattle.std.proofs.Common.{◌≡◌, arith, ◌+◌}
use Rattle.fx_word.proofs.word_table.WordTable.split_as.Goals as goal
use Rattle.fx_word.proofs.Splits.{splits}

pub split_seat-other-requires : goal.split_seat-other-requires
split_seat-other-requires g c =
    let sized = c.args.self.now.sized in
    let small = sized.3 in
    let r = c.requires.range in
    let below = c.requires.below in
    let follows : c.args.begin.now.next ≡ c.args.seat.now.seat.me.0.own.next + 1 = rw (← below.1) r.0 in (
      c.requires.words,
      rw sized.1 (omega (arith, small)),
      rw (sized.0, ← c.requires.given) (splits _ _ c.args.seat.now.seat.me.0 c.args.begin.now c.args.seat.now.plain.1 follows r.1 r.2),
    )
