use Rattle.std.proofs.Common.{◌∙◌, ◌<◌, ap, refl, arith}
use Rattle.fx_word.proofs.word_table.WordTable.learn_stamp.Goals as goal
use Rattle.fx_word.proofs.Peeks.{learns_stamp}

pub load-requires : goal.load-requires
load-requires c =
    let sized = c.args.self.now.sized in
    let lt : c.args.id < c.args.self.now.fibers = c.requires.below in (
      c.requires.words,
      rw sized.1 (omega (arith, lt)),
      rw sized.0 (learns_stamp _ _ _ c.args.seat.now.seat.me c.args.seat.now.plain.1 c.args.id c.args.kind c.requires.told),
    )

pub invariant_of-seat : goal.invariant_of-seat
invariant_of-seat c =
    let told = c.load.ensures.2 c.args.id refl in
    record {
      placed = rw (told.0, c.load.ensures.0) c.args.seat.now.placed;
      plain = (told.1 ∙ c.args.seat.now.plain.0, ap (λ v. v.spent) told.0 ∙ c.args.seat.now.plain.1);
    }

pub returns-clause-view : goal.returns-clause-view
returns-clause-view c = (c.load.ensures.2 c.args.id refl).0

pub returns-clause-knows : goal.returns-clause-knows
returns-clause-knows c = (c.load.ensures.2 c.args.id refl).2
