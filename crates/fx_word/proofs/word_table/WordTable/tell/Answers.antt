use Rattle.std.proofs.Common.{◌∙◌, ◌<◌, sym, ap, refl, arith}
use Rattle.fx_word.proofs.word_table.WordTable.tell.Goals as goal
use Rattle.fx_word.proofs.Peeks.{tells, telling_same}

pub load-requires : goal.load-requires
load-requires c =
    let sized = c.args.self.now.sized in
    let lt : c.args.id < c.args.self.now.fibers = c.requires.below in (
      c.requires.words,
      rw sized.1 (omega (arith, lt)),
      rw sized.0 (tells _ _ _ c.args.seat.now.seat.me c.args.seat.now.plain.1 c.args.id lt),
    )

pub invariant_of-seat : goal.invariant_of-seat
invariant_of-seat c =
    let told = c.load.ensures.2 c.args.id refl in
    record {
      placed = (
        c.args.seat.now.placed.0 ∙ (sym (telling_same c.args.id told.1 c.args.seat.now.seat.me.0.own).id
            ∙ sym (ap (λ v. v.own.id) told.3)),
        rw c.load.ensures.0 c.args.seat.now.placed.1,
      );
      plain = (told.4 ∙ c.args.seat.now.plain.0, ap (λ v. v.spent) told.3 ∙ c.args.seat.now.plain.1);
    }

pub returns-clause-told : goal.returns-clause-told
returns-clause-told c =
    let told = c.load.ensures.2 c.args.id refl in
    (told.1, c.end.ensures told.0 told.1 told.2, told.3, told.5)
