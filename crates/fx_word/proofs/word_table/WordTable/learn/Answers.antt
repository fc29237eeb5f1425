use Rattle.std.proofs.Common.{◌∙◌, ◌<◌, sym, ap, refl, arith}
use Rattle.fx_word.proofs.word_table.WordTable.learn.Goals as goal
use Rattle.fx_word.specs.StateWord.{end_kind}
use Rattle.fx_word.specs.Entry.{learning}
use Rattle.fx_word.specs.SeatView.{with_own}
use Rattle.fx_word.proofs.Peeks.{learns}

pub load-value-requires : goal.load-value-requires
load-value-requires c =
    let sized = c.args.self.now.sized in
    let lt : c.args.id < c.args.self.now.fibers = c.requires.below in (
      c.requires.words,
      rw sized.1 (omega (arith, lt)),
      rw sized.0 (learns _ _ _ c.args.seat.now.seat.me c.args.seat.now.plain.1 c.args.id c.args.kind c.requires.told),
    )

pub invariant_of-seat : goal.invariant_of-seat
invariant_of-seat c =
    let told = c.load-value.ensures.2 c.args.id c.args.kind refl c.requires.told in
    record {
      placed = rw (told.3, c.load-value.ensures.0) c.args.seat.now.placed;
      plain = (told.4 ∙ c.args.seat.now.plain.0, ap (λ v. v.spent) told.3 ∙ c.args.seat.now.plain.1);
    }

pub returns-clause-kind : goal.returns-clause-kind
returns-clause-kind c =
    let told = c.load-value.ensures.2 c.args.id c.args.kind refl c.requires.told in
    ap end_kind (c.outcome_of.ensures told.0 told.1 told.2) ∙ told.1

pub returns-clause-view : goal.returns-clause-view
returns-clause-view c =
    let told = c.load-value.ensures.2 c.args.id c.args.kind refl c.requires.told in
    told.3 ∙ ap (λ o. with_own c.args.seat.now.seat.me.0 (learning c.args.id o c.args.seat.now.seat.me.0.own)) (sym (c.outcome_of.ensures told.0 told.1 told.2))

pub returns-clause-knows : goal.returns-clause-knows
returns-clause-knows c k w =
    let told = c.load-value.ensures.2 c.args.id c.args.kind refl c.requires.told in
    c.outcome_of.ensures told.0 told.1 told.2 ∙ told.5 k w
