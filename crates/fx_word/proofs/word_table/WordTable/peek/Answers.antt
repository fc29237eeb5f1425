use Rattle.std.proofs.Common.{◌∙◌, ap, Some}
use Rattle.std.proofs.lemmas.Option.{none-some}
use Rattle.fx_word.specs.StateWord.{kind_in, end_kind}
use Rattle.fx_word.proofs.Peeks.{still_knows, still_knows_stamp}
use Rattle.fx_word.proofs.word_table.WordTable.peek.Goals as goal

pub returns-in-None-clause-knows : goal.returns-in-None-clause-knows
returns-in-None-clause-knows c k w =
    let told = c.in-None.ensures.told in
    absurd (none-some (end_kind k) (told.1 ∙ ap kind_in (told.3 k w)))

pub returns-in-Some-clause-knows : goal.returns-in-Some-clause-knows
returns-in-Some-clause-knows c k w =
    let told = c.in-Some.ensures.told in
    let is = c.learn-outcome.ensures.knows k (still_knows c.args.seat.now.seat.me.0 _ c.args.id told.0 k told.2 w) in
    (c.learn_stamp.result, ap (λ o. Some (o, c.learn_stamp.result)) is)

pub returns-in-Some-clause-stamp : goal.returns-in-Some-clause-stamp
returns-in-Some-clause-stamp c t w =
    let told = c.in-Some.ensures.told in
    c.learn_stamp.ensures.knows t
    (still_knows_stamp c.args.seat.now.seat.me.0 _ _ c.args.id told.0 c.learn-outcome.result t told.2 c.learn-outcome.ensures.view w)
