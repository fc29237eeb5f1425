use Rattle.fx_port.proofs.MarkBits.{enough_words, none_set, ends_at_once}
use Rattle.fx_port.proofs.marks.Marks.new.Goals as goal

pub invariant_of-result : goal.invariant_of-result
invariant_of-result c =
    let is = c.in_ok-words.ensures.items_if_clones_equal (λ y p. p) in
    (enough_words c.args.numbers _ _ is c.div_ceil.ensures, ends_at_once c.args.numbers _ _ is)

pub returns : goal.returns
returns c = none_set c.args.numbers _ _ (c.in_ok-words.ensures.items_if_clones_equal (λ y p. p))
