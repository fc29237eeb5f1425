use Rattle.std.proofs.Common.{◌∷◌, ap}
use Rattle.fx_text.proofs.SequenceLaws.{joins_none, joins_more, parts_below}
use Rattle.fx_text.proofs.reader.Reader.in_order.Goals as goal

pub loop-part-init : goal.loop-part-init
loop-part-init c = joins_none _ c.args.first _ _ c.in-Some.root c.in-Some.ensures.items c.requires.made c.requires.below

pub add-requires-clause-children : goal.add-requires-clause-children
add-requires-clause-children c = parts_below _ _ _ _ _ (c.args.first ∷ c.pop-in-loop-part.new.self.items) _ _
    (ap (λ l. c.args.first ∷ l) c.in-Some-pop.ensures.items) c.loop-part.invariant

pub loop-part-preserved : goal.loop-part-preserved
loop-part-preserved c = joins_more _ _ _ _ _ _ _ _ _ c.in_ok-root.root (ap (λ l. c.args.first ∷ l) c.in-Some-pop.ensures.items)
    c.loop-part.invariant c.in_ok-root.ensures
