use Rattle.std.proofs.Common.{refl}
use Rattle.fx_term.specs.declared.node.Arg.TheVariants.{Slot}
use Rattle.fx_term.specs.Term.{Poll, First}
use Rattle.fx_text.specs.Race.{waited}
use Rattle.fx_text.proofs.MadeLaws.{tree_leaf, tree_one, tree_two}
use Rattle.fx_text.proofs.reader.Reader.waited.Goals as goal

pub returns : goal.returns
returns c =
    let s = c.args.slots in
    let polled = tree_one _ _ _ _ _ (tree_leaf _ _ _ _ refl c.in_ok-first.ensures) _ _ (Poll (Slot s.mask) (First (Slot s.left) (Slot s.right))) _ refl
    c.in_ok-polled.ensures (λ child e. cc) in
    tree_two _ _ _ _ _ _ _ _ _ polled c.in_ok-both.ensures _ _ (waited s) _ refl c.in_ok-add.ensures (λ child e f. cc)
