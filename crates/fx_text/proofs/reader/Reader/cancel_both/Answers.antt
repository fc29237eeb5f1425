use Rattle.std.proofs.Common.{refl}
use Rattle.fx_text.proofs.MadeLaws.{tree_leaf, tree_two}
use Rattle.fx_text.proofs.reader.Reader.cancel_both.Goals as goal

pub returns : goal.returns
returns c = tree_two _ _ _ _ _ _ _ _ _ (tree_leaf _ _ _ _ refl c.in_ok-left.ensures) (tree_leaf _ _ _ _ refl c.in_ok-right.ensures) _ _ _ _ refl
    c.in_ok-add.ensures (λ child e f. cc)
