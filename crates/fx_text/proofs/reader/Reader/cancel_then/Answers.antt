use Rattle.std.proofs.Common.{refl}
use Rattle.fx_text.proofs.MadeLaws.{tree_leaf, tree_two}
use Rattle.fx_text.proofs.reader.Reader.cancel_then.Goals as goal

pub returns : goal.returns
returns c = tree_two _ _ _ _ _ _ _ _ _ (tree_leaf _ _ _ _ refl c.in_ok-canceled.ensures) (tree_leaf _ _ _ _ c.requires.childless c.in_ok-then.ensures)
    _ _ _ _ refl c.in_ok-add.ensures (λ child e f. cc)
