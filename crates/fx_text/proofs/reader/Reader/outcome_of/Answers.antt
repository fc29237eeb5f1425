use Rattle.std.proofs.Common.{None, refl}
use Rattle.fx_term.specs.Term.{Let, Canceled, Never}
use Rattle.fx_text.proofs.MadeLaws.{tree_leaf, tree_two, tree_three}
use Rattle.fx_text.proofs.reader.Reader.outcome_of.Goals as goal

pub returns : goal.returns
returns c = tree_three _ _ _ _ _ _ _ _ _ (tree_leaf _ _ _ _ refl c.in_ok-succeeded.ensures) (tree_leaf _ _ _ _ refl c.in_ok-errored.ensures) _ _ _ _ _ _ _ _
    (tree_two _ _ _ _ _ _ _ _ _ (tree_leaf _ _ _ _ refl c.in_ok-canceled.ensures) (tree_leaf _ _ _ _ refl c.in_ok-never.ensures) _ _
    (Let None Canceled Never) _ refl c.in_ok-ended.ensures (λ child e f. cc)) refl c.in_ok-add.ensures (λ child e f g. cc)
