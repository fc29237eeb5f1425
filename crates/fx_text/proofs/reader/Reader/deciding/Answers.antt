use Rattle.std.proofs.Common.{refl}
use Rattle.fx_term.specs.declared.node.Arg.TheVariants.{Slot}
use Rattle.fx_term.specs.Term.{If}
use Rattle.fx_text.specs.Race.{decided}
use Rattle.fx_text.proofs.MadeLaws.{tree_two}
use Rattle.fx_text.proofs.reader.Reader.deciding.Goals as goal

pub returns : goal.returns
returns c =
    let s = c.args.slots in
    let chosen = tree_two _ _ _ _ _ _ _ _ _ c.in_ok-right.ensures c.in_ok-left.ensures _ _
    (If (Slot s.ended) (decided s s.right s.left) (decided s s.left s.right)) _ refl c.in_ok-chosen.ensures (λ child e f. cc) in
    tree_two _ _ _ _ _ _ _ _ _ c.in_ok-waited.ensures chosen _ _ _ _ refl c.in_ok-add.ensures (λ child e f. cc)
