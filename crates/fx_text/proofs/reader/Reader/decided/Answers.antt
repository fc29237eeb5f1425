use Rattle.std.proofs.Common.{refl}
use Rattle.fx_term.specs.declared.node.Arg.TheVariants.{Slot}
use Rattle.fx_term.specs.Term.{Poll, OnCancel}
use Rattle.fx_text.specs.Race.{outcome_of, cancel_both}
use Rattle.fx_text.proofs.MadeLaws.{tree_one, tree_two, tree_three}
use Rattle.fx_text.proofs.reader.Reader.decided.Goals as goal

pub returns : goal.returns
returns c =
    let s = c.args.slots in
    let inside = Poll (Slot s.mask) (outcome_of s c.args.other) in
    let polled = tree_one _ _ _ _ _ c.in_ok-outcome.ensures _ _ inside _ refl c.in_ok-polled.ensures (λ child e. cc) in
    let canceled = tree_two _ _ _ _ _ _ _ _ _ polled c.in_ok-both.ensures _ _ (OnCancel inside (cancel_both s)) _ refl
    c.in_ok-canceled.ensures (λ child e f. cc) in
    tree_three _ _ _ _ _ _ _ _ _ c.in_ok-succeeded.ensures c.in_ok-errored.ensures _ _ _ _ _ _ _ _ canceled refl c.in_ok-add.ensures (λ child e f g. cc)
