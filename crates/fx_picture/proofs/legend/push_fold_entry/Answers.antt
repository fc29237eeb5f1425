use Rattle.std.proofs.lemmas.Result.{on_ok_weaker}
use Rattle.fx_picture.proofs.Folded.{entry_joined}
use Rattle.fx_picture.proofs.legend.push_fold_entry.Goals as goal

pub returns : goal.returns
returns c =
    on_ok_weaker c.push_said.result
    (entry_joined _ _ _ c.args.words.now c.args.row c.legend_y-y.result c.legend_y-y.ensures.is c.in_ok-push_fold_sample.ensures) c.push_said.ensures
