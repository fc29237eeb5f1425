use Rattle.std.proofs.lemmas.Result.{on_ok_weaker}
use Rattle.fx_report.specs.Text.{names_of}
use Rattle.fx_picture.proofs.Folded.{fold_joined}
use Rattle.fx_picture.proofs.marks.push_fold.Goals as goal

pub returns : goal.returns
returns c =
    on_ok_weaker c.push_end_tag.result
    (fold_joined (names_of c.args.queues.now) c.args.stood.now c.args.lane c.args.row c.args.list.now _ _ _ _ c.in_ok-push_start_tag.ensures
    c.in_ok-push_fold_inside.ensures) c.push_end_tag.ensures
