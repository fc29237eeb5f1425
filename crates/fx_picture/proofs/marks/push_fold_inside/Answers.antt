use Rattle.std.proofs.Common.{◌≡◌, rules}
use Rattle.std.proofs.lemmas.Result.{on_ok_weaker}
use Rattle.fx_report.specs.Text.{names_of}
use Rattle.fx_picture.specs.Labels.{fold_words}
use Rattle.fx_picture.proofs.Folded.{inside_joined}
use Rattle.fx_picture.proofs.marks.push_fold_inside.Goals as goal

pub returns : goal.returns
returns c =
    let is_words : c.deref.result.now ≡ fold_words (names_of c.args.queues.now) c.args.stood.now c.args.list.now = search rules in
    on_ok_weaker c.push_count.result
    (inside_joined (names_of c.args.queues.now) c.args.stood.now c.args.lane c.args.row c.args.list.now _ _ _ _ c.deref.result.now c.lane_x.result
    c.row_y.result is_words c.lane_x.ensures c.row_y.ensures c.in_ok-push_element.ensures c.in_ok-push_box.ensures) c.push_count.ensures
