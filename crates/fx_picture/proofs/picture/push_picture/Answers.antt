use Rattle.std.proofs.lemmas.Result.{on_ok_weaker}
use Rattle.fx_report.specs.Text.{names_of}
use Rattle.fx_picture.specs.Handles.{view_handles}
use Rattle.fx_picture.specs.Folds.{view_sheet}
use Rattle.fx_picture.proofs.DrawnText.{drawn_as}
use Rattle.fx_picture.proofs.picture.push_picture.Goals as goal

pub returns : goal.returns
returns c =
    on_ok_weaker c.push_drawing.result
    (drawn_as _ _ (names_of c.args.queues.now) c.args.stood.now (view_handles c.args.handles.now) c.args.blocked.now c.args.fibers.now c.args.list.now
    (view_sheet c.in_ok-sheet.sheet) c.in_ok-sheet.ensures.is)
    c.push_drawing.ensures
