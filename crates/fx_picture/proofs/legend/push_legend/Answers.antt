use Rattle.std.proofs.lemmas.Result.{on_ok_weaker}
use Rattle.fx_picture.proofs.Joined.{joined}
use Rattle.fx_picture.proofs.legend.push_legend.Goals as goal

pub returns : goal.returns
returns c =
    on_ok_weaker c.push_end_tag.result
    (λ last. joined _ _ _ _ _ _ _ _ _ _ _ _ _ c.in_ok-push_start_tag.ensures c.in_ok-push_marks_of_fibers.ensures c.in_ok-push_marks_of_queues.ensures
    c.in_ok-push_lines.ensures c.in_ok-push_counted.ensures last) c.push_end_tag.ensures
