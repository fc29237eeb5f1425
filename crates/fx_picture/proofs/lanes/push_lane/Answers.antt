use Rattle.std.proofs.lemmas.Result.{on_ok_weaker}
use Rattle.fx_picture.proofs.Joined.{four_joined}
use Rattle.fx_picture.proofs.lanes.push_lane.Goals as goal

pub returns : goal.returns
returns c =
    on_ok_weaker c.push_foot.result
    (λ last. four_joined _ _ _ _ _ _ _ _ _ c.in_ok-push_upright.ensures c.in_ok-push_name.ensures c.in_ok-push_state.ensures last) c.push_foot.ensures
