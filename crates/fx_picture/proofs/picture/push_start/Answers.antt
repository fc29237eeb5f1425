use Rattle.fx_picture.proofs.picture.push_start.Goals as goal

pub returns : goal.returns
returns c = rw (c.lane_x.ensures, c.height.ensures) at c.push_start_tag.ensures
