use Rattle.fx_picture.proofs.arrows.push_arrow.Goals as goal

pub returns : goal.returns
returns c =
    rw (c.class.ensures, c.place_of-begins.ensures.x, c.place_of-begins.ensures.y, c.place_of-ends.ensures.x, c.place_of-ends.ensures.y)
    at c.push_line.ensures
