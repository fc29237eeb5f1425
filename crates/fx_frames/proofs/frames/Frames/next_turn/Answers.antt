use Rattle.std.proofs.Common.{◌∙◌, ◌+◌}
use Rattle.fx_frames.specs.declared.frame.Frame.TheVariants.{Loop}
use Rattle.fx_frames.proofs.LastFrame.{last_is, with_last}
use Rattle.fx_frames.proofs.frames.Frames.next_turn.Goals as goal

pub returns : goal.returns
returns c = λ id turn outer is.
    let xs = c.self.inside.items.items in
    let n = c.len-last.ensures ∙ c.self.inside.items.ok.0 in
    let all = c.self.view_is ∙ is in
    let new = c.next_turn.ensures id turn (c.index_mut.ensures.value ∙ last_is xs (Loop id turn) outer all _ _ n) in
    rw new (with_last xs (Loop id turn) outer all _ (Loop id (turn + 1)) n)
