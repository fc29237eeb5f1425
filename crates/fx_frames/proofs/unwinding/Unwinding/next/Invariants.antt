use Rattle.std.proofs.Common.{◌≡◌, reverse, vec_len}
use Rattle.fx_frames.specs.Frames.{cleanups_of}
use Rattle.fx_frames.proofs.unwinding.Unwinding.next.Given as goal

-- the contexts that were taken off had no clean-up
abbrev pub invariant-loop-frame : goal.invariant-loop-frame
invariant-loop-frame l = cleanups_of (reverse l.self-inside.items.items) ≡ l.fn.self

abbrev pub decreases-loop-frame : goal.decreases-loop-frame
decreases-loop-frame l = vec_len l.self-inside.items
