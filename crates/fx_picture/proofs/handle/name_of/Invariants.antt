use Rattle.std.proofs.Common.{◌≡◌, length}
use Rattle.fx_picture.specs.Handles.{view_handles, name_of}
use Rattle.fx_picture.proofs.handle.name_of.Given as goal

abbrev pub invariant-loop-it : goal.invariant-loop-it
invariant-loop-it l = name_of (view_handles l.rest) l.fiber ≡ name_of (view_handles l.handles) l.fiber

abbrev pub decreases-loop-it : goal.decreases-loop-it
decreases-loop-it l = length l.rest
