use Rattle.std.proofs.Common.{◌≡◌, ◌+◌, ◌++◌, length, string_bytes}
use Rattle.fx_report.specs.Text.{names_of}
use Rattle.fx_svg.specs.Content.{rendering}
use Rattle.fx_picture.specs.Handles.{view_handles}
use Rattle.fx_picture.specs.Picture.{lanes_from}
use Rattle.fx_picture.proofs.lanes.push_lanes.Given as goal

-- what is written so far, and the other lanes, are all
abbrev pub invariant-loop-fiber : goal.invariant-loop-fiber
invariant-loop-fiber l = record {
  lanes : l.lane + length l.rest ≡ length l.fibers;
  written : string_bytes l.text ++ rendering (lanes_from (names_of l.queues) l.rows (view_handles l.handles) l.blocked l.lane l.rest)
      ≡ string_bytes l.fn.text ++ rendering (lanes_from (names_of l.queues) l.rows (view_handles l.handles) l.blocked 0 l.fibers);
}

abbrev pub decreases-loop-fiber : goal.decreases-loop-fiber
decreases-loop-fiber l = length l.rest
