use Rattle.std.proofs.Common.{◌≡◌, ◌+◌, ◌++◌, length, string_bytes}
use Rattle.fx_report.specs.Text.{names_of}
use Rattle.fx_svg.specs.Content.{rendering}
use Rattle.fx_picture.specs.Picture.{queue_lanes_from}
use Rattle.fx_picture.proofs.queues.push_queue_lanes.Given as goal

-- what is written so far, and the other lanes, are all
abbrev pub invariant-loop-queue : goal.invariant-loop-queue
invariant-loop-queue l = record {
  lanes : l.lane + length l.rest ≡ l.first + length l.queues;
  written : string_bytes l.text ++ rendering (queue_lanes_from l.rows l.lane (names_of l.rest))
      ≡ string_bytes l.fn.text ++ rendering (queue_lanes_from l.rows l.first (names_of l.queues));
}

abbrev pub decreases-loop-queue : goal.decreases-loop-queue
decreases-loop-queue l = length l.rest
