use Rattle.std.proofs.Common.{◌≡◌, ◌≤◌, length, map, take, vec_capacity, vec_len}
use Rattle.fx_queue.specs.Queues.{kept_pass, given_pass}
use Rattle.fx_port.proofs.PartRows.{partly}
use Rattle.fx_port.proofs.passes.split_row.Given as goal

abbrev pub invariant-loop-place : goal.invariant-loop-place
invariant-loop-place l = record {
  row : l.row.items ≡ partly (kept_pass l.end) l.place l.fn.row.items;
  given : l.others.items ≡ map (given_pass l.end) (take l.place l.fn.row.items);
  count : vec_len l.others ≡ l.place;
  room : length l.queues ≤ vec_capacity l.others;
}
