use Rattle.std.proofs.Common.{◌≡◌, ◌+◌, length}
use Rattle.fx_port.specs.Rows.{EachIsOf, joined_row}
use Rattle.fx_port.proofs.passes.gather_row.Given as goal

abbrev pub invariant-gathering : goal.invariant-gathering
invariant-gathering l = record {
  own : EachIsOf l.queues l.row.items;
  theirs : EachIsOf l.queues l.others.items;
  long : length l.row.items ≡ length l.queues;
  count : length l.others.items + l._taken ≡ length l.queues;
  rest : joined_row l.row.items l.others.items ≡ joined_row l.fn.row.items l.fn.others.items;
}
