use Rattle.std.proofs.Common.{◌≡◌, ◌≤◌, ◌+◌, ℕ, List, length, map, Some, slice_get}
use Rattle.fx_term.specs.declared.item.Item.{Item}
use Rattle.fx_queue.specs.Queues.{HeldPass}
use Rattle.fx_queue.specs.Told.{IsRest}
use Rattle.fx_port.specs.Rows.{EachIsOf}
use Rattle.fx_port.proofs.close.close_row.Given as goal

abbrev pub invariant-closing : goal.invariant-closing
invariant-closing g l = record {
  own : EachIsOf l.queues.items l.row.items;
  same : (q : ℕ) (s : HeldPass) → slice_get l.row.items q ≡ Some s → slice_get l.fn.row.items q ≡ Some s;
  long : length l.row.items ≡ length l.queues.items;
  as_many : length l.left.items ≡ length l.fn.row.items;
  count : length l.row.items + l._closed ≡ length l.fn.row.items;
  each : (q : ℕ) (s : HeldPass) (items : List Item) → length l.row.items ≤ q → slice_get l.fn.row.items q ≡ Some s
      → slice_get (map (λ items. items.items) l.left.items) q ≡ Some items → IsRest s.view items;
}
