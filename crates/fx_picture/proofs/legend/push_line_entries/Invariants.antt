use Rattle.std.proofs.Common.{◌≡◌, ◌+◌, ◌++◌, length, map, string_bytes}
use Rattle.fx_svg.specs.Content.{rendering}
use Rattle.fx_picture.specs.Legend.{view_entry, line_entries}
use Rattle.fx_picture.proofs.legend.push_line_entries.Given as goal

-- what is written so far, and the other entries, are all
abbrev pub invariant-loop-entry : goal.invariant-loop-entry
invariant-loop-entry l = record {
  rows : l.row + length l.rest ≡ l.first + length l.entries;
  written : string_bytes l.text ++ rendering (line_entries l.row (map view_entry l.rest))
      ≡ string_bytes l.fn.text ++ rendering (line_entries l.first (map view_entry l.entries));
}

abbrev pub decreases-loop-entry : goal.decreases-loop-entry
decreases-loop-entry l = length l.rest
