-- The status after a search of a script's runs.
use Rattle.std.specs.Prelude.{ℕ, Bool, List, if◌then◌else◌}
use Rattle.std.specs.List.{list_any}
use Rattle.fx_search.specs.declared.ending.Ending.{Ending}
use Rattle.fx_search.specs.declared.ending.Ending.TheVariants.{Exhausted, Limit, Memory}
use Rattle.fx_report.specs.declared.status.TheConstants.{ENDED, BLOCKED}
use Rattle.fx_findings.specs.declared.status.TheConstants.{INCOMPLETE}
use Rattle.fx_findings.specs.declared.explored.Finding.{Finding}
use Rattle.fx_findings.specs.declared.explored.Explored.{Explored}
use Rattle.fx_findings.specs.Explored.{view_told, is_blocked}

-- a fiber is blocked in one of the findings
abbrev pub has_blocked : List Finding → Bool
has_blocked findings = list_any (λ (x : Finding). is_blocked (view_told x.told)) findings

-- where none is, by how the search ended
abbrev pub ending_status : Ending → ℕ
ending_status Exhausted = ENDED
ending_status Limit = INCOMPLETE
ending_status Memory = INCOMPLETE

-- what was found blocked is so however the search ended
abbrev pub explored_status : Explored → ℕ
explored_status e = if has_blocked e.findings.items then BLOCKED else ending_status e.ending
