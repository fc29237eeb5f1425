-- What is printed of a report and of a schedule, seen from a replay.
use Rattle.std.specs.Prelude.{◌≡◌, ℕ, ◌≤◌, List, if◌then◌else◌}
use Rattle.fx_text.specs.declared.pick.Pick.{Pick}
use Rattle.fx_text.specs.declared.pick.Pick.TheVariants.{Step, Cancel}
use Rattle.fx_text.specs.Limits.{most_number}
use Rattle.fx_report.specs.declared.status.TheConstants.{ENDED, BLOCKED}
use Rattle.fx_explore.specs.Told.{Told, told_text}
use Rattle.fx_findings.specs.Explored.{is_blocked}

-- the text of what is told, and the status of a blocked fiber just where one is told as blocked
pub record TellsSo (names : List (List ℕ)) (t : Told) (text : List ℕ) (status : ℕ) : Type 0 where
  pub printed : text ≡ told_text names t
  pub answered : status ≡ (if is_blocked t then BLOCKED else ENDED)

-- the number of the fiber is one that a schedule may have
abbrev pub HasSmallNumber : Pick → Type 0
HasSmallNumber (Step f) = f ≤ most_number
HasSmallNumber (Cancel f) = f ≤ most_number
