-- The line for people that says which picks of a schedule were passed over, as bytes.
use Rattle.std.specs.Prelude.{ℕ, ◌==◌, if◌then◌else◌, Option, Some, None, List, [], ◌++◌, codes, decimal}
use Rattle.fx_text.specs.declared.position.Position.{Position}
use Rattle.fx_report.specs.declared.blocked.Blocked.{Blocked}
use Rattle.fx_report.specs.Text.{line_end, number}
use Rattle.fx_report.specs.Waits.{wait_line, blocked_text}
use Rattle.fx_plain.specs.declared.passed.Why.{Why}
use Rattle.fx_plain.specs.declared.passed.Why.TheVariants.{NoFiber, NotStarted, Ended, Waits}
use Rattle.fx_plain.specs.declared.passed.PassedOver.{PassedOver}
use Rattle.fx_plain.specs.PassedPicks.{number_of}

-- why a pick of that fiber was passed over, where the script's queues have these names; of one that waits in the words for a blocked fiber
abbrev pub why_line : List (List ℕ) → ℕ → Why → List ℕ
why_line names f NoFiber = codes "the script has no fiber" ++ number f ++ line_end
why_line names f NotStarted = codes "fiber" ++ number f ++ codes " has not started" ++ line_end
why_line names f Ended = codes "fiber" ++ number f ++ codes " has ended" ++ line_end
why_line names f (Waits source) = wait_line names None (record { fiber = f; source = source })

-- how many there are, and the place of the first
abbrev pub first_words : ℕ → ℕ → List ℕ
first_words count place =
    if count == 1 then codes "fibers: 1 pick of the schedule was passed over; it is pick " ++ decimal place ++ codes ": "
    else codes "fibers: " ++ decimal count ++ codes " picks of the schedule were passed over; the first is pick " ++ decimal place ++ codes ": "

-- nothing where all picks fit
abbrev pub passed_text : List (List ℕ) → Option PassedOver → List ℕ
passed_text names None = []
passed_text names (Some told) = first_words told.count told.first.place ++ why_line names (number_of told.first.pick) told.first.why

-- what is said of a replay: that line, and then a line for each blocked fiber, where the nodes have these positions
abbrev pub replay_words : List (List ℕ) → Option PassedOver → List Position → List Blocked → List ℕ
replay_words names passed positions blocked = passed_text names passed ++ blocked_text names positions blocked
