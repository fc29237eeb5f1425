-- How many workers a word asks for, and which commands their number forbids.
use Rattle.std.specs.Prelude.{ℕ, Bool, ◌<◌, ◌≤◌, ◌⊎◌, ◌&&◌, nat_lt, nat_le, if◌then◌else◌, Option, Some, None, List, length}
use Rattle.std.specs.List.{list_all}
use Rattle.fx_text.specs.Limits.{most_number}
use Rattle.fx_text.specs.Token.{is_digit, value_after}
use Rattle.fx_run.specs.Workers.{most_workers}
use Rattle.fx_run.specs.declared.run_fault.RunFault.{RunFault}
use Rattle.fx_run.specs.declared.run_fault.RunFault.TheVariants.{Workers, Memory, Lost, Unsettled}
use Rattle.fx_command.specs.declared.call.Command.{Command}
use Rattle.fx_command.specs.declared.call.Command.TheVariants.{Check, Replay, Trace, Steps, Run, Record, Picture, PictureRun, Explore, Expect}

-- the word is one or more digits, and the number that they write is none too large
abbrev pub writes_number : List ℕ → Bool
writes_number word = nat_lt 0 (length word) && list_all is_digit word && nat_le (value_after 0 word) most_number

-- that number
abbrev pub workers_in : List ℕ → Option ℕ
workers_in word = if writes_number word then Some (value_after 0 word) else None

-- a run has from 1 to as many workers as there can be, and nothing else has any
abbrev pub IsWithin : ℕ → Type 0
IsWithin n = (1 ≤ n) × (n ≤ most_workers)

abbrev pub CanBeDone : Command → Type 0
CanBeDone (Run n) = IsWithin n
CanBeDone (Record n) = IsWithin n
CanBeDone (PictureRun n) = IsWithin n
CanBeDone Check = Unit {0}
CanBeDone Replay = Unit {0}
CanBeDone Trace = Unit {0}
CanBeDone Picture = Unit {0}
CanBeDone Steps = Unit {0}
CanBeDone (Explore n) = Unit {0}
CanBeDone (Expect n) = Unit {0}

-- only a run has a fault of runs: that of the number of workers where it is outside, and any other one where it is not
abbrev pub RunCanFail : ℕ → RunFault → Type 0
RunCanFail n Workers = (n < 1) ⊎ (most_workers < n)
RunCanFail n Memory = IsWithin n
RunCanFail n (Lost f) = IsWithin n
RunCanFail n (Unsettled f) = IsWithin n

abbrev pub CanFail : Command → RunFault → Type 0
CanFail (Run n) fault = RunCanFail n fault
CanFail (Record n) fault = RunCanFail n fault
CanFail (PictureRun n) fault = RunCanFail n fault
CanFail Check fault = ⊥
CanFail Replay fault = ⊥
CanFail Trace fault = ⊥
CanFail Picture fault = ⊥
CanFail Steps fault = ⊥
CanFail (Explore n) fault = ⊥
CanFail (Expect n) fault = ⊥
