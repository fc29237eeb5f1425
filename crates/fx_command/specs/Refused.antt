-- Texts that are refused: the line tells the first fault.
use Rattle.std.specs.Prelude.{◌≡◌, Err, List, ℕ, ◌++◌, codes}
use Rattle.fx_text.specs.declared.fault.TextFault.{TextFault}
use Rattle.fx_text.specs.declared.pick.Pick.{Pick}
use Rattle.fx_text.specs.Meaning.{Meaning}
use Rattle.fx_text.specs.Reading.{reading}
use Rattle.fx_text.specs.Grammar.{IsScript}
use Rattle.fx_text.specs.Schedule.{IsSchedule, schedule_reading}
use Rattle.fx_report.specs.Refusal.{refusal_text}

-- the text is no script, and this line says so
pub record IsNoScript (line text : List ℕ) : Type 0 where
  pub none : (m : Meaning) → IsScript text m → ⊥
  pub fault : TextFault
  pub first : reading text ≡ Err fault
  pub told : line ≡ refusal_text fault

-- the line for a schedule that is refused
abbrev pub schedule_refusal_text : TextFault → List ℕ
schedule_refusal_text f = codes "schedule " ++ refusal_text f

-- the text is no schedule, and this line says so
pub record IsNoSchedule (line text : List ℕ) : Type 0 where
  pub none : (ps : List Pick) → IsSchedule text ps → ⊥
  pub fault : TextFault
  pub first : schedule_reading text ≡ Err fault
  pub told : line ≡ schedule_refusal_text fault
