-- Texts that are refused, and not for want of memory.
use Rattle.std.proofs.Common.{◌≡◌, ◌⊎◌, ℕ, Result, Ok, Err, List}
use Rattle.fx_text.specs.declared.fault.TextFault.{TextFault}
use Rattle.fx_text.specs.declared.fault.TextKind.TheVariants as kind
use Rattle.fx_text.specs.declared.pick.Pick.{Pick}
use Rattle.fx_text.specs.Meaning.{Meaning}
use Rattle.fx_text.specs.Reading.{reading}
use Rattle.fx_text.specs.Grammar.{IsScript}
use Rattle.fx_text.specs.Schedule.{IsSchedule, schedule_reading}
use Rattle.fx_report.specs.Refusal.{refusal_text}
use Rattle.fx_report.proofs.FirstFault.{unless_memory, has_no_meaning}
use Rattle.fx_command.specs.Refused.{IsNoScript, schedule_refusal_text, IsNoSchedule}

pub no_script : (text line : List ℕ) (f : TextFault) → (f.kind ≡ kind.Memory → ⊥)
    → ((m : Meaning) → IsScript text m → (f ≡ record { kind = kind.Memory; at = 0 }) ⊎ (◌≡◌ {A = Result Meaning TextFault} (Ok m) (Err f)))
    → ((f ≡ record { kind = kind.Memory; at = 0 }) ⊎ (reading text ≡ Err f)) → line ≡ refusal_text f → IsNoScript line text
no_script text line f ample only read told =
    record { none = has_no_meaning f ample only; fault = f; first = unless_memory f ample read; told = told }

pub no_schedule : (text line : List ℕ) (f : TextFault) → (f.kind ≡ kind.Memory → ⊥)
    → ((ps : List Pick) → IsSchedule text ps
    → (f ≡ record { kind = kind.Memory; at = 0 }) ⊎ (◌≡◌ {A = Result (List Pick) TextFault} (Ok ps) (Err f)))
    → ((f ≡ record { kind = kind.Memory; at = 0 }) ⊎ (schedule_reading text ≡ Err f)) → line ≡ schedule_refusal_text f → IsNoSchedule line text
no_schedule text line f ample only read told =
    record { none = has_no_meaning f ample only; fault = f; first = unless_memory f ample read; told = told }
