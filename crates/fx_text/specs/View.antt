-- What the values of the code stand for.
use Rattle.std.specs.Prelude.{◌≡◌, ◌⊎◌, Result, Ok, Err}
use Rattle.fx_term.specs.Meaning.{root_term}
use Rattle.fx_text.specs.declared.script.Script.{Script}
use Rattle.fx_text.specs.declared.fault.TextFault.{TextFault}
use Rattle.fx_text.specs.declared.fault.TextKind.TheVariants as kind
use Rattle.fx_text.specs.QueuesView.{view_queues}
use Rattle.fx_text.specs.Reading.{Meaning}

-- what a script means
abbrev pub meaning : Script → Meaning
meaning s = record { queues = view_queues s.queues.items; term = root_term s.code.nodes }

-- the answer, seen by view, is what the text says, or its first fault; or memory ran out
abbrev pub Answers : {X Y : Type 0} → (X → Y) → Result X TextFault → Result Y TextFault → Type 0
Answers view (Ok x) read = read ≡ Ok (view x)
Answers view (Err f) read = (f ≡ record { kind = kind.Memory; at = 0 }) ⊎ (read ≡ Err f)
