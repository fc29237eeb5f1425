-- The line for a text that is refused.
use Rattle.std.specs.Prelude.{ℕ, List, ◌++◌, codes, decimal}
use Rattle.fx_text.specs.declared.fault.TextFault.{TextFault}
use Rattle.fx_text.specs.Fault.{kind_number}
use Rattle.fx_report.specs.Text.{line_end}

-- the kind of the fault by its number, and the byte that it is at
abbrev pub refusal_text : TextFault → List ℕ
refusal_text f = codes "refused " ++ decimal (kind_number f.kind) ++ codes " at " ++ decimal f.at ++ line_end
