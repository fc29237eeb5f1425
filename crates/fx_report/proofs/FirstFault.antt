-- A fault that is not want of memory is the first one of its text.
use Rattle.std.proofs.Common.{◌≡◌, ◌⊎◌, Result, Ok, Err, inl, inr, ap}
use Rattle.fx_text.specs.declared.fault.TextFault.{TextFault}
use Rattle.fx_text.specs.declared.fault.TextKind.TheVariants as kind

-- memory did not run out, so what else is said of the fault holds
pub unless_memory : {P : Type 0} (f : TextFault) → (f.kind ≡ kind.Memory → ⊥) → ((f ≡ record { kind = kind.Memory; at = 0 }) ⊎ P) → P
unless_memory f ample (inl e) = absurd (ample (ap (λ (g : TextFault). g.kind) e))
unless_memory f ample (inr p) = p

-- so the text has none of the meanings that would have been answered
pub has_no_meaning : {Y : Type 0} {Says : Y → Type 0} (f : TextFault) → (f.kind ≡ kind.Memory → ⊥)
    → ((y : Y) → Says y → (f ≡ record { kind = kind.Memory; at = 0 }) ⊎ (◌≡◌ {A = Result Y TextFault} (Ok y) (Err f)))
    → (y : Y) → Says y → ⊥
has_no_meaning f ample only y says = let e = unless_memory f ample (only y says) in absurd cc
