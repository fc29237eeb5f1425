-- What a part of the reader gives, seen beside what reading gives.
use Rattle.std.specs.Prelude.{◌≡◌, Result, Ok, Err}
use Rattle.fx_text.specs.declared.fault.Fault.{Fault}
use Rattle.fx_text.specs.declared.fault.ReadError.{ReadError}
use Rattle.fx_text.specs.declared.fault.ReadError.TheVariants as errors

abbrev pub Fails : {Y : Type 0} → ReadError → Result Y Fault → Type 0
Fails errors.Memory read = Unit {0}
Fails (errors.Fault f) read = read ≡ Err f

-- what a function returned, seen by view, is what reading gives, unless memory ran out
abbrev pub Gives : {X Y : Type 0} → (X → Y) → Result X ReadError → Result Y Fault → Type 0
Gives view (Ok x) read = read ≡ Ok (view x)
Gives view (Err e) read = Fails e read
