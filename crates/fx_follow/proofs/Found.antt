-- What is found is known to be so.
use Rattle.std.proofs.Common.{◌≡◌, Option, Some, None, sym, subst}
use Rattle.std.specs.Prelude.{IfSome}

-- what is so of a value is so of what is found, if that is the value
pub found_keeps : {A : Type 0} (P : A → Type 0) (r : Option A) (x : A) → IfSome r (λ y. y ≡ x) → P x → IfSome r P
found_keeps P None x same h = tt
found_keeps P (Some y) x same h = subst P (sym same) h
