-- An option that is mapped to something is something.
use Rattle.std.proofs.Common.{◌≡◌, Option, Some, None, option_map, refl}

-- what is mapped to something
pub record IsMapped {A B : Type 0} (f : A → B) (o : Option A) (b : B) : Type 0 where
  pub part : A
  pub was : o ≡ Some part
  pub to : Some (f part) ≡ Some b

pub mapped : {A B : Type 0} (f : A → B) (o : Option A) {b : B} → option_map f o ≡ Some b → IsMapped f o b
mapped f None e = absurd cc
mapped f (Some a) e = record { part = a; was = refl; to = e }
