-- Each acquired resource is released once, inner before outer.
use Rattle.std.specs.Prelude.{ℕ, nat_eq, Option, Some, None, List, [], ◌∷◌, ◌++◌}
use Rattle.std.specs.List.{IsDistinct, filter_map}
use Rattle.fx_term.specs.declared.event.Event.{Event}
use Rattle.fx_term.specs.declared.event.Event.TheVariants as event

-- an event that is no part of a resource's life
abbrev pub IsOfNoResource : Event → Type 0
IsOfNoResource (event.Acquired k) = ⊥
IsOfNoResource (event.Begin k) = ⊥
IsOfNoResource (event.End k) = ⊥
IsOfNoResource _ = Unit {0}

-- nothing; another event; a resource that is acquired, and whose release begins and ends; or one such list after another
pub data IsNested : List Event → Type 0 where
  nothing : IsNested []
  other : {e : Event} → IsOfNoResource e → IsNested (e ∷ [])
  resource : {k : ℕ} {w x : List Event} → IsNested w → IsNested x → IsNested (event.Acquired k ∷ (w ++ event.Begin k ∷ (x ++ event.End k ∷ [])))
  appended : {w x : List Event} → IsNested w → IsNested x → IsNested (w ++ x)

abbrev pub acquired_number : Event → Option ℕ
acquired_number (event.Acquired k) = Some k
acquired_number _ = None

-- the numbers of the resources that are acquired, in the order of the events
abbrev pub acquired_numbers : List Event → List ℕ
acquired_numbers es = filter_map acquired_number es

-- nested, and no number is acquired twice
pub record IsBalanced (es : List Event) : Type 0 where
  pub nested : IsNested es
  pub once : IsDistinct nat_eq (acquired_numbers es)

-- the beginning of a balanced list
abbrev pub IsBalancedSoFar : List Event → Type 0
IsBalancedSoFar es = (rest : List Event) × IsBalanced (es ++ rest)
