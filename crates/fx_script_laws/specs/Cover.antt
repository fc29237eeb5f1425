-- What closes a place of a term for certain, by the forms that stand round it.
use Rattle.std.specs.Prelude.{◌≡◌, ◌≤◌, ℕ, ◌+◌, ◌-◌, nat_lt, Bool, true, false, List, [], ◌∷◌, length}
use Rattle.fx_mask.specs.Closing.{Closing, Region, Seal}
use Rattle.fx_model.specs.Path.{closed_along}
use Rattle.fx_laws.specs.Everywhere.{Place, InTerm, InCleanup}

-- nothing at all; a seal, which nothing takes off; or so many masks at least
pub data Cover : Type 0 where
  Bare : Cover
  Sealed : Cover
  Masks : ℕ → Cover

-- nothing, as where a fiber begins
abbrev pub uncovered : Cover
uncovered = Bare

-- a mask closes the place once more, and a poll, of whichever mask, opens one at most
abbrev pub in_mask : Cover → Cover
in_mask Bare = Masks 1
in_mask Sealed = Sealed
in_mask (Masks n) = Masks (n + 1)

abbrev pub in_poll : Cover → Cover
in_poll Bare = Bare
in_poll Sealed = Sealed
in_poll (Masks n) = Masks (n - 1)

-- each place; one that nothing closes; one that is closed; one that is sealed
abbrev pub is_any : Cover → Bool
is_any s = true

abbrev pub is_bare : Cover → Bool
is_bare Bare = true
is_bare Sealed = false
is_bare (Masks n) = false

abbrev pub is_closed : Cover → Bool
is_closed Bare = false
is_closed Sealed = true
is_closed (Masks n) = nat_lt 0 n

abbrev pub is_sealed : Cover → Bool
is_sealed Bare = false
is_sealed Sealed = true
is_sealed (Masks n) = false

abbrev pub has_seal : List Closing → Bool
has_seal [] = false
has_seal (Seal ∷ cs) = true
has_seal (Region r ∷ cs) = has_seal cs

-- this is closed as the cover says
abbrev pub AreClosedBy : Cover → List Closing → Type 0
AreClosedBy Bare cs = cs ≡ []
AreClosedBy Sealed cs = has_seal cs ≡ true
AreClosedBy (Masks n) cs = n ≤ length cs

-- so is a place that a fiber has come to. In a clean-up each one is sealed
abbrev pub IsCoveredBy : Cover → Place → Type 0
IsCoveredBy s (InTerm fs) = AreClosedBy s (closed_along [] fs)
IsCoveredBy s (InCleanup k rest fs) = AreClosedBy s (closed_along (Seal ∷ []) fs)
