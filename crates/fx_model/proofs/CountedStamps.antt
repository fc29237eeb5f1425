-- The stamps of the examples are those of the definition.
use Rattle.std.proofs.Common.{◌≡◌, ℕ, max, refl}
use Rattle.fx_model.specs.Stamps.{HasNoCause, one_more}
use Rattle.fx_term.specs.declared.stamped.Stamped.{Stamped}
use Rattle.fx_model.specs.KeptStamps.{IsNext}
use Rattle.fx_model.specs.CountedStamps.{AreRowsOfACancel, AreRowsOfARace}

-- an event that has no cause but those before it in its fiber, and one that has one
alone : {before cause : ℕ} {x : Stamped} → x.stamp ≡ one_more (max before cause) → cause ≡ 0 → IsNext before x cause
alone e z = record { is = e; none = λ h. z }

caused : {before cause : ℕ} {x : Stamped} → x.stamp ≡ one_more (max before cause) → (HasNoCause x.event → ⊥) → IsNext before x cause
caused e none = record { is = e; none = λ h. absurd (none h) }

pub cancel_kept : AreRowsOfACancel
cancel_kept = (
  (alone refl refl, (alone refl refl, (caused refl (λ h. h), (alone refl refl, tt)))),
  (caused refl (λ h. h), (alone refl refl, (alone refl refl, tt))),
)

pub race_kept : AreRowsOfARace
race_kept = (
  (alone refl refl, (alone refl refl, (caused refl (λ h. h), (caused refl (λ h. h), (alone refl refl, (caused refl (λ h. h), (alone refl refl, tt))))))),
  (caused refl (λ h. h), (alone refl refl, (alone refl refl, tt))),
  (alone refl refl, tt),
)
