-- A place in a mask stays closed, where the term there has no number of that mask.
use Rattle.std.proofs.Common.{◌≡◌, ℕ, ◌+◌, ◌≤◌, false, List, [], ◌∷◌, refl, sym, ◌∙◌, arith}
use Rattle.std.proofs.lemmas.Bool.{ne_eqb}
use Rattle.fx_term.specs.Term.{Term}
use Rattle.fx_mask.specs.Closing.{Region, Seal, without_region}
use Rattle.fx_model.specs.Path.{Context, closed_along, is_open}
use Rattle.fx_model.proofs.Alike.{Alike}
use Rattle.fx_model.proofs.AlikePaths.{closed_alike, stays_closed}
use Rattle.fx_laws.specs.Everywhere.{placed}
use Rattle.fx_laws.proofs.Placed.{open_placed}

kept : (q r : ℕ) → q + 1 ≤ r → without_region r (Region q ∷ []) ≡ Region q ∷ []
kept q r h = rw (ne_eqb q r (omega arith)) refl

module _ (low low' q : ℕ) (fs : List Context) (is : closed_along [] fs ≡ Region q ∷ []) where
  pub left_shut : {t t' : Term} → q + 1 ≤ low → Alike low low' t t' → is_open (placed fs t) ≡ false
  left_shut {t} {t'} below a =
      let shut = stays_closed low low' (Region q ∷ []) (Seal ∷ []) (λ r h. kept q r (omega arith)) (λ r h. refl) refl a in
      open_placed fs t ∙ rw is shut

  pub right_shut : {t t' : Term} → q + 1 ≤ low' → Alike low low' t t' → is_open (placed fs t') ≡ false
  right_shut {t} {t'} below a =
      let same = closed_alike low low' (Seal ∷ []) (Region q ∷ []) (λ r h. refl) (λ r h. kept q r (omega arith)) refl a in
      let shut = stays_closed low low' (Seal ∷ []) (Region q ∷ []) (λ r h. refl) (λ r h. kept q r (omega arith)) refl a in
      open_placed fs t' ∙ rw is (sym same ∙ shut)

-- and one in an acquire part or a release, whatever the term is
module _ (low low' : ℕ) (fs : List Context) (is : closed_along [] fs ≡ Seal ∷ []) where
  pub left_sealed : {t t' : Term} → Alike low low' t t' → is_open (placed fs t) ≡ false
  left_sealed {t} {t'} a =
      let shut = stays_closed low low' (Seal ∷ []) (Seal ∷ []) (λ r h. refl) (λ r h. refl) refl a in open_placed fs t ∙ rw is shut

  pub right_sealed : {t t' : Term} → Alike low low' t t' → is_open (placed fs t') ≡ false
  right_sealed {t} {t'} a =
      let same = closed_alike low low' (Seal ∷ []) (Seal ∷ []) (λ r h. refl) (λ r h. refl) refl a in
      let shut = stays_closed low low' (Seal ∷ []) (Seal ∷ []) (λ r h. refl) (λ r h. refl) refl a in
      open_placed fs t' ∙ rw is (sym same ∙ shut)
