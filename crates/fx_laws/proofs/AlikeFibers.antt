-- Fibers of which the one has entered more regions than the other, with terms that are alike.
use Rattle.std.proofs.Common.{◌≡◌, ℕ, Bool, refl, sym, ap, subst}
use Rattle.fx_term.specs.declared.done.Done.{Done}
use Rattle.fx_term.specs.Term.{Term, Finished}
use Rattle.fx_model.specs.Row.{Counts, Label, known_canceled, Row}
use Rattle.fx_model.specs.Step.{Progress}
use Rattle.fx_model.proofs.Alike.{IsSameRegion, Alike, finished}
use Rattle.fx_model.proofs.AlikeRows.{with_masks, row_alike}
use Rattle.fx_laws.proofs.Views.{View}
use Rattle.fx_laws.proofs.Inside.{RowIsFollowed}
use Rattle.fx_laws.proofs.Forced.{AreMatched}
use Rattle.fx_laws.proofs.Shut.{IsShut, shut_matched}

-- the counts are the same but for the regions
pub record AreShifted (low low' : ℕ) (c c' : Counts) : Type 0 where
  pub is : c' ≡ with_masks c'.masks c
  pub region : IsSameRegion low low' c.masks c'.masks

pub shifted_back : {low low' : ℕ} {c c' : Counts} → AreShifted low low' c c' → AreShifted low' low c' c
shifted_back {low} {low'} {c} {c'} s =
    record {
      is = sym (ap (with_masks c.masks) s.is);
      region = record { from = s.region.from'; from' = s.region.from; shift = sym s.region.shift };
    }

pub shifted_known : {low low' : ℕ} (c c' : Counts) → AreShifted low low' c c' → AreShifted low low' (known_canceled c) (known_canceled c')
shifted_known c c' s = record { is = ap known_canceled s.is; region = s.region }

pub alike_results : (low low' : ℕ) (w : Done) (t' : Term) → Alike low low' (Finished w) t' → t' ≡ Finished w
alike_results low low' w t' finished = refl

module _ (v : View) (low low' : ℕ) where
  pub alike_rows : (k : Bool) (c c' d : Counts) (l : Label) (t t' u : Term) → AreShifted low low' c c' → Alike low low' t t' → Row k c t l d u
      → RowIsFollowed v (AreShifted low low') (Alike low low') k c' t' l d u
  alike_rows k c c' d l t t' u near same r =
      let f = row_alike low low' r same near.region in
      record {
        label = l;
        counts = with_masks f.masks d;
        term = f.term;
        row = subst (λ (e : Counts). Row k e t' l (with_masks f.masks d) f.term) (sym near.is) f.row;
        seen_is = refl;
        near = record { is = refl; region = f.entered };
        same = f.is_alike;
      }

-- a term that is alike with itself runs in two places where nothing is canceled
module _ (v : View) (low low' : ℕ) (at at' : Term → Progress) (Fits Fits' : Term → Type 0) (shut : IsShut at Fits) (shut' : IsShut at' Fits')
    (fits : (t t' : Term) → Alike low low' t t' → Fits t × Fits' t') (fits' : (t t' : Term) → Alike low' low t t' → Fits' t × Fits t')
    (ends : (c c' : Counts) → AreShifted low low' c c' → (w : Done) → AreMatched v c (at (Finished w)) c' (at' (Finished w))) where
  pub shut_both : (c c' : Counts) (t : Term) → AreShifted low low' c c' → ((n m : ℕ) → Alike n m t t) → AreMatched v c (at t) c' (at' t)
  shut_both c c' t near same = (
    shut_matched v (AreShifted low low') (Alike low low') (alike_rows v low low') (alike_results low low') at at' Fits Fits' shut shut' fits
        (λ d d' n w. (ends d d' n w).0) c c' t t near (same low low'),
    shut_matched v (AreShifted low' low) (Alike low' low) (alike_rows v low' low) (alike_results low' low) at' at Fits' Fits shut' shut fits'
        (λ d d' n w. (ends d' d (shifted_back n) w).1) c' c t t (shifted_back near) (same low' low),
  )
