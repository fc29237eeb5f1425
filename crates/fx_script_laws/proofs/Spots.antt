-- Terms that stand at the same spot: what closes it, its clean-ups, and what the leaf waits for.
use Rattle.std.proofs.Common.{◌≡◌, true, false, List, refl, sym, ◌∙◌, ap}
use Rattle.fx_term.specs.Term.{Term}
use Rattle.fx_mask.specs.Closing.{Closing, is_none_closed}
use Rattle.fx_model.specs.Path.{Context, CleanupTerm, closed_along, closed_regions, leaf, cleanup_terms, is_canceled_form}
use Rattle.fx_model.specs.Outside.{Outside, leaf_can_step}
use Rattle.fx_laws.specs.Everywhere.{placed}
use Rattle.fx_laws.proofs.Placed.{around, closed_placed, leaf_placed, cleanups_placed}
use Rattle.fx_laws.proofs.SamePlaces.{IsSamePlace}
use Rattle.fx_script_laws.proofs.Followed.{AreSpots}

-- the same place, at which the leaf waits for the same
pub record IsSameSpot (t u : Term) : Type 0 where
  pub place : IsSamePlace t u
  pub waits : (o : Outside) → leaf_can_step o (leaf t) ≡ leaf_can_step o (leaf u)

pub same_spot : (t : Term) → IsSameSpot t t
same_spot t = record { place = record { closed = λ outer. refl; leaf_is = refl; clean = refl }; waits = λ o. refl }

pub spot_turned : {t u : Term} → IsSameSpot t u → IsSameSpot u t
spot_turned s =
    record {
      place = record { closed = λ outer. sym (s.place.closed outer); leaf_is = sym s.place.leaf_is; clean = sym s.place.clean };
      waits = λ o. sym (s.waits o);
    }

pub spot_too : {t u x : Term} → IsSameSpot t u → IsSameSpot u x → IsSameSpot t x
spot_too s r =
    record {
      place = record {
        closed = λ outer. s.place.closed outer ∙ r.place.closed outer;
        leaf_is = s.place.leaf_is ∙ r.place.leaf_is;
        clean = s.place.clean ∙ r.place.clean;
      };
      waits = λ o. s.waits o ∙ r.waits o;
    }

pub same_spots : AreSpots IsSameSpot
same_spots = record { itself = same_spot; turned = spot_turned; too = spot_too }

pub inside_spot : (gs hs : List Context) → ((outer : List Closing) → closed_along outer gs ≡ closed_along outer hs)
    → ((xs : List CleanupTerm) → around gs xs ≡ around hs xs) → (x : Term) → IsSameSpot (placed gs x) (placed hs x)
inside_spot gs hs closed clean x =
    let leaves : leaf (placed gs x) ≡ leaf (placed hs x) = leaf_placed gs x ∙ sym (leaf_placed hs x) in
    record {
      place = record {
        closed = λ outer.
            closed_placed outer gs x ∙ ap (λ (cs : List Closing). closed_regions cs x) (closed outer) ∙ sym (closed_placed outer hs x);
        leaf_is = ap is_canceled_form leaves;
        clean = cleanups_placed gs x ∙ clean (cleanup_terms x) ∙ sym (cleanups_placed hs x);
      };
      waits = λ o. ap (leaf_can_step o) leaves;
    }

-- The same spot inside of what is closed so: both are open or neither is, and where they are, the same clean-ups stand round them
pub record IsSameSpotIn (cs : List Closing) (t u : Term) : Type 0 where
  pub open_is : is_none_closed (closed_regions cs t) ≡ is_none_closed (closed_regions cs u)
  pub leaf_is : is_none_closed (closed_regions cs t) ≡ true → is_canceled_form (leaf t) ≡ is_canceled_form (leaf u)
  pub clean : is_none_closed (closed_regions cs t) ≡ true → cleanup_terms t ≡ cleanup_terms u
  pub waits : (o : Outside) → leaf_can_step o (leaf t) ≡ leaf_can_step o (leaf u)

pub spots_in : (cs : List Closing) → AreSpots (IsSameSpotIn cs)
spots_in cs =
    record {
      itself = λ t. record { open_is = refl; leaf_is = λ h. refl; clean = λ h. refl; waits = λ o. refl };
      turned = λ {t} {u} s. record {
        open_is = sym s.open_is;
        leaf_is = λ h. sym (s.leaf_is (s.open_is ∙ h));
        clean = λ h. sym (s.clean (s.open_is ∙ h));
        waits = λ o. sym (s.waits o);
      };
      too = λ {t} {u} {x} s r. record {
        open_is = s.open_is ∙ r.open_is;
        leaf_is = λ h. s.leaf_is h ∙ r.leaf_is (sym s.open_is ∙ h);
        clean = λ h. s.clean h ∙ r.clean (sym s.open_is ∙ h);
        waits = λ o. s.waits o ∙ r.waits o;
      };
    }

-- two spots that are both closed
pub shut_spot : (cs : List Closing) {t u : Term} → is_none_closed (closed_regions cs t) ≡ false → is_none_closed (closed_regions cs u) ≡ false
    → ((o : Outside) → leaf_can_step o (leaf t) ≡ leaf_can_step o (leaf u)) → IsSameSpotIn cs t u
shut_spot cs closed closed' waits = record { open_is = closed ∙ sym closed'; leaf_is = λ h. absurd cc; clean = λ h. absurd cc; waits = waits }

pub spot_within : (cs : List Closing) {t u : Term} → IsSameSpot t u → IsSameSpotIn cs t u
spot_within cs s =
    record { open_is = ap is_none_closed (s.place.closed cs); leaf_is = λ h. s.place.leaf_is; clean = λ h. s.place.clean; waits = s.waits }
