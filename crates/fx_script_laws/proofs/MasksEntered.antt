-- Two masks that are entered at the same place, and what follows in each.
use Rattle.std.proofs.Common.{◌≡◌, ℕ, Bool, true, false, List, [], ◌∷◌, refl, sym, ◌∙◌, subst}
use Rattle.std.specs.Prelude.{◌↔◌}
use Rattle.fx_term.specs.Term.{Term, Mask, Masked, put}
use Rattle.fx_mask.specs.Closing.{Closing, is_none_closed}
use Rattle.fx_model.specs.Path.{closed_along, closed_regions, leaf}
use Rattle.fx_model.specs.Row.{Counts, Label, Silent, Row, one_more_mask}
use Rattle.fx_model.specs.Row as rule
use Rattle.fx_model.specs.Step.{Progress, Step}
use Rattle.fx_model.specs.Run.{Leads, shown}
use Rattle.fx_model.specs.Outside.{Outside, leaf_can_step}
use Rattle.fx_laws.specs.Everywhere.{placed, Place, InTerm, InCleanup, come_to}
use Rattle.fx_laws.proofs.Placed.{open_placed}
use Rattle.fx_laws.proofs.SamePlaces.{same_whole}
use Rattle.fx_laws.proofs.OnlyRows.{mask_row_placed, only_placed}
use Rattle.fx_laws.proofs.Forced.{IsForced, IsOnlyRow, runs_only, cleans_only}
use Rattle.fx_script_laws.specs.Interchange.{CanComeTo}
use Rattle.fx_script_laws.proofs.Followed.{StepThere, a_row, a_result, leaves, looks, IsPlaceOf, step_more, silent_more}
use Rattle.fx_script_laws.proofs.Spots.{IsSameSpot, same_spot}
use Rattle.fx_script_laws.proofs.FollowedPlaces.{sight_of_whole, waits_at, running_place, cleaning_place}
use Rattle.fx_script_laws.proofs.EachFollows.{spot_by}
use Rattle.fx_script_laws.proofs.OwnRegions.{HasOwnRegions, own_kept}
use Rattle.fx_script_laws.proofs.AtClosedPlaces.{AreEndsOfStops, after_silent, can_go}

two_masks : (p : ℕ) (a b : Term) → IsSameSpot (Mask p a) (Mask p b)
two_masks p a b = spot_by (λ outer. refl) refl refl (λ o. refl)

module _ {Ends : Counts → Progress → Type 0} (p : ℕ) (a b : Term) where
  module _ {at : Term → Progress} {closed : Term → Bool} {IsFree : Counts → Term → Type 0} (spot : IsPlaceOf IsSameSpot at closed IsFree Ends)
      (next : (c : Counts) → HasOwnRegions c (at (Mask p a)) → (ls : List Label)
      → CanComeTo Ends (one_more_mask c) (at (Masked c.masks (put p c.masks a))) ls
      → CanComeTo Ends (one_more_mask c) (at (Masked c.masks (put p c.masks b))) ls) where
    by_mask : (ls : List Label) (c d : Counts) (q : Progress) → HasOwnRegions c (at (Mask p a)) → Leads c (at (Mask p a)) ls d q → Ends d q
        → CanComeTo Ends c (at (Mask p b)) (shown ls)
    by_mask [] c d q own h e =
        record {
          labels = [];
          counts = c;
          progress = at (Mask p b);
          run = (refl, refl);
          shown_is = refl;
          ends = spot.same_end c (Mask p a) (Mask p b) (two_masks p a b) (rw (h.0, h.1) at e);
        }
    by_mask (l ∷ ls) c d q own h e = by_step (spot.step_there c h.0 (Mask p a) l h.1 h.2) refl h.3 (λ b' o k. by_mask ls b' d q o k e)
      where
        by_step : {t : Term} {m : Progress} {f : Counts} {l : Label} → StepThere IsSameSpot at closed IsFree c t l f m → t ≡ Mask p a → Leads f m ls d q
            → ((b' : Counts) → HasOwnRegions b' (at (Mask p a)) → Leads b' (at (Mask p a)) ls d q → CanComeTo Ends b' (at (Mask p b)) (shown ls))
            → CanComeTo Ends c (at (Mask p b)) (shown (l ∷ ls))
        by_step {t} {f = f} {l = l} (a_row {t1 = u} free r) is rest more =
            let free' : IsFree c (Mask p a) = subst (IsFree c) is free in
            let r' : Row (closed t) c (Mask p a) l f u = subst (λ (x : Term). Row (closed t) c x l f u) is r in
            let o = mask_row_placed [] p a r' in
            let go : Leads (one_more_mask c) (at (Masked c.masks (put p c.masks a))) ls d q = rw (sym o.1, sym o.2) rest in
            let here : CanComeTo Ends (one_more_mask c) (at (Masked c.masks (put p c.masks a))) (shown ls) =
            record { labels = ls; counts = d; progress = q; run = go; shown_is = refl; ends = e } in
            let step = spot.row_there c (one_more_mask c) (Mask p b) (Masked c.masks (put p c.masks b)) Silent
            (spot.same_free c (Mask p a) (Mask p b) (two_masks p a b) free') rule.mask in
            rw o.0 (silent_more step (next c own (shown ls) here))
        by_step (a_result w free result) is rest more = absurd (let g = sym is ∙ result in cc)
        by_step (leaves {l = l} {d = f} {q = m} s) is rest more =
            step_more ls (s (Mask p b) (subst (λ (x : Term). IsSameSpot x (Mask p b)) (sym is) (two_masks p a b)))
            (record { labels = ls; counts = d; progress = q; run = rest; shown_is = refl; ends = e })
        by_step {t} (looks {l = l} {d = f} s) is rest more =
            let stays : Step c (at (Mask p a)) l f (at (Mask p a)) = subst (λ (x : Term). Step c (at x) l f (at x)) is (s t (same_spot t)) in
            step_more ls (s (Mask p b) (subst (λ (x : Term). IsSameSpot x (Mask p b)) (sym is) (two_masks p a b)))
            (more f (own_kept.steps c f (at (Mask p a)) (at (Mask p a)) l own stays) (subst (λ (x : Term). Leads f (at x) ls d q) is rest))

  module _ (ends : AreEndsOfStops Ends) where
    -- where a fiber enters the one mask or the other, and comes to the same with what follows
    pub masks_entered : (place : Place) → ((c : Counts) → HasOwnRegions c (come_to place (Mask p a)) → (ls : List Label)
        → CanComeTo Ends (one_more_mask c) (come_to place (Masked c.masks (put p c.masks a))) ls
        → CanComeTo Ends (one_more_mask c) (come_to place (Masked c.masks (put p c.masks b))) ls)
        → (c : Counts) → HasOwnRegions c (come_to place (Mask p a)) → (ls : List Label) → CanComeTo Ends c (come_to place (Mask p a)) ls
        → CanComeTo Ends c (come_to place (Mask p b)) ls
    masks_entered (InTerm fs) next c own ls h =
        rw (sym h.shown_is)
        (by_mask (running_place waits_at fs (λ x y s. sight_of_whole (placed fs x) (placed fs y) (same_whole fs s.place)) ends.told) next h.labels c h.counts
        h.progress own h.run h.ends)
    masks_entered (InCleanup k xs fs) next c own ls h =
        rw (sym h.shown_is) (by_mask (cleaning_place waits_at fs k xs ends.told) next h.labels c h.counts h.progress own h.run h.ends)

-- a silent row of a term that closes its place by itself is the only step there
abbrev pub ClosesItself : Term → Type 0
ClosesItself t = (cs : List Closing) → is_none_closed (closed_regions cs t) ≡ false

leads_shut : (place : Place) {c d : Counts} {t u : Term} → IsOnlyRow c t Silent d u → ClosesItself t → IsForced c (come_to place t) Silent d (come_to place u)
leads_shut (InTerm fs) {t = t} o shut = runs_only (open_placed fs t ∙ shut (closed_along [] fs)) (only_placed fs o)
leads_shut (InCleanup k rest fs) o shut = cleans_only k rest (only_placed fs o)

pub silent_inside : {Ends : Counts → Progress → Type 0} → AreEndsOfStops Ends → (place : Place) {c d : Counts} (t u : Term) → IsOnlyRow c t Silent d u
    → ClosesItself t → ((o : Outside) → leaf_can_step o (leaf t) ≡ true) → (ls : List Label)
    → CanComeTo Ends c (come_to place t) ls ↔ CanComeTo Ends d (come_to place u) ls
silent_inside ends place {c} t u o shut steps ls = after_silent ends (leads_shut place o shut) (can_go place t steps c) ls
