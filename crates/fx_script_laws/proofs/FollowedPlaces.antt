-- A term that follows another one does so wherever a fiber comes to them.
use Rattle.std.proofs.Common.{◌≡◌, ℕ, Bool, true, false, not, Option, List, [], ◌∷◌, refl, sym, ◌∙◌, ap, subst}
use Rattle.fx_term.specs.declared.done.Done.TheVariants.{Val, Err}
use Rattle.fx_term.specs.declared.event.Event.TheVariants as event
use Rattle.fx_term.specs.Term.{Term}
use Rattle.fx_mask.specs.Closing.{Closing, Seal, is_none_closed}
use Rattle.fx_model.specs.Path.{Context, CleanupTerm, closed_along, closed_regions, leaf, cleanup_terms, is_open, must_cancel}
use Rattle.fx_model.specs.Row.{Counts, Label, Shows, Row}
use Rattle.fx_model.specs.Step.{Progress, Runs, Unwinds, CleansUp, Step}
use Rattle.fx_model.specs.Step as step
use Rattle.fx_model.specs.Outside.{Outside, can_step, leaf_can_step}
use Rattle.fx_laws.specs.Everywhere.{placed, Place, InTerm, InCleanup, come_to}
use Rattle.fx_model.proofs.CancelledSteps.{must_is_open}
use Rattle.fx_laws.proofs.Placed.{around, open_placed, must_placed, cleanups_placed, leaf_placed, result_placed, row_placed}
use Rattle.fx_laws.proofs.Placed.{RowOfPlaced, moves_in, result_in, row_of_placed}
use Rattle.fx_laws.proofs.SamePlaces.{IsSameWhole, same_whole}
use Rattle.fx_script_laws.specs.Interchange.{Anywhere, StopsThere, CanComeTo, ComeToTheSameAt, ComeToTheSame}
use Rattle.fx_script_laws.specs.Cover.{Cover, Sealed, AreClosedBy, IsCoveredBy}
use Rattle.fx_script_laws.proofs.Followed.{IsFollowed, StepThere, a_row, a_result, leaves, looks, IsPlaceOf, comes}
use Rattle.fx_script_laws.proofs.Spots.{IsSameSpot, same_spots, IsSameSpotIn, spots_in}

-- what an end is told by
pub record AreToldByPlace (Ends : Counts → Progress → Type 0) : Type 0 where
  pub running : (c : Counts) (t u : Term) → must_cancel c.known t ≡ must_cancel c.known u → is_open t ≡ is_open u
      → ((o : Outside) → leaf_can_step o (leaf t) ≡ leaf_can_step o (leaf u)) → Ends c (Runs t) → Ends c (Runs u)
  pub cleaning : (c : Counts) (k : Option ℕ) (xs : List CleanupTerm) (t u : Term) → ((o : Outside) → leaf_can_step o (leaf t) ≡ leaf_can_step o (leaf u))
      → Ends c (CleansUp k t xs) → Ends c (CleansUp k u xs)

pub anywhere_told : AreToldByPlace Anywhere
anywhere_told = record { running = λ c t u m o w e. tt; cleaning = λ c k xs t u w e. tt }

pub stops_told : (o : Outside) (f : ℕ) (ended : Bool) → AreToldByPlace (StopsThere o f ended)
stops_told o f ended =
    record {
      running = λ c t u must opened waits e. let w = waits o in let h : can_step o f c (Runs u) ≡ can_step o f c (Runs t) = cc in (h ∙ e.0, e.1);
      cleaning = λ c k xs t u waits e. (sym (waits o) ∙ e.0, e.1);
    }

-- what cancellation and requests look at, where the place is open
pub record IsSameSight (t u : Term) : Type 0 where
  pub must : (known : Bool) → must_cancel known t ≡ must_cancel known u
  pub open_is : is_open t ≡ is_open u
  pub clean : is_open t ≡ true → cleanup_terms t ≡ cleanup_terms u

module _ {Spot : Term → Term → Type 0} (waits : (t u : Term) → Spot t u → (o : Outside) → leaf_can_step o (leaf t) ≡ leaf_can_step o (leaf u))
    (fs : List Context) where
  waits_placed : {t u : Term} → Spot t u → (o : Outside) → leaf_can_step o (leaf (placed fs t)) ≡ leaf_can_step o (leaf (placed fs u))
  waits_placed {t} {u} s o = ap (leaf_can_step o) (leaf_placed fs t) ∙ waits t u s o ∙ ap (leaf_can_step o) (sym (leaf_placed fs u))

  abbrev run_at : Term → Progress
  run_at t = Runs (placed fs t)

  abbrev closed_at_run : Term → Bool
  closed_at_run t = not (is_open (placed fs t))

  abbrev IsFreeToRun : Counts → Term → Type 0
  IsFreeToRun c t = must_cancel c.known (placed fs t) ≡ false

  row_here : {k : Bool} {c d : Counts} {l : Label} {t x y : Term} → RowOfPlaced k c fs x l d y → k ≡ closed_at_run t → x ≡ t → IsFreeToRun c t
      → StepThere Spot run_at closed_at_run IsFreeToRun c t l d (Runs y)
  row_here {k} {c} {d} {l} {t} (moves_in {w = w} r) kind is free =
      a_row free (subst (λ (b : Bool). Row b c t l d w) kind (subst (λ (z : Term). Row k c z l d w) is r))
  row_here (result_in {w = w}) kind is free = a_result w free (sym is)

  module _ (sight : (t u : Term) → Spot t u → IsSameSight (placed fs t) (placed fs u)) where
    module _ (c : Counts) (t : Term) where
      step_here : {d : Counts} {x : Term} {l : Label} {q : Progress} → Step c (Runs x) l d q → x ≡ placed fs t
          → StepThere Spot run_at closed_at_run IsFreeToRun c t l d q
      step_here {x = x} (step.cancelled must) is = leaves (λ u s. there u s)
        where
          there : (u : Term) → Spot t u → Step c (Runs (placed fs u)) (Shows event.Cancelled) c (Unwinds (cleanup_terms x))
          there u s =
              let whole = sight t u s in
              let opened : is_open (placed fs t) ≡ true = ap is_open (sym is) ∙ must_is_open c.known x must in
              let at : cleanup_terms (placed fs u) ≡ cleanup_terms x = sym (whole.clean opened) ∙ ap cleanup_terms (sym is) in
              subst (λ (xs : List CleanupTerm). Step c (Runs (placed fs u)) (Shows event.Cancelled) c (Unwinds xs)) at
              (step.cancelled (sym (whole.must c.known) ∙ ap (must_cancel c.known) (sym is) ∙ must))
      step_here {d} {x} {l} (step.seen free opened) is =
          subst (λ (z : Term). StepThere Spot run_at closed_at_run IsFreeToRun c t l d (Runs z)) (sym is)
          (looks (λ u s. let whole = sight t u s in
          step.seen (sym (whole.must c.known) ∙ ap (must_cancel c.known) (sym is) ∙ free) (sym whole.open_is ∙ ap is_open (sym is) ∙ opened)))
      step_here {d} {x} {l} (step.row {t' = y} free r) is =
          row_here (row_of_placed fs t (subst (λ (z : Term). Row (not (is_open z)) c z l d y) is r)) refl refl (ap (must_cancel c.known) (sym is) ∙ free)
      step_here (step.succeeds {n = n} free) is =
          a_result (Val n) (ap (must_cancel c.known) (sym is) ∙ free) (result_placed fs t (Val n) is).1
      step_here (step.errs {n = n} free) is =
          a_result (Err n) (ap (must_cancel c.known) (sym is) ∙ free) (result_placed fs t (Err n) is).1

    pub running_place : {Ends : Counts → Progress → Type 0} → AreToldByPlace Ends → IsPlaceOf Spot run_at closed_at_run IsFreeToRun Ends
    running_place told =
        record {
          step_there = λ c d t l q s. step_here c t s refl;
          row_there = λ c d t t1 l free r. step.row free (row_placed fs r);
          same_closed = λ t u s. ap not (sight t u s).open_is;
          same_free = λ c t u s free. sym ((sight t u s).must c.known) ∙ free;
          same_end = λ c t u s e.
              told.running c (placed fs t) (placed fs u) ((sight t u s).must c.known) (sight t u s).open_is (waits_placed s) e;
        }

  -- in a clean-up
  abbrev clean_at : Option ℕ → List CleanupTerm → Term → Progress
  clean_at k xs t = CleansUp k (placed fs t) xs

  abbrev always_closed : Term → Bool
  always_closed t = true

  abbrev IsAlwaysFree : Counts → Term → Type 0
  IsAlwaysFree c t = Unit {0}

  row_cleans : {k : Option ℕ} {xs : List CleanupTerm} {c d : Counts} {l : Label} {t x y : Term} → RowOfPlaced true c fs x l d y → x ≡ t
      → StepThere Spot (clean_at k xs) always_closed IsAlwaysFree c t l d (CleansUp k y xs)
  row_cleans {c = c} {d = d} {l = l} {t = t} (moves_in {w = w} r) is = a_row tt (subst (λ (z : Term). Row true c z l d w) is r)
  row_cleans (result_in {w = w}) is = a_result w tt (sym is)

  step_cleans : {k : Option ℕ} {xs : List CleanupTerm} {c d : Counts} {x : Term} {l : Label} {q : Progress} (t : Term) → Step c (CleansUp k x xs) l d q
      → x ≡ placed fs t → StepThere Spot (clean_at k xs) always_closed IsAlwaysFree c t l d q
  step_cleans {c = c} {d = d} {l = l} t (step.cleans {t' = y} r) is =
      row_cleans (row_of_placed fs t (subst (λ (z : Term). Row true c z l d y) is r)) refl
  step_cleans t (step.finalizer_ends {v = w}) is = a_result w tt (result_placed fs t w is).1
  step_cleans t (step.release_ends {v = w}) is = a_result w tt (result_placed fs t w is).1

  pub cleaning_place : (k : Option ℕ) (xs : List CleanupTerm) {Ends : Counts → Progress → Type 0} → AreToldByPlace Ends
      → IsPlaceOf Spot (clean_at k xs) always_closed IsAlwaysFree Ends
  cleaning_place k xs told =
      record {
        step_there = λ c d t l q s. step_cleans t s refl;
        row_there = λ c d t t1 l free r. step.cleans (row_placed fs r);
        same_closed = λ t u s. refl;
        same_free = λ c t u s free. tt;
        same_end = λ c t u s e. told.cleaning c k xs (placed fs t) (placed fs u) (waits_placed s) e;
      }

pub sight_of_whole : (t u : Term) → IsSameWhole t u → IsSameSight t u
sight_of_whole t u s = record { must = s.must; open_is = s.open_is; clean = λ h. s.clean }

pub waits_at : (t u : Term) → IsSameSpot t u → (o : Outside) → leaf_can_step o (leaf t) ≡ leaf_can_step o (leaf u)
waits_at t u s = s.waits

waits_in : (cs : List Closing) (t u : Term) → IsSameSpotIn cs t u → (o : Outside) → leaf_can_step o (leaf t) ≡ leaf_can_step o (leaf u)
waits_in cs t u s = s.waits

sight_in : (fs : List Context) (t u : Term) → IsSameSpotIn (closed_along [] fs) t u → IsSameSight (placed fs t) (placed fs u)
sight_in fs t u s =
    let cs = closed_along [] fs in
    record {
      must = λ known. must_in known (is_none_closed (closed_regions cs t)) refl;
      open_is = open_placed fs t ∙ s.open_is ∙ sym (open_placed fs u);
      clean = λ h. cleanups_placed fs t ∙ ap (around fs) (s.clean (sym (open_placed fs t) ∙ h)) ∙ sym (cleanups_placed fs u);
    }
  where
    must_in : (known b : Bool) → is_none_closed (closed_regions (closed_along [] fs) t) ≡ b → must_cancel known (placed fs t) ≡ must_cancel known (placed fs u)
    must_in known true e = let p = must_placed known fs t in let q = must_placed known fs u in let o = s.open_is in let l = s.leaf_is e in cc
    must_in known false e = let p = must_placed known fs t in let q = must_placed known fs u in let o = s.open_is in cc

module _ (Ends : Counts → Progress → Type 0) (told : AreToldByPlace Ends) where
  one_comes : (t u : Term) → IsFollowed IsSameSpot t u → (place : Place) (c : Counts) (ls : List Label) → CanComeTo Ends c (come_to place t) ls
      → CanComeTo Ends c (come_to place u) ls
  one_comes t u f (InTerm fs) c ls h =
      let at = running_place waits_at fs (λ a b s. sight_of_whole (placed fs a) (placed fs b) (same_whole fs s.place)) told in
      subst (λ (ms : List Label). CanComeTo Ends c (Runs (placed fs u)) ms) h.shown_is (comes same_spots at h.labels t u f c h.counts h.progress h.run h.ends)
  one_comes t u f (InCleanup k xs fs) c ls h =
      subst (λ (ms : List Label). CanComeTo Ends c (CleansUp k (placed fs u) xs) ms) h.shown_is
      (comes same_spots (cleaning_place waits_at fs k xs told) h.labels t u f c h.counts h.progress h.run h.ends)

  -- terms of which each follows the other come to the same
  pub both_come : (t u : Term) → IsFollowed IsSameSpot t u → IsFollowed IsSameSpot u t → ComeToTheSame Ends t u
  both_come t u f g place c ls = (one_comes t u f place c ls, one_comes u t g place c ls)

  -- inside of what is closed so
  comes_in : (fs : List Context) (t u : Term) → IsFollowed (IsSameSpotIn (closed_along [] fs)) t u → (c : Counts) (ls : List Label)
      → CanComeTo Ends c (Runs (placed fs t)) ls → CanComeTo Ends c (Runs (placed fs u)) ls
  comes_in fs t u f c ls h =
      let cs = closed_along [] fs in
      subst (λ (ms : List Label). CanComeTo Ends c (Runs (placed fs u)) ms) h.shown_is
      (comes (spots_in cs) (running_place (waits_in cs) fs (sight_in fs) told) h.labels t u f c h.counts h.progress h.run h.ends)

  cleans_in : (k : Option ℕ) (xs : List CleanupTerm) (fs : List Context) (cs : List Closing) (t u : Term) → IsFollowed (IsSameSpotIn cs) t u → (c : Counts)
      (ls : List Label) → CanComeTo Ends c (CleansUp k (placed fs t) xs) ls → CanComeTo Ends c (CleansUp k (placed fs u) xs) ls
  cleans_in k xs fs cs t u f c ls h =
      subst (λ (ms : List Label). CanComeTo Ends c (CleansUp k (placed fs u) xs) ms) h.shown_is
      (comes (spots_in cs) (cleaning_place (waits_in cs) fs k xs told) h.labels t u f c h.counts h.progress h.run h.ends)

  -- at a place that is closed so each of two terms follows the other
  pub both_come_in : (s : Cover) (place : Place) → IsCoveredBy s place → (t u : Term)
      → ((cs : List Closing) → AreClosedBy s cs → IsFollowed (IsSameSpotIn cs) t u × IsFollowed (IsSameSpotIn cs) u t)
      → ((cs : List Closing) → AreClosedBy Sealed cs → IsFollowed (IsSameSpotIn cs) t u × IsFollowed (IsSameSpotIn cs) u t)
      → ComeToTheSameAt Ends place t u
  both_come_in s (InTerm fs) at t u follow sealed c ls =
      let f = follow (closed_along [] fs) at in (comes_in fs t u f.0 c ls, comes_in fs u t f.1 c ls)
  both_come_in s (InCleanup k xs fs) at t u follow sealed c ls =
      let f = sealed (Seal ∷ []) refl in (cleans_in k xs fs (Seal ∷ []) t u f.0 c ls, cleans_in k xs fs (Seal ∷ []) u t f.1 c ls)
