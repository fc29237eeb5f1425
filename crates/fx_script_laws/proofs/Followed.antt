-- Terms of which the one follows the other step by step, but for silent steps at one place, wherever they stand.
use Rattle.std.proofs.Common.{◌≡◌, Bool, List, [], ◌∷◌, ◌++◌, refl, sym, ◌∙◌, ap, subst}
use Rattle.fx_term.specs.declared.done.Done.{Done}
use Rattle.fx_term.specs.Term.{Term, Finished}
use Rattle.fx_model.specs.Path.{Context}
use Rattle.fx_model.specs.Row.{Counts, Label, Silent, Row}
use Rattle.fx_model.specs.Step.{Progress, Step}
use Rattle.fx_model.specs.Run.{Leads, shown}
use Rattle.fx_laws.specs.Everywhere.{placed}
use Rattle.fx_laws.proofs.Placed.{result_placed, row_placed, RowOfPlaced, moves_in, result_in, row_of_placed}
use Rattle.fx_laws.proofs.SilentRows.{LeadsSilently}
use Rattle.fx_laws.proofs.Showing.{shown_more}
use Rattle.fx_script_laws.specs.Interchange.{CanComeTo}

-- what the first term can do the second can, wherever such spots are the same
pub data IsFollowed (Spot : Term → Term → Type 0) : Term → Term → Type 0 where
  same : {t : Term} → IsFollowed Spot t t
  -- one of them makes a silent step, the only one that it has, and stays at the place
  sooner : {t t1 u : Term} → LeadsSilently t t1 → Spot t t1 → IsFollowed Spot t1 u → IsFollowed Spot t u
  later : {t u u1 : Term} → LeadsSilently u u1 → Spot u u1 → IsFollowed Spot t u1 → IsFollowed Spot t u
  -- the second makes each row of the first
  by_row : {t u : Term} → Spot t u → ((w : Done) → t ≡ Finished w → ⊥)
      → (after : (k : Bool) (c d : Counts) (l : Label) (t1 : Term) → Row k c t l d t1 → Term)
      → ((k : Bool) (c d : Counts) (l : Label) (t1 : Term) (r : Row k c t l d t1) → Row k c u l d (after k c d l t1 r))
      → ((k : Bool) (c d : Counts) (l : Label) (t1 : Term) (r : Row k c t l d t1) → IsFollowed Spot t1 (after k c d l t1 r)) → IsFollowed Spot t u
  -- one term in two lists of contexts, in which it is at the same spot
  inside : (gs hs : List Context) → ((x : Term) → Spot (placed gs x) (placed hs x))
      → ((w : Done) → IsFollowed Spot (placed gs (Finished w)) (placed hs (Finished w))) → (x : Term) → IsFollowed Spot (placed gs x) (placed hs x)

-- what is to hold of spots
pub record AreSpots (Spot : Term → Term → Type 0) : Type 0 where
  pub itself : (t : Term) → Spot t t
  pub turned : {t u : Term} → Spot t u → Spot u t
  pub too : {t u x : Term} → Spot t u → Spot u x → Spot t x

module _ {Spot : Term → Term → Type 0} (spots : AreSpots Spot) where
  pub spot_of : {t u : Term} → IsFollowed Spot t u → Spot t u
  spot_of (same {t = t}) = spots.itself t
  spot_of (sooner l s f) = spots.too s (spot_of f)
  spot_of (later l s f) = spots.too (spot_of f) (spots.turned s)
  spot_of (by_row s n a r f) = s
  spot_of (inside gs hs same_at results x) = same_at x

-- A place, as a fiber is that has come to a term there: whether it is closed, and when a row is made. Each step is a row of the term, one of a result there, or
-- the same at each term at the same spot: cancellation, or a request that is seen
module _ (Spot : Term → Term → Type 0) (at : Term → Progress) (closed : Term → Bool) (IsFree : Counts → Term → Type 0) where
  pub data StepThere (c : Counts) (t : Term) : Label → Counts → Progress → Type 0 where
    a_row : {l : Label} {d : Counts} {t1 : Term} → IsFree c t → Row (closed t) c t l d t1 → StepThere c t l d (at t1)
    a_result : {l : Label} {d : Counts} {q : Progress} (w : Done) → IsFree c t → t ≡ Finished w → StepThere c t l d q
    leaves : {l : Label} {d : Counts} {q : Progress} → ((u : Term) → Spot t u → Step c (at u) l d q) → StepThere c t l d q
    looks : {l : Label} {d : Counts} → ((u : Term) → Spot t u → Step c (at u) l d (at u)) → StepThere c t l d (at t)

  pub record IsPlaceOf (Ends : Counts → Progress → Type 0) : Type 0 where
    pub step_there : (c d : Counts) (t : Term) (l : Label) (q : Progress) → Step c (at t) l d q → StepThere c t l d q
    pub row_there : (c d : Counts) (t t1 : Term) (l : Label) → IsFree c t → Row (closed t) c t l d t1 → Step c (at t) l d (at t1)
    pub same_closed : (t u : Term) → Spot t u → closed t ≡ closed u
    pub same_free : (c : Counts) (t u : Term) → Spot t u → IsFree c t → IsFree c u
    pub same_end : (c : Counts) (t u : Term) → Spot t u → Ends c (at t) → Ends c (at u)

module _ {Ends : Counts → Progress → Type 0} where
  pub step_more : {c d : Counts} {p q : Progress} {l : Label} (ls : List Label) → Step c p l d q → CanComeTo Ends d q (shown ls)
      → CanComeTo Ends c p (shown (l ∷ ls))
  step_more {d = d} {q = q} {l = l} ls s h =
      record {
        labels = l ∷ h.labels;
        counts = h.counts;
        progress = h.progress;
        run = (d, q, s, h.run);
        shown_is = shown_more l h.labels ∙ ap (λ (ms : List Label). shown (l ∷ []) ++ ms) h.shown_is ∙ sym (shown_more l ls);
        ends = h.ends;
      }

  pub silent_more : {c d : Counts} {p q : Progress} {ms : List Label} → Step c p Silent d q → CanComeTo Ends d q ms → CanComeTo Ends c p ms
  silent_more {d = d} {q = q} s h =
      record { labels = Silent ∷ h.labels; counts = h.counts; progress = h.progress; run = (d, q, s, h.run); shown_is = h.shown_is; ends = h.ends }

module _ {Spot : Term → Term → Type 0} {at : Term → Progress} {closed : Term → Bool} {IsFree : Counts → Term → Type 0}
    {Ends : Counts → Progress → Type 0} (spots : AreSpots Spot) (spot : IsPlaceOf Spot at closed IsFree Ends) where
  abbrev Comes : List Label → Type 0
  Comes ls =
      (t u : Term) → IsFollowed Spot t u → (c d : Counts) (q : Progress) → Leads c (at t) ls d q → Ends d q → CanComeTo Ends c (at u) (shown ls)

  silently : (c : Counts) {u u1 : Term} → LeadsSilently u u1 → IsFree c u → Step c (at u) Silent c (at u1)
  silently c {u} {u1} s free = spot.row_there c c u u1 Silent free (s.there (closed u) c)

  run_itself : {c d : Counts} {p q : Progress} (ls : List Label) → Leads c p ls d q → Ends d q → CanComeTo Ends c p (shown ls)
  run_itself {d = d} {q = q} ls h e = record { labels = ls; counts = d; progress = q; run = h; shown_is = refl; ends = e }

  module _ (ls : List Label) (shorter : Comes ls) (c d : Counts) (q : Progress) (ends : Ends d q) where
    -- a row of a term in contexts is one of the term there, or follows its result
    module _ (gs hs : List Context) (l : Label) (same_at : (x : Term) → Spot (placed gs x) (placed hs x))
        (results : (w : Done) → IsFollowed Spot (placed gs (Finished w)) (placed hs (Finished w))) (e : Counts) where
      inside_comes : {x z t1 : Term} → RowOfPlaced (closed (placed gs x)) c gs z l e t1 → z ≡ x → IsFree c (placed gs x) → Leads e (at t1) ls d q
          → ((w : Done) → Finished w ≡ x → CanComeTo Ends c (at (placed hs x)) (shown (l ∷ ls))) → CanComeTo Ends c (at (placed hs x)) (shown (l ∷ ls))
      inside_comes {x} (moves_in {w = w} r) is free rest by_result =
          let s = same_at x in
          let r1 : Row (closed (placed gs x)) c x l e w = subst (λ (y : Term). Row (closed (placed gs x)) c y l e w) is r in
          let r2 : Row (closed (placed hs x)) c x l e w =
          subst (λ (k : Bool). Row k c x l e w) (spot.same_closed (placed gs x) (placed hs x) s) r1 in
          let start = spot.row_there c e (placed hs x) (placed hs w) l (spot.same_free c (placed gs x) (placed hs x) s free) (row_placed hs r2) in
          step_more ls start (shorter (placed gs w) (placed hs w) (inside gs hs same_at results w) e d q rest ends)
      inside_comes (result_in {w = w}) is free rest by_result = by_result w is

    -- the first step is a row of the term
    row_comes : {t u t1 : Term} {l : Label} {e : Counts} → IsFollowed Spot t u → IsFree c t → Row (closed t) c t l e t1 → Leads e (at t1) ls d q
        → CanComeTo Ends c (at u) (shown (l ∷ ls))
    row_comes {t} {t1 = t1} {l = l} {e = e} same free r rest = step_more ls (spot.row_there c e t t1 l free r) (run_itself ls rest ends)
    row_comes {t} {u} {t1} {l} {e} (sooner s p f) free r rest =
        let o = s.only (closed t) c e l t1 r in
        let go : Leads c (at _) ls d q = rw (sym o.1, sym o.2) rest in
        rw o.0 (shorter _ u f c d q go ends)
    row_comes {t} {u} (later s p f) free r rest =
        silent_more (silently c s (spot.same_free c t u (spots.too (spot_of spots f) (spots.turned p)) free)) (row_comes f free r rest)
    row_comes {t} {u} {t1} {l} {e} (by_row s n after row next) free r rest =
        let k = closed t in
        let r1 : Row (closed u) c u l e (after k c e l t1 r) =
        subst (λ (b : Bool). Row b c u l e (after k c e l t1 r)) (spot.same_closed t u s) (row k c e l t1 r) in
        step_more ls (spot.row_there c e u (after k c e l t1 r) l (spot.same_free c t u s free) r1)
        (shorter t1 (after k c e l t1 r) (next k c e l t1 r) e d q rest ends)
    row_comes {t1 = t1} {l = l} {e = e} (inside gs hs same_at results x) free r rest =
        inside_comes gs hs l same_at results e (row_of_placed gs x r) refl free rest
        (λ w is. subst (λ (z : Term). IsFree c (placed gs z) → Row (closed (placed gs z)) c (placed gs z) l e t1
        → CanComeTo Ends c (at (placed hs z)) (shown (l ∷ ls))) is
        (λ free' r'. row_comes (results w) free' r' rest) free r)

    -- the term is a result
    result_comes : {t u : Term} {l : Label} → IsFollowed Spot t u → (w : Done) → IsFree c t → t ≡ Finished w → Leads c (at t) (l ∷ ls) d q
        → CanComeTo Ends c (at u) (shown (l ∷ ls))
    result_comes {l = l} same w free is run = run_itself (l ∷ ls) run ends
    result_comes (sooner s p f) w free is run = absurd (s.going w is)
    result_comes {t} {u} (later s p f) w free is run =
        silent_more (silently c s (spot.same_free c t u (spots.too (spot_of spots f) (spots.turned p)) free)) (result_comes f w free is run)
    result_comes (by_row s n after row next) w free is run = absurd (n w is)
    result_comes {l = l} (inside gs hs same_at results x) w free is run =
        let at_x : x ≡ Finished w = (result_placed gs x w (sym is)).1 in
        subst (λ (z : Term). IsFree c (placed gs z) → placed gs z ≡ Finished w → Leads c (at (placed gs z)) (l ∷ ls) d q
        → CanComeTo Ends c (at (placed hs z)) (shown (l ∷ ls))) (sym at_x)
        (λ free' is' run'. result_comes (results w) w free' is' run') free is run

  pub comes : (ls : List Label) → Comes ls
  comes [] t u f c d q run ends =
      record {
        labels = [];
        counts = c;
        progress = at u;
        run = (refl, refl);
        shown_is = refl;
        ends = spot.same_end c t u (spot_of spots f) (rw (run.0, run.1) at ends);
      }
  comes (l ∷ ls) t u f c d q run ends = by_step (spot.step_there c run.0 t l run.1 run.2) run.3 (comes ls)
    where
      by_step : {e : Counts} {m : Progress} → StepThere Spot at closed IsFree c t l e m → Leads e m ls d q → Comes ls → CanComeTo Ends c (at u) (shown (l ∷ ls))
      by_step (a_row free r) rest shorter = row_comes ls shorter c d q ends f free r rest
      by_step (a_result w free is) rest shorter = result_comes ls shorter c d q ends f w free is run
      by_step (leaves s) rest shorter = step_more ls (s u (spot_of spots f)) (run_itself ls rest ends)
      by_step {e = e} (looks s) rest shorter = step_more ls (s u (spot_of spots f)) (shorter t u f e d q rest ends)
