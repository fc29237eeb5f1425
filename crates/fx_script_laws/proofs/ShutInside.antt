-- Two terms inside of masks that they do not open, in two fibers that entered unlike many.
use Rattle.std.proofs.Common.{◌≡◌, ℕ, Bool, true, false, List, [], ◌∷◌, ◌++◌, refl, sym, ◌∙◌, ap, subst, arith}
use Rattle.fx_term.specs.declared.done.Done.{Done}
use Rattle.fx_term.specs.Term.{Term, Finished}
use Rattle.fx_mask.specs.Closing.{Closing, without_region, is_none_closed}
use Rattle.fx_model.specs.Path.{Context, closed_along, closed_regions, leaf, is_open}
use Rattle.fx_model.specs.Row.{Counts, Label, Row}
use Rattle.fx_model.specs.Step.{Progress, Step, has_ended}
use Rattle.fx_model.specs.Run.{Leads, shown}
use Rattle.fx_model.specs.Outside.{Outside, can_step, leaf_can_step}
use Rattle.fx_model.proofs.AlikeRows.{with_masks}
use Rattle.fx_model.proofs.ShownRuns.{closed_must}
use Rattle.fx_laws.specs.Everywhere.{placed, Place, InTerm, InCleanup, come_to}
use Rattle.fx_laws.proofs.Placed.{placed_append, closed_append, open_placed, leaf_placed}
use Rattle.fx_laws.proofs.Shut.{ShutStep, moves_at, result_at, cleanup_is_shut, run_is_shut}
use Rattle.fx_script_laws.specs.Interchange.{CanComeTo}
use Rattle.fx_script_laws.proofs.Followed.{step_more}
use Rattle.fx_script_laws.proofs.Renumbered.{Shift, AreRegionsOf, moved, IsRenumbered}
use Rattle.fx_script_laws.proofs.Renumbered as renumbered
use Rattle.fx_script_laws.proofs.RenumberedRows.{IsRowToo, row_renumbered}
use Rattle.fx_script_laws.proofs.RenumberedRuns.{stays_closed, waits_renumbered}
use Rattle.fx_script_laws.proofs.OwnRegions.{AreNext}
use Rattle.fx_script_laws.proofs.AtClosedPlaces.{AreEndsOfStops}

-- the place is closed where the term stands there
abbrev pub IsShutWith : Place → Term → Type 0
IsShutWith (InTerm fs) t = is_open (placed fs t) ≡ false
IsShutWith (InCleanup k rest fs) t = Unit {0}

-- the place inside more contexts
abbrev pub deeper : Place → List Context → Place
deeper (InTerm fs) gs = InTerm (fs ++ gs)
deeper (InCleanup k rest fs) gs = InCleanup k rest (fs ++ gs)

pub come_deeper : (place : Place) (gs : List Context) (t : Term) → come_to (deeper place gs) t ≡ come_to place (placed gs t)
come_deeper (InTerm fs) gs t = let e = placed_append fs gs t in cc
come_deeper (InCleanup k rest fs) gs t = let e = placed_append fs gs t in cc

-- a step there is a row of the term, unless that is a result
pub shut_only : (place : Place) (c d : Counts) (l : Label) (t : Term) (q : Progress) → IsShutWith place t → Step c (come_to place t) l d q
    → ShutStep (come_to place) c t l d q
shut_only (InTerm fs) c d l t q shut s = (run_is_shut fs).only c d l t q shut s
shut_only (InCleanup k rest fs) c d l t q shut s = (cleanup_is_shut k fs rest).only c d l t q tt s

pub shut_does : (place : Place) (c d : Counts) (l : Label) (t u : Term) → IsShutWith place t → Row true c t l d u
    → Step c (come_to place t) l d (come_to place u)
shut_does (InTerm fs) c d l t u shut r = (run_is_shut fs).does c d l t u shut r
shut_does (InCleanup k rest fs) c d l t u shut r = (cleanup_is_shut k fs rest).does c d l t u tt r

-- it can step where the leaf can
pub shut_can : (place : Place) (t : Term) → IsShutWith place t → (o : Outside) (f : ℕ) (c : Counts)
    → can_step o f c (come_to place t) ≡ leaf_can_step o (leaf t)
shut_can (InTerm fs) t shut o f c =
    let e = leaf_placed fs t in
    let g = closed_must c.known (placed fs t) shut in
    let h : can_step o f c (come_to (InTerm fs) t) ≡ leaf_can_step o (leaf (placed fs t)) = rw (g, shut) refl in
    h ∙ ap (leaf_can_step o) e
shut_can (InCleanup k rest fs) t shut o f c = ap (leaf_can_step o) (leaf_placed fs t)

pub goes_on : (place : Place) (t : Term) → has_ended (come_to place t) ≡ false
goes_on (InTerm fs) t = refl
goes_on (InCleanup k rest fs) t = refl

module _ {Ends : Counts → Progress → Type 0} (ends : AreEndsOfStops Ends) (m : Shift) (place place' : Place)
    (shut : (x x' : Term) → IsRenumbered m x x' → IsShutWith place x × IsShutWith place' x')
    (results : (w : Done) (o : ℕ) (c : Counts) → AreNext m c.masks o → (ls : List Label) (d : Counts) (q : Progress)
    → Leads c (come_to place (Finished w)) ls d q → Ends d q → CanComeTo Ends (with_masks o c) (come_to place' (Finished w)) (shown ls)) where
  next_row : {o : ℕ} {k : Bool} {c d : Counts} {t' u : Term} {l : Label} → AreNext m c.masks o → (r : IsRowToo m k o c t' l d u) → AreNext m d.masks r.masks
  next_row n r =
      let a = n.above in
      let b = n.above' in
      let x = n.from in
      let y = n.from' in
      let e = n.shift in
      let f = r.more in
      let g = r.entered in
      record { others = n.others; above = omega arith; above' = omega arith; from = omega arith; from' = omega arith; shift = omega arith }

  result_is : (w : Done) (x' : Term) → IsRenumbered m (Finished w) x' → x' ≡ Finished w
  result_is w x' renumbered.finished = refl

  -- as long as the terms run, both make the same rows
  pub shut_come : (ls : List Label) (o : ℕ) (c d : Counts) (q : Progress) (x x' : Term) → AreNext m c.masks o → IsRenumbered m x x'
      → Leads c (come_to place x) ls d q → Ends d q → CanComeTo Ends (with_masks o c) (come_to place' x') (shown ls)
  shut_come [] o c d q x x' next same h e =
      let s = shut x x' same in
      record {
        labels = [];
        counts = with_masks o c;
        progress = come_to place' x';
        run = (refl, refl);
        shown_is = refl;
        ends = ends.kept c (with_masks o c) (come_to place x) (come_to place' x')
            (λ y f. shut_can place x s.0 y f c ∙ waits_renumbered m y same ∙ sym (shut_can place' x' s.1 y f (with_masks o c)))
            (goes_on place x ∙ sym (goes_on place' x')) (rw (h.0, h.1) at e);
      }
  shut_come (l ∷ ls) o c d q x x' next same h e =
      by_step (shut_only place c h.0 l x h.1 (shut x x' same).0 h.2) refl h.3 h (λ o' c' y y' n s k. shut_come ls o' c' d q y y' n s k e)
    where
      by_step : {y : Term} {p : Progress} {b : Counts} {l : Label} → ShutStep (come_to place) c y l b p → y ≡ x → Leads b p ls d q
          → Leads c (come_to place x) (l ∷ ls) d q
          → ((o' : ℕ) (c' : Counts) (z z' : Term) → AreNext m c'.masks o' → IsRenumbered m z z' → Leads c' (come_to place z) ls d q
          → CanComeTo Ends (with_masks o' c') (come_to place' z') (shown ls)) → CanComeTo Ends (with_masks o c) (come_to place' x') (shown (l ∷ ls))
      by_step (moves_at {u = u} {l = l} {d = b} r) is rest whole more =
          let f = row_renumbered m o (subst (λ (z : Term). Row true c z l b u) is r) same
          (λ g. moved next.others next.above next.above' next.from next.from' next.shift) in
          step_more ls (shut_does place' (with_masks o c) (with_masks f.masks b) l x' f.term (shut x x' same).1 f.row)
          (more f.masks b u f.term (next_row next f) f.same rest)
      by_step {l = l} (result_at {w = w}) is rest whole more =
          let is' : x' ≡ Finished w = result_is w x' (subst (λ (z : Term). IsRenumbered m z x') (sym is) same) in
          let long : Leads c (come_to place (Finished w)) (l ∷ ls) d q = subst (λ (z : Term). Leads c (come_to place z) (l ∷ ls) d q) (sym is) whole in
          rw is' (results w o c next (l ∷ ls) d q long e)

-- inside of what closes both, of which no region is taken away
module _ (m : Shift) (place : Place) (gs hs : List Context)
    (closed : (cs : List Closing) → (is_none_closed (closed_along cs gs) ≡ false) × (is_none_closed (closed_along cs hs) ≡ false))
    (stay : (cs : List Closing) (r r' : ℕ) → AreRegionsOf m r r'
    → (without_region r (closed_along cs gs) ≡ closed_along cs gs) × (without_region r' (closed_along cs hs) ≡ closed_along cs hs)) where
  open_deeper : (fs es : List Context) (x : Term) → is_open (placed (fs ++ es) x) ≡ is_none_closed (closed_regions (closed_along (closed_along [] fs) es) x)
  open_deeper fs es x = open_placed (fs ++ es) x ∙ ap (λ (cs : List Closing). is_none_closed (closed_regions cs x)) (closed_append [] fs es)

  pub shut_deeper : (x x' : Term) → IsRenumbered m x x' → IsShutWith (deeper place gs) x × IsShutWith (deeper place hs) x'
  shut_deeper x x' same = by_place place
    where
      by_place : (place : Place) → IsShutWith (deeper place gs) x × IsShutWith (deeper place hs) x'
      by_place (InTerm fs) =
          let cs = closed_along [] fs in
          let s = stays_closed m (closed_along cs gs) (closed_along cs hs) (stay cs) (closed cs).0 (closed cs).1 same in
          (open_deeper fs gs x ∙ s.0, open_deeper fs hs x' ∙ s.1)
      by_place (InCleanup k rest fs) = (tt, tt)
