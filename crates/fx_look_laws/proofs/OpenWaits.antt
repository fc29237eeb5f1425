-- Fibers at places that may be open: what waits there, in what runs or in a clean-up, waits in the other, too.
use Rattle.std.proofs.Common.{◌≡◌, ℕ, Bool, true, false, not, Option, Some, None, List, [], ◌∷◌, ◌++◌, refl, sym, ◌∙◌, ap, subst}
use Rattle.fx_term.specs.declared.done.Done.{Done}
use Rattle.fx_term.specs.declared.done.Done.TheVariants.{Val, Err}
use Rattle.fx_term.specs.declared.event.Event.TheVariants as event
use Rattle.fx_term.specs.Term.{Term, Finished}
use Rattle.fx_mask.specs.Closing.{Closing, is_none_closed}
use Rattle.fx_model.specs.Path.{Context, CleanupTerm, cleanup_terms, closed_along, closed_regions, is_open, leaf, must_cancel}
use Rattle.fx_model.specs.Row.{Counts, Label, Shows, known_canceled, Row}
use Rattle.fx_model.specs.Step.{Progress, Runs, Unwinds, CleansUp, Step, cancelled, seen, row, succeeds, errs}
use Rattle.fx_model.specs.Run.{Leads}
use Rattle.fx_model.specs.Outside.{Outside, can_step, leaf_can_step}
use Rattle.fx_model.proofs.Alike.{Alike}
use Rattle.fx_model.proofs.AlikePaths.{AreCleanupTerms, leaf_alike, cleanups_alike, closed_alike}
use Rattle.fx_model.proofs.AlikePaths as alike
use Rattle.fx_model.proofs.Paths.{result_has_no_row}
use Rattle.fx_laws.specs.Everywhere.{placed, InTerm, InCleanup}
use Rattle.fx_laws.specs.Others.{visible}
use Rattle.fx_laws.proofs.AlikeFibers.{AreShifted, shifted_known, alike_rows, alike_results}
use Rattle.fx_laws.proofs.Forced.{begins_finalizer, ends_finalizer, begins_release, ends_release}
use Rattle.fx_laws.proofs.Inside.{RowsAreFollowed, ResultsAreResults}
use Rattle.fx_laws.proofs.Looking.{looking}
use Rattle.fx_laws.proofs.Placed.{around, cleanups_placed, leaf_placed, must_placed, open_placed, result_placed, row_placed}
use Rattle.fx_laws.proofs.Placed.{RowOfPlaced, moves_in, result_in, row_of_placed}
use Rattle.fx_laws.proofs.Unwinding.{AreSameBefore, last, finalizer, release}
use Rattle.fx_script_laws.proofs.AtClosedPlaces.{can_go}
use Rattle.fx_script_laws.proofs.BesideEnds.{waits_alike}
use Rattle.fx_look_laws.proofs.Blocked.{IsBlockedAt, IsNeverBlocked, ended_never, must_never}
use Rattle.fx_look_laws.proofs.WaitsLike.{CanStop, WaitsLike, left_first, right_first, step_like, shut_waits}

module _ (o : Outside) where
  -- a result with nothing round it is never blocked
  pub result_never : (w : Done) (c : Counts) → IsNeverBlocked o c (Runs (Finished w))
  result_never w c [] d q h b =
      absurd (let can = can_go (InTerm []) (Finished w) (λ v. refl) c o 0 in
      let k : can_step o 0 c (Runs (Finished w)) ≡ false = rw (h.0, h.1) at b.unable in cc)
  result_never w c (l ∷ ls) d q h b = by_step h.2 refl h h.3
    where
      by_step : {x : Term} {l : Label} {e : Counts} {m : Progress} → Step c (Runs x) l e m → x ≡ Finished w → Leads c (Runs (Finished w)) (l ∷ ls) d q
          → Leads e m ls d q → ⊥
      by_step {l = l} (cancelled must) is all rest = must_never o c (Finished w) (ap (must_cancel c.known) (sym is) ∙ must) refl (l ∷ ls) d q all b
      by_step (seen {t = x} free at) is all rest =
          let go : Leads (known_canceled c) (Runs (Finished w)) ls d q = rw is at rest in must_never o (known_canceled c) (Finished w) refl refl ls d q go b
      by_step (row free r) is all rest = absurd (result_has_no_row r is)
      by_step {e = e} (succeeds free) is all rest = ended_never o e _ ls d q rest b
      by_step {e = e} (errs free) is all rest = ended_never o e _ ls d q rest b

  module _ (Near : Counts → Counts → Type 0) (Same : Term → Term → Type 0) (rows : RowsAreFollowed looking Near Same)
      (results : ResultsAreResults looking Near Same) (leaves : (t t' : Term) → Same t t' → leaf_can_step o (leaf t) ≡ leaf_can_step o (leaf t')) where
    cleanup_waits : (k k' : Option ℕ) (xs ys : List CleanupTerm)
        → ((c c' : Counts) → Near c c' → (w : Done) → WaitsLike o c (CleansUp k (Finished w) xs) c' (CleansUp k' (Finished w) ys))
        → (c c' : Counts) (t t' : Term) → Near c c' → Same t t' → WaitsLike o c (CleansUp k t xs) c' (CleansUp k' t' ys)
    cleanup_waits k k' xs ys ends c c' t t' near same ls d q h b =
        shut_waits o Near Same rows results leaves (InCleanup k xs []) (InCleanup k' ys []) (λ x x' s. (tt, tt)) ends ls c c' d q t t' near same h b

    -- clean-ups, each the same as that of the other fiber, and then these
    pub unwinding_waits : (us vs : List CleanupTerm) → ((c c' : Counts) → Near c c' → WaitsLike o c (Unwinds us) c' (Unwinds vs)) → {xs ys : List CleanupTerm}
        → AreSameBefore looking Same us vs xs ys → (c c' : Counts) → Near c c' → WaitsLike o c (Unwinds xs) c' (Unwinds ys)
    unwinding_waits us vs tail last c c' near = tail c c' near
    unwinding_waits us vs tail (finalizer {f = f} {f' = f'} {xs = xs} {ys = ys} s more) c c' near =
        let rest = unwinding_waits us vs tail more in
        let here = cleanup_waits None None xs ys
        (λ d d' n w. left_first o (ends_finalizer d w xs) refl refl (right_first o (ends_finalizer d' w ys).step refl (rest d d' n))) c c' f f' near s in
        left_first o (begins_finalizer c f xs) refl refl (right_first o (begins_finalizer c' f' ys).step refl here)
    unwinding_waits us vs tail (release {k = k} {k' = k'} {r = r} {r' = r'} {xs = xs} {ys = ys} begins ends s more) c c' near =
        let rest = unwinding_waits us vs tail more in
        let here = cleanup_waits (Some k) (Some k') xs ys
        (λ d d' n w. left_first o (ends_release d k w xs) refl refl (right_first o (ends_release d' k' w ys).step refl (rest d d' n))) c c' r r' near s in
        left_first o (begins_release c k r xs) refl refl (right_first o (begins_release c' k' r' ys).step refl here)

    -- cancellation acts on both wholes or on neither, and what comes after it, and after a result, waits like what comes at the other
    module _ (fs gs : List Context) (knows : (c c' : Counts) → Near c c' → Near (known_canceled c) (known_canceled c'))
        (must : (c c' : Counts) (t t' : Term) → Near c c' → Same t t' → must_cancel c.known (placed fs t) ≡ must_cancel c'.known (placed gs t'))
        (opened : (t t' : Term) → Same t t' → is_open (placed fs t) ≡ is_open (placed gs t'))
        (cancels : (c c' : Counts) (t t' : Term) → Near c c' → Same t t'
        → WaitsLike o c (Unwinds (cleanup_terms (placed fs t))) c' (Unwinds (cleanup_terms (placed gs t'))))
        (ends : (c c' : Counts) → Near c c' → (w : Done) → WaitsLike o c (Runs (placed fs (Finished w))) c' (Runs (placed gs (Finished w)))) where
      can_too : (c c' : Counts) (t t' : Term) → Near c c' → Same t t' → can_step o 0 c' (Runs (placed gs t')) ≡ can_step o 0 c (Runs (placed fs t))
      can_too c c' t t' near same =
          let m = must c c' t t' near same in
          let p = opened t t' same in
          let l : leaf_can_step o (leaf (placed fs t)) ≡ leaf_can_step o (leaf (placed gs t')) =
          ap (leaf_can_step o) (leaf_placed fs t) ∙ leaves t t' same ∙ sym (ap (leaf_can_step o) (leaf_placed gs t')) in
          cc

      result_waits : (c c' : Counts) (t t' : Term) → Near c c' → Same t t' → (w : Done) → t ≡ Finished w
          → WaitsLike o c (Runs (placed fs t)) c' (Runs (placed gs t'))
      result_waits c c' t t' near same w is =
          let is' : t' ≡ Finished w = results w t' (subst (λ (y : Term). Same y t') is same) in
          rw (is, is') (ends c c' near w)

      row_waits : (c c' : Counts) (t t' : Term) (ls : List Label) (e : Counts) (q : Progress) {x y : Term} {l : Label} {d : Counts} → Near c c' → Same t t'
          → RowOfPlaced (not (is_open (placed fs t))) c fs x l d y → x ≡ t → must_cancel c.known (placed fs t) ≡ false
          → Leads c (Runs (placed fs t)) (l ∷ ls) e q → IsBlockedAt o e q
          → ((d' : Counts) (w w' : Term) → Near d d' → Same w w' → Leads d (Runs (placed fs w)) ls e q → CanStop o d' (Runs (placed gs w')) (visible ls))
          → Leads d (Runs y) ls e q → CanStop o c' (Runs (placed gs t')) (visible (l ∷ ls))
      row_waits c c' t t' ls e q {l = l} {d = d} near same (moves_in {t = x} {w = w} r) at free whole b more rest =
          let closed : not (is_open (placed fs t)) ≡ not (is_open (placed gs t')) = ap not (opened t t' same) in
          let r1 : Row (not (is_open (placed gs t'))) c x l d w = subst (λ (k : Bool). Row k c x l d w) closed r in
          let here : Row (not (is_open (placed gs t'))) c t l d w = subst (λ (z : Term). Row (not (is_open (placed gs t'))) c z l d w) at r1 in
          let f = rows (not (is_open (placed gs t'))) c c' d l t t' w near same here in
          step_like o l ls (row (sym (must c c' t t' near same) ∙ free) (row_placed gs f.row)) f.seen_is (more f.counts w f.term f.near f.same rest)
      row_waits c c' t t' ls e q {l = l} near same (result_in {w = w}) at free whole b more rest =
          result_waits c c' t t' near same w (sym at) (l ∷ ls) e q whole b

      pub open_waits : (ls : List Label) (c c' d : Counts) (q : Progress) (t t' : Term) → Near c c' → Same t t' → Leads c (Runs (placed fs t)) ls d q
          → IsBlockedAt o d q → CanStop o c' (Runs (placed gs t')) (visible ls)
      open_waits [] c c' d q t t' near same h b =
          let here : can_step o 0 c (Runs (placed fs t)) ≡ false = rw (h.0, h.1) at b.unable in
          record {
            labels = [];
            counts = c';
            progress = Runs (placed gs t');
            run = (refl, refl);
            visible_is = refl;
            blocked = record { goes_on = refl; unable = can_too c c' t t' near same ∙ here };
          }
      open_waits (l ∷ ls) c c' d q t t' near same h b = by_step h.2 refl h.3 h (λ e e' w w' n s k. open_waits ls e e' d q w w' n s k b)
        where
          by_step : {x : Term} {m : Progress} {e : Counts} {l : Label} → Step c (Runs x) l e m → x ≡ placed fs t → Leads e m ls d q
              → Leads c (Runs (placed fs t)) (l ∷ ls) d q
              → ((e e' : Counts) (w w' : Term) → Near e e' → Same w w' → Leads e (Runs (placed fs w)) ls d q
              → CanStop o e' (Runs (placed gs w')) (visible ls))
              → CanStop o c' (Runs (placed gs t')) (visible (l ∷ ls))
          by_step {x} (cancelled m) at rest whole more =
              let m' : must_cancel c'.known (placed gs t') ≡ true = sym (must c c' t t' near same) ∙ ap (must_cancel c.known) (sym at) ∙ m in
              let go = subst (λ (y : Term). Leads c (Unwinds (cleanup_terms y)) ls d q) at rest in
              step_like o (Shows event.Cancelled) ls (cancelled m') refl (cancels c c' t t' near same ls d q go b)
          by_step {x} (seen free open_here) at rest whole more =
              let f : must_cancel c'.known (placed gs t') ≡ false = sym (must c c' t t' near same) ∙ ap (must_cancel c.known) (sym at) ∙ free in
              let p : is_open (placed gs t') ≡ true = sym (opened t t' same) ∙ ap is_open (sym at) ∙ open_here in
              let go = subst (λ (y : Term). Leads (known_canceled c) (Runs y) ls d q) at rest in
              step_like o (Shows event.Seen) ls (seen f p) refl (more (known_canceled c) (known_canceled c') t t' (knows c c' near) same go)
          by_step {x} {e = e} {l = l} (row {t' = y} free r) at rest whole more =
              let here : Row (not (is_open (placed fs t))) c (placed fs t) l e y = subst (λ (z : Term). Row (not (is_open z)) c z l e y) at r in
              row_waits c c' t t' ls d q near same (row_of_placed fs t here) refl (ap (must_cancel c.known) (sym at) ∙ free) whole b
              (λ d' w w' n s k. more e d' w w' n s k) rest
          by_step {l = l} (succeeds {n = n} free) at rest whole more =
              result_waits c c' t t' near same (Val n) (result_placed fs t (Val n) at).1 (l ∷ ls) d q whole b
          by_step {l = l} (errs {n = n} free) at rest whole more =
              result_waits c c' t t' near same (Err n) (result_placed fs t (Err n) at).1 (l ∷ ls) d q whole b

-- alike terms in contexts that close nothing
alike_before : {low low' : ℕ} {us vs xs ys : List CleanupTerm} → AreCleanupTerms low low' xs ys
    → AreSameBefore looking (Alike low low') us vs (xs ++ us) (ys ++ vs)
alike_before alike.none = last
alike_before (alike.finalizer s p) = finalizer s (alike_before p)
alike_before (alike.release s p) = release refl refl s (alike_before p)

module _ (o : Outside) (low low' : ℕ) (fs gs : List Context) (us vs : List CleanupTerm) (opens : closed_along [] fs ≡ []) (opens' : closed_along [] gs ≡ [])
    (cleans : (xs : List CleanupTerm) → around fs xs ≡ xs ++ us) (cleans' : (xs : List CleanupTerm) → around gs xs ≡ xs ++ vs)
    (tail : (c c' : Counts) → AreShifted low low' c c' → WaitsLike o c (Unwinds us) c' (Unwinds vs))
    (ends : (c c' : Counts) → AreShifted low low' c c' → (w : Done) → WaitsLike o c (Runs (placed fs (Finished w))) c' (Runs (placed gs (Finished w)))) where
  open_too : (t t' : Term) → Alike low low' t t' → is_open (placed fs t) ≡ is_open (placed gs t')
  open_too t t' s =
      let inner = closed_alike low low' [] [] (λ r h. refl) (λ r h. refl) refl s in
      open_placed fs t ∙ ap (λ (cs : List Closing). is_none_closed (closed_regions cs t)) opens ∙ inner
      ∙ sym (open_placed gs t' ∙ ap (λ (cs : List Closing). is_none_closed (closed_regions cs t')) opens')

  must_too : (c c' : Counts) (t t' : Term) → AreShifted low low' c c' → Alike low low' t t'
      → must_cancel c.known (placed fs t) ≡ must_cancel c'.known (placed gs t')
  must_too c c' t t' near s =
      let p = must_placed c.known fs t in
      let q = must_placed c'.known gs t' in
      let e = sym (open_placed fs t) ∙ open_too t t' s ∙ open_placed gs t' in
      let l = leaf_alike low low' s in
      let k : c'.known ≡ c.known = ap (λ (a : Counts). a.known) near.is in
      cc

  cancels_too : (c c' : Counts) (t t' : Term) → AreShifted low low' c c' → Alike low low' t t'
      → WaitsLike o c (Unwinds (cleanup_terms (placed fs t))) c' (Unwinds (cleanup_terms (placed gs t')))
  cancels_too c c' t t' near s =
      let left : cleanup_terms (placed fs t) ≡ cleanup_terms t ++ us = cleanups_placed fs t ∙ cleans (cleanup_terms t) in
      let right : cleanup_terms (placed gs t') ≡ cleanup_terms t' ++ vs = cleanups_placed gs t' ∙ cleans' (cleanup_terms t') in
      rw (left, right)
      (unwinding_waits o (AreShifted low low') (Alike low low') (alike_rows looking low low') (alike_results low low') (λ x x' k. waits_alike low low' o k)
      us vs tail (alike_before (cleanups_alike low low' s)) c c' near)

  pub alike_open_waits : (c c' : Counts) (t t' : Term) → AreShifted low low' c c' → Alike low low' t t'
      → WaitsLike o c (Runs (placed fs t)) c' (Runs (placed gs t'))
  alike_open_waits c c' t t' near same ls d q h b =
      open_waits o (AreShifted low low') (Alike low low') (alike_rows looking low low') (alike_results low low') (λ x x' k. waits_alike low low' o k) fs gs
      shifted_known must_too open_too cancels_too ends ls c c' d q t t' near same h b
