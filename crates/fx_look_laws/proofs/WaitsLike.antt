-- A fiber that comes to where it waits, and another one that comes there too, so that others see the same.
use Rattle.std.proofs.Common.{◌≡◌, ℕ, true, false, List, [], ◌∷◌, ◌++◌, refl, sym, ◌∙◌, ap, subst}
use Rattle.fx_term.specs.declared.done.Done.{Done}
use Rattle.fx_term.specs.Term.{Term, Finished, Mask, Masked, put}
use Rattle.fx_model.specs.Path.{leaf, Context, cleanup_terms, is_open, must_cancel}
use Rattle.fx_model.specs.Row.{Counts, Label, Row, one_more_mask}
use Rattle.fx_model.specs.Step.{Progress, Step, Runs}
use Rattle.fx_model.specs.Run.{Leads}
use Rattle.fx_model.specs.Outside.{Outside, can_step, leaf_can_step}
use Rattle.fx_model.proofs.Alike.{Alike}
use Rattle.fx_laws.specs.Everywhere.{Place, come_to, placed}
use Rattle.fx_laws.specs.Others.{visible}
use Rattle.fx_laws.proofs.AlikeFibers.{AreShifted, alike_rows, alike_results}
use Rattle.fx_laws.proofs.Forced.{IsForced}
use Rattle.fx_laws.proofs.Inside.{RowsAreFollowed, ResultsAreResults}
use Rattle.fx_laws.proofs.Looking.{looking, visible_more}
use Rattle.fx_laws.proofs.Shut.{ShutStep, moves_at, result_at}
use Rattle.fx_script_laws.proofs.BesideEnds.{waits_alike}
use Rattle.fx_look_laws.proofs.Blocked.{IsBlockedAt, IsNeverBlocked, peel, enters}
use Rattle.fx_script_laws.proofs.ShutInside.{IsShutWith, shut_can, shut_only, shut_does, goes_on}

module _ (o : Outside) where
  -- from here it can come to where it waits, so that others see this
  pub record CanStop (c : Counts) (p : Progress) (sees : List Label) : Type 0 where
    pub labels : List Label
    pub counts : Counts
    pub progress : Progress
    pub run : Leads c p labels counts progress
    pub visible_is : visible labels ≡ sees
    pub blocked : IsBlockedAt o counts progress

  -- wherever the one waits, the other does, too
  abbrev pub WaitsLike : Counts → Progress → Counts → Progress → Type 0
  WaitsLike c p c' p' = (ls : List Label) (d : Counts) (q : Progress) → Leads c p ls d q → IsBlockedAt o d q → CanStop c' p' (visible ls)

  pub never_waits : {c c' : Counts} {p p' : Progress} → IsNeverBlocked o c p → WaitsLike c p c' p'
  never_waits never ls d q h b = absurd (never ls d q h b)

  -- one step of which others see nothing
  pub left_first : {c e c' : Counts} {p m p' : Progress} {l : Label} → IsForced c p l e m → can_step o 0 c p ≡ true → visible (l ∷ []) ≡ []
      → WaitsLike e m c' p' → WaitsLike c p c' p'
  left_first {c' = c'} {p' = p'} {l = l} f can hidden next ls d q h b =
      let k = peel o f can ls d q h b in
      let same : visible k.rest ≡ visible ls =
      sym (visible_more l k.rest ∙ ap (λ (ms : List Label). ms ++ visible k.rest) hidden) ∙ ap visible (sym k.is) in
      subst (λ (ms : List Label). CanStop c' p' ms) same (next k.rest d q k.run b)

  pub right_first : {c c' e' : Counts} {p p' m' : Progress} {l : Label} → Step c' p' l e' m' → visible (l ∷ []) ≡ [] → WaitsLike c p e' m'
      → WaitsLike c p c' p'
  right_first {e' = e'} {m' = m'} {l = l} s hidden next ls d q h b =
      let k = next ls d q h b in
      record {
        labels = l ∷ k.labels;
        counts = k.counts;
        progress = k.progress;
        run = (e', m', s, k.run);
        visible_is = visible_more l k.labels ∙ ap (λ (ms : List Label). ms ++ visible k.labels) hidden ∙ k.visible_is;
        blocked = k.blocked;
      }

  -- a mask that is entered, with nothing round it that closes a place or is to be cleaned up
  pub enters_first : (fs : List Context) (p : ℕ) (t : Term) → is_open (placed fs (Mask p t)) ≡ true → must_cancel false (placed fs (Mask p t)) ≡ false
      → cleanup_terms (placed fs (Mask p t)) ≡ [] → (c : Counts) → c.known ≡ false → {c' : Counts} {p' : Progress}
      → WaitsLike (one_more_mask c) (Runs (placed fs (Masked c.masks (put p c.masks t)))) c' p' → WaitsLike c (Runs (placed fs (Mask p t))) c' p'
  enters_first fs p t opened free clean c unknown {c' = c'} {p' = p'} next ls d q h b =
      let k = enters o fs p t opened free clean c unknown ls d q h b in
      subst (λ (ms : List Label). CanStop c' p' ms) (ap visible (sym k.is)) (next k.rest d q k.run b)

  -- one step of which others see the same
  pub step_like : {c' e' : Counts} {p' m' : Progress} {l' : Label} (l : Label) (ls : List Label) → Step c' p' l' e' m'
      → visible (l' ∷ []) ≡ visible (l ∷ []) → CanStop e' m' (visible ls) → CanStop c' p' (visible (l ∷ ls))
  step_like {e' = e'} {m' = m'} {l' = l'} l ls s same k =
      record {
        labels = l' ∷ k.labels;
        counts = k.counts;
        progress = k.progress;
        run = (e', m', s, k.run);
        visible_is =
            visible_more l' k.labels ∙ ap (λ (ms : List Label). visible (l' ∷ []) ++ ms) k.visible_is
            ∙ ap (λ (ms : List Label). ms ++ visible ls) same ∙ sym (visible_more l ls);
        blocked = k.blocked;
      }

  -- at two places that stay closed, where what comes after a result waits like what comes after it at the other
  module _ (Near : Counts → Counts → Type 0) (Same : Term → Term → Type 0) (rows : RowsAreFollowed looking Near Same)
      (results : ResultsAreResults looking Near Same) (leaves : (t t' : Term) → Same t t' → leaf_can_step o (leaf t) ≡ leaf_can_step o (leaf t'))
      (place place' : Place) (shut : (t t' : Term) → Same t t' → IsShutWith place t × IsShutWith place' t')
      (ends : (c c' : Counts) → Near c c' → (w : Done) → WaitsLike c (come_to place (Finished w)) c' (come_to place' (Finished w))) where
    pub shut_waits : (ls : List Label) (c c' d : Counts) (q : Progress) (t t' : Term) → Near c c' → Same t t' → Leads c (come_to place t) ls d q
        → IsBlockedAt o d q → CanStop c' (come_to place' t') (visible ls)
    shut_waits [] c c' d q t t' near same h b =
        let s = shut t t' same in
        let here : can_step o 0 c (come_to place t) ≡ false = rw (h.0, h.1) at b.unable in
        record {
          labels = [];
          counts = c';
          progress = come_to place' t';
          run = (refl, refl);
          visible_is = refl;
          blocked = record {
            goes_on = goes_on place' t';
            unable = shut_can place' t' s.1 o 0 c' ∙ sym (leaves t t' same) ∙ sym (shut_can place t s.0 o 0 c) ∙ here;
          };
        }
    shut_waits (l ∷ ls) c c' d q t t' near same h b =
        by_step (shut_only place c h.0 l t h.1 (shut t t' same).0 h.2) refl h.3 h (λ e e' u u' n s k. shut_waits ls e e' d q u u' n s k b)
      where
        by_step : {x : Term} {m : Progress} {e : Counts} {l : Label} → ShutStep (come_to place) c x l e m → x ≡ t → Leads e m ls d q
            → Leads c (come_to place t) (l ∷ ls) d q
            → ((e e' : Counts) (u u' : Term) → Near e e' → Same u u' → Leads e (come_to place u) ls d q → CanStop e' (come_to place' u') (visible ls))
            → CanStop c' (come_to place' t') (visible (l ∷ ls))
        by_step (moves_at {u = u} {l = l} {d = e} r) is rest whole more =
            let f = rows true c c' e l t t' u near same (subst (λ (z : Term). Row true c z l e u) is r) in
            step_like l ls (shut_does place' c' f.counts f.label t' f.term (shut t t' same).1 f.row) f.seen_is (more e f.counts u f.term f.near f.same rest)
        by_step {l = l} (result_at {w = w}) is rest whole more =
            let is' : t' ≡ Finished w = results w t' (subst (λ (y : Term). Same y t') (sym is) same) in
            let long : Leads c (come_to place (Finished w)) (l ∷ ls) d q =
            subst (λ (z : Term). Leads c (come_to place z) (l ∷ ls) d q) (sym is) whole in
            subst (λ (z : Term). CanStop c' (come_to place' z) (visible (l ∷ ls))) (sym is') (ends c c' near w (l ∷ ls) d q long b)

  -- of alike terms
  pub alike_waits : (low low' : ℕ) (place place' : Place) → ((t t' : Term) → Alike low low' t t' → IsShutWith place t × IsShutWith place' t')
      → ((c c' : Counts) → AreShifted low low' c c' → (w : Done) → WaitsLike c (come_to place (Finished w)) c' (come_to place' (Finished w)))
      → (c c' : Counts) (t t' : Term) → AreShifted low low' c c' → Alike low low' t t' → WaitsLike c (come_to place t) c' (come_to place' t')
  alike_waits low low' place place' shut ends c c' t t' near same ls d q h b =
      shut_waits (AreShifted low low') (Alike low low') (alike_rows looking low low') (alike_results low low') (λ x x' s. waits_alike low low' o s) place place'
      shut ends ls c c' d q t t' near same h b
