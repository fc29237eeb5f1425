-- A fiber at a mask, at an open place with no clean-up round it.
use Rattle.std.proofs.Common.{◌≡◌, ℕ, true, false, not, List, [], ◌∷◌, refl, sym, ◌∙◌, ap, subst}
use Rattle.fx_term.specs.declared.done.Done.TheVariants.{Val, Err}
use Rattle.fx_term.specs.declared.event.Event.TheVariants as event
use Rattle.fx_term.specs.declared.outcome.Outcome.TheVariants as outcome
use Rattle.fx_term.specs.Term.{Term, Mask, Masked, put}
use Rattle.fx_model.specs.Path.{Context, cleanup_terms, is_open, must_cancel}
use Rattle.fx_model.specs.Row.{Counts, Label, Silent, Shows, known_canceled, one_more_mask, Row}
use Rattle.fx_model.specs.Row as rule
use Rattle.fx_model.specs.Step.{Progress, Runs, Unwinds, HasEnded, Step, cancelled, seen, row, succeeds, errs}
use Rattle.fx_model.specs.Run.{Leads}
use Rattle.fx_laws.specs.Everywhere.{placed}
use Rattle.fx_laws.specs.Others.{visible, IsCanceledAlone}
use Rattle.fx_laws.proofs.Placed.{leaf_placed, result_placed, row_placed}
use Rattle.fx_laws.proofs.Views.{HasRun, IsMatched, stays, silent_first}
use Rattle.fx_laws.proofs.Forced.{unwound}
use Rattle.fx_laws.proofs.OnlyRows.{mask_row_placed}
use Rattle.fx_laws.proofs.Looking.{looking}
use Rattle.fx_laws.proofs.Doomed.{must_forced}

-- of what unwinds with no clean-up left others see its end alone, or nothing yet
pub data SeesEndAlone : List Label → Type 0 where
  nothing_yet : {ls : List Label} → visible ls ≡ [] → SeesEndAlone ls
  its_end : {ls : List Label} → IsCanceledAlone (visible ls) → SeesEndAlone ls

pub unwound_sees : (c d : Counts) (q : Progress) (ls : List Label) → Leads c (Unwinds []) ls d q → SeesEndAlone ls
unwound_sees c d q [] h = nothing_yet refl
unwound_sees c d q (l ∷ ls) h =
    let o = (unwound c).only l h.0 h.1 h.2 in
    let go : Leads c (HasEnded outcome.Canceled) ls d q = rw (sym o.1, sym o.2) h.3 in
    rw o.0 (then_nothing ls go)
  where
    no_step : {l : Label} {e : Counts} {m : Progress} → Step c (HasEnded outcome.Canceled) l e m → ⊥
    no_step s = elim s [ ]

    then_nothing : (ls : List Label) → Leads c (HasEnded outcome.Canceled) ls d q → SeesEndAlone (Shows (event.Ended outcome.Canceled) ∷ ls)
    then_nothing [] k = its_end refl
    then_nothing (m ∷ ms) k = absurd (no_step k.2)

module _ (fs : List Context) (p : ℕ) (t : Term) (c : Counts) (unknown : c.known ≡ false) (opened : is_open (placed fs (Mask p t)) ≡ true)
    (clean : cleanup_terms (placed fs (Mask p t)) ≡ []) where
  free_here : must_cancel c.known (placed fs (Mask p t)) ≡ false
  free_here = rw (opened, unknown, leaf_placed fs (Mask p t)) refl

  must_once_known : must_cancel true (placed fs (Mask p t)) ≡ true
  must_once_known = rw opened refl

  -- what is seen of a fiber that has entered the mask
  pub sees_inside : {d : Counts} {q : Progress} → IsMatched looking d q (one_more_mask c) (Runs (placed fs (Masked c.masks (put p c.masks t))))
      → IsMatched looking d q c (Runs (placed fs (Mask p t)))
  sees_inside next ls e r h = silent_first looking (row free_here (row_placed fs rule.mask)) (next ls e r h)

  seen_first : (d e : Counts) (q r : Progress) (ls : List Label) → Leads (known_canceled c) (Runs (placed fs (Mask p t))) ls e r
      → (IsCanceledAlone (visible ls) → ⊥) → HasRun looking d q (visible ls)
  seen_first d e q r [] h other = stays looking
  seen_first d e q r (l ∷ ls) h other =
      let o = (must_forced (known_canceled c) (placed fs (Mask p t)) must_once_known).only l h.0 h.1 h.2 in
      let at : h.1 ≡ Unwinds [] = o.2 ∙ ap Unwinds clean in
      let go : Leads (known_canceled c) (Unwinds []) ls e r = rw (sym o.1, sym at) h.3 in
      rw o.0 (by_sight (unwound_sees (known_canceled c) e r ls go) (rw o.0 at other))
    where
      by_sight : SeesEndAlone ls → (IsCanceledAlone (visible ls) → ⊥) → HasRun looking d q (visible ls)
      by_sight (nothing_yet e) other = rw e (stays looking)
      by_sight (its_end e) other = absurd (other e)

  -- nothing else is seen, but that the fiber was canceled before
  pub sees_no_more : (d : Counts) (q : Progress) → IsMatched looking (one_more_mask c) (Runs (placed fs (Masked c.masks (put p c.masks t)))) d q
      → (ls : List Label) (e : Counts) (r : Progress) → Leads c (Runs (placed fs (Mask p t))) ls e r → (IsCanceledAlone (visible ls) → ⊥)
      → HasRun looking d q (visible ls)
  sees_no_more d q next [] e r h other = stays looking
  sees_no_more d q next (l ∷ ls) e r h other = by_step h.2 refl h.3 other
    where
      by_step : {x : Term} {m : Progress} {a : Counts} {l : Label} → Step c (Runs x) l a m → x ≡ placed fs (Mask p t) → Leads a m ls e r
          → (IsCanceledAlone (visible (l ∷ ls)) → ⊥) → HasRun looking d q (visible (l ∷ ls))
      by_step (cancelled must) at rest o = absurd (let f = ap (must_cancel c.known) at in let g = free_here in cc)
      by_step (seen f k) at rest o =
          seen_first d e q r ls (subst (λ (y : Term). Leads (known_canceled c) (Runs y) ls e r) at rest) o
      by_step {x} {a = a} {l = l} (row {t' = y} f k) at rest o =
          let only = mask_row_placed fs p t (subst (λ (z : Term). Row (not (is_open x)) c z l a y) at k) in
          let go : Leads (one_more_mask c) (Runs (placed fs (Masked c.masks (put p c.masks t)))) ls e r = rw (sym only.1, sym only.2) rest in
          rw only.0 (next ls e r go)
      by_step (succeeds {n = n} f) at rest o = absurd (let e = (result_placed fs (Mask p t) (Val n) at).1 in cc)
      by_step (errs {n = n} f) at rest o = absurd (let e = (result_placed fs (Mask p t) (Err n) at).1 in cc)
