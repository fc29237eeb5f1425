-- Rows that are the only ones at a closed place.
use Rattle.std.proofs.Common.{◌≡◌, ℕ, Bool, true, List, refl, sym, ap, subst}
use Rattle.fx_term.specs.declared.done.Done.TheVariants.{Val}
use Rattle.fx_term.specs.declared.event.Event.TheVariants as event
use Rattle.fx_term.specs.Term.{Term, Canceled, Mask, Finished, Masked, put}
use Rattle.fx_model.specs.Path.{Context}
use Rattle.fx_model.specs.Row.{Counts, Label, Silent, Shows, known_canceled, one_more_mask, Row}
use Rattle.fx_model.specs.Row as rule
use Rattle.fx_model.proofs.Paths.{no_context}
use Rattle.fx_laws.specs.Everywhere.{placed}
use Rattle.fx_laws.proofs.Placed.{result_placed, row_placed, RowOfPlaced, moves_in, result_in, row_of_placed}
use Rattle.fx_laws.proofs.SilentRows.{LeadsSilently}
use Rattle.fx_laws.proofs.Forced.{IsOnlyRow}

pub only_silent : (c : Counts) {t u : Term} → LeadsSilently t u → IsOnlyRow c t Silent c u
only_silent c s = record { there = s.there true c; only = λ m e w r. s.only true c e m w r; going = s.going }

pub only_self_request : (c : Counts) → IsOnlyRow c Canceled (Shows event.SelfRequest) (known_canceled c) (Finished (Val 0))
only_self_request c = record { there = rule.self_request refl; only = λ m e w r. one r; going = λ w e. cc }
  where
    one : {m : Label} {e : Counts} {w : Term} → Row true c Canceled m e w → (m ≡ Shows event.SelfRequest) × (e ≡ known_canceled c) × (w ≡ Finished (Val 0))
    one (rule.self_request h) = (refl, refl, refl)
    one (rule.inside f e g r) = absurd (no_context f _ _ refl e)

abbrev EntersMask : Counts → ℕ → Term → Label → Counts → Term → Type 0
EntersMask c p t l d u = (l ≡ Silent) × (d ≡ one_more_mask c) × (u ≡ Masked c.masks (put p c.masks t))

mask_row : {k : Bool} {c d : Counts} {l : Label} {p : ℕ} {t u : Term} → Row k c (Mask p t) l d u → EntersMask c p t l d u
mask_row rule.mask = (refl, refl, refl)
mask_row (rule.inside f e g r) = absurd (no_context f _ _ refl e)

pub only_mask : (c : Counts) (p : ℕ) (t : Term) → IsOnlyRow c (Mask p t) Silent (one_more_mask c) (Masked c.masks (put p c.masks t))
only_mask c p t = record { there = rule.mask; only = λ m e w r. mask_row r; going = λ w e. cc }

-- and so inside any contexts, at a closed place or not
pub mask_row_placed : {k : Bool} {c d : Counts} {l : Label} (fs : List Context) (p : ℕ) (t : Term) {u : Term} → Row k c (placed fs (Mask p t)) l d u
    → (l ≡ Silent) × (d ≡ one_more_mask c) × (u ≡ placed fs (Masked c.masks (put p c.masks t)))
mask_row_placed {k} {c} fs p t r = one (row_of_placed fs (Mask p t) r) refl
  where
    one : {d : Counts} {l : Label} {x u : Term} → RowOfPlaced k c fs x l d u → x ≡ Mask p t
        → (l ≡ Silent) × (d ≡ one_more_mask c) × (u ≡ placed fs (Masked c.masks (put p c.masks t)))
    one {d} {l} (moves_in {w = y} q) at =
        let f = mask_row (subst (λ (z : Term). Row k c z l d y) at q) in (f.0, f.1, ap (placed fs) f.2)
    one (result_in {w = w}) at = absurd cc

pub only_placed : {c d : Counts} {l : Label} (fs : List Context) {t u : Term} → IsOnlyRow c t l d u → IsOnlyRow c (placed fs t) l d (placed fs u)
only_placed {c} {d} {l} fs {t} {u} o =
    record {
      there = row_placed fs o.there;
      only = λ m e w r. one (row_of_placed fs t r) refl;
      going = λ w e. o.going w (result_placed fs t w (sym e)).1;
    }
  where
    one : {m : Label} {e : Counts} {x w : Term} → RowOfPlaced true c fs x m e w → x ≡ t → (m ≡ l) × (e ≡ d) × (w ≡ placed fs u)
    one {m} {e} (moves_in {w = y} r) at =
        let f = o.only m e y (subst (λ (z : Term). Row true c z m e y) at r) in (f.0, f.1, ap (placed fs) f.2)
    one (result_in {w = w}) at = absurd (o.going w (sym at))
