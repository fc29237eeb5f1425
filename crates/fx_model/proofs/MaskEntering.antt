-- How a fiber enters the masks and polls that stand round its term from the beginning.
use Rattle.std.proofs.Common.{◌≡◌, ◌≢◌, ℕ, true, false, List, [], ◌∷◌, refl, sym, ◌∙◌}
use Rattle.std.proofs.lemmas.Bool.{eq-eqb, ne_eqb}
use Rattle.fx_term.specs.declared.node.Arg.TheVariants.{Number, Slot}
use Rattle.fx_term.specs.Term.{Term, Mask, Poll, OnCancel, Masked, Opened, put_arg, put}
use Rattle.fx_mask.specs.Closing.{is_none_closed}
use Rattle.fx_model.specs.Row.{Counts, Label, Silent, one_more_mask, mask, poll, inside}
use Rattle.fx_model.proofs.Wrapped.{Wrap, Closes, Opens, Cleans, wrapped, closes, open_wrapped, row_wrapped, RowOfWrapped, moves, row_of_wrapped}
use Rattle.fx_model.proofs.Paths.{no_context}
use Rattle.fx_model.proofs.ShownRuns.{Enters, entered, enters}

only_mask : {c d : Counts} {l : Label} {p : ℕ} {t u : Term} {ws : List Wrap} → RowOfWrapped true c ws (Mask p t) l d u
    → (l ≡ Silent) × (d ≡ one_more_mask c) × (u ≡ wrapped (Closes c.masks ∷ ws) (put p c.masks t))
only_mask (moves mask) = (refl, refl, refl)
only_mask (moves (inside f e g r)) = absurd (no_context f _ _ refl e)

only_poll : {c d : Counts} {l : Label} {r : ℕ} {t u : Term} {ws : List Wrap} → RowOfWrapped true c ws (Poll (Number r) t) l d u
    → (l ≡ Silent) × (d ≡ c) × (u ≡ wrapped (Opens r ∷ ws) t)
only_poll (moves poll) = (refl, refl, refl)
only_poll (moves (inside f e g r)) = absurd (no_context f _ _ refl e)

-- a mask at a closed place is entered, whatever comes next
enter_mask : {c d : Counts} {v : Term} (ws : List Wrap) (p : ℕ) (t : Term) → is_none_closed (closes ws) ≡ false
    → Enters (one_more_mask c) (wrapped (Closes c.masks ∷ ws) (put p c.masks t)) d v → Enters c (wrapped ws (Mask p t)) d v
enter_mask ws p t closed rest =
    enters (open_wrapped ws (Mask p t) ∙ closed) (row_wrapped ws mask) (λ l d u r. only_mask (row_of_wrapped ws (Mask p t) u r)) rest

-- and so is a poll
enter_poll : {c d : Counts} {v : Term} (ws : List Wrap) (r : ℕ) (t : Term) → is_none_closed (closes ws) ≡ false → Enters c (wrapped (Opens r ∷ ws) t) d v
    → Enters c (wrapped ws (Poll (Number r) t)) d v
enter_poll ws r t closed rest =
    enters (open_wrapped ws (Poll (Number r) t) ∙ closed) (row_wrapped ws poll) (λ l d u h. only_poll (row_of_wrapped ws (Poll (Number r) t) u h)) rest

put_self : (x n : ℕ) → put_arg x n (Slot x) ≡ Number n
put_self x n = rw (eq-eqb x x refl) refl

put_other : (x y n : ℕ) → x ≢ y → put_arg x n (Slot y) ≡ Slot y
put_other x y n h = rw (ne_eqb y x (λ e. h (sym e))) refl

-- the counts of a fiber that is not known to be canceled and has entered so many masks
abbrev pub counts_at : ℕ → ℕ → ℕ → Counts
counts_at m next end = record { masks = m; acquired = 0; next = next; end = end; known = false }

-- a mask of this name round the one term, just entered, leads inside these masks and polls, so many masks in all, where the other term stands
abbrev pub MaskLeadsInto : ℕ → Term → ℕ → List Wrap → Term → Type 0
MaskLeadsInto p a n ws t = (next end : ℕ) → Enters (counts_at 1 next end) (Masked 0 (put p 0 a)) (counts_at n next end) (wrapped ws t)

-- polls of two masks in the inverse order
both_polls : {c : Counts} (t : Term) → Enters c (Masked 0 (Masked 1 (Poll (Number 0) (Poll (Number 1) t)))) c (Masked 0 (Masked 1 (Opened 0 (Opened 1 t))))
both_polls t = enter_poll (Closes 1 ∷ Closes 0 ∷ []) 0 (Poll (Number 1) t) refl (enter_poll (Opens 0 ∷ Closes 1 ∷ Closes 0 ∷ []) 1 t refl entered)

module _ (p : ℕ) (t : Term) (p_unused : (n : ℕ) → put p n t ≡ t) where
  pub enters_mask : MaskLeadsInto p t 1 (Closes 0 ∷ []) t
  enters_mask next end = rw (p_unused 0) entered

  pub enters_own_poll : MaskLeadsInto p (Poll (Slot p) t) 1 (Opens 0 ∷ Closes 0 ∷ []) t
  enters_own_poll next end = rw (put_self p 0, p_unused 0) (enter_poll (Closes 0 ∷ []) 0 t refl entered)

  -- a finalizer that stands directly inside the mask
  pub enters_finalizer : (f : Term) → MaskLeadsInto p (OnCancel t f) 1 (Cleans (put p 0 f) ∷ Closes 0 ∷ []) t
  enters_finalizer f next end = rw (p_unused 0) entered

  module _ (r : ℕ) (other : p ≢ r) (r_unused : (n : ℕ) → put r n t ≡ t) where
    pub enters_two : MaskLeadsInto p (Mask r t) 2 (Closes 1 ∷ Closes 0 ∷ []) t
    enters_two next end = rw (p_unused 0) (enter_mask (Closes 0 ∷ []) r t refl (rw (r_unused 1) entered))

    pub enters_inverse : MaskLeadsInto p (Mask r (Poll (Slot p) (Poll (Slot r) t))) 2 (Opens 1 ∷ Opens 0 ∷ Closes 1 ∷ Closes 0 ∷ []) t
    enters_inverse next end =
        rw (
          put_self p 0,
          put_other p r 0 other,
          p_unused 0,
        ) (enter_mask (Closes 0 ∷ []) r (Poll (Number 0) (Poll (Slot r) t)) refl (rw (put_self r 1, r_unused 1) (both_polls t)))
