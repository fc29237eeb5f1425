-- A running term inside masks, polls and finalizers.
use Rattle.std.proofs.Common.{◌≡◌, ℕ, Bool, List, [], ◌∷◌, refl, sym, ◌∙◌, ap}
use Rattle.std.specs.Prelude.{◌&&◌, ◌||◌}
use Rattle.fx_term.specs.declared.done.Done.{Done}
use Rattle.fx_term.specs.Term.{Term, Finished}
use Rattle.fx_mask.specs.Closing.{Closing, is_none_closed}
use Rattle.fx_model.specs.Path.{Context, MaskedIn, OpenedIn, OnCancelIn, plug, closed_under, closed_regions, cleanup_terms, leaf, is_canceled_form, is_open}
use Rattle.fx_model.specs.Path.{must_cancel}
use Rattle.fx_model.specs.Row.{Counts, Label, Silent, Row, masked_ends, opened_ends, oncancel_ends, inside}
use Rattle.fx_model.proofs.Paths.{leaf_plug, closed_plug, no_context, same_context, same_part, row_plug}

-- a mask that was entered, or a poll, with the number of its region, or a finalizer
pub data Wrap : Type 0 where
  Closes : ℕ → Wrap
  Opens : ℕ → Wrap
  Cleans : Term → Wrap

-- its context
abbrev pub round : Wrap → Context
round (Closes r) = MaskedIn r
round (Opens r) = OpenedIn r
round (Cleans f) = OnCancelIn f

-- the term inside these, the innermost first
abbrev pub wrapped : List Wrap → Term → Term
wrapped [] t = t
wrapped (w ∷ ws) t = wrapped ws (plug (round w) t)

-- what they close
abbrev pub closes : List Wrap → List Closing
closes [] = []
closes (w ∷ ws) = closed_under (closes ws) (round w)

closed_wrapped : (ws : List Wrap) (t : Term) → closed_regions [] (wrapped ws t) ≡ closed_regions (closes ws) t
closed_wrapped [] t = refl
closed_wrapped (w ∷ ws) t = closed_wrapped ws (plug (round w) t) ∙ closed_plug (closes ws) (round w) t

leaf_wrapped : (ws : List Wrap) (t : Term) → leaf (wrapped ws t) ≡ leaf t
leaf_wrapped [] t = refl
leaf_wrapped (w ∷ ws) t = leaf_wrapped ws (plug (round w) t) ∙ leaf_plug (round w) t

-- no finalizer is among them
abbrev pub HaveNoFinalizer : List Wrap → Type 0
HaveNoFinalizer [] = Unit {0}
HaveNoFinalizer (Cleans f ∷ ws) = ⊥
HaveNoFinalizer (w ∷ ws) = HaveNoFinalizer ws

-- masks and polls have no clean-up
pub cleanups_wrapped : (ws : List Wrap) (t : Term) → HaveNoFinalizer ws → cleanup_terms (wrapped ws t) ≡ cleanup_terms t
cleanups_wrapped [] t h = refl
cleanups_wrapped (Closes r ∷ ws) t h = cleanups_wrapped ws (plug (MaskedIn r) t) h
cleanups_wrapped (Opens r ∷ ws) t h = cleanups_wrapped ws (plug (OpenedIn r) t) h
cleanups_wrapped (Cleans f ∷ ws) t h = absurd h

pub open_wrapped : (ws : List Wrap) (t : Term) → is_open (wrapped ws t) ≡ is_none_closed (closed_regions (closes ws) t)
open_wrapped ws t = ap is_none_closed (closed_wrapped ws t)

pub must_wrapped : (known : Bool) (ws : List Wrap) (t : Term)
    → must_cancel known (wrapped ws t) ≡ (is_none_closed (closed_regions (closes ws) t) && (known || is_canceled_form (leaf t)))
must_wrapped known ws t = let p = open_wrapped ws t in let q = leaf_wrapped ws t in cc

-- only where there are none of them is the whole a result
pub finished_wrapped : (ws : List Wrap) (t : Term) (v : Done) → Finished v ≡ wrapped ws t → (ws ≡ []) × (t ≡ Finished v)
finished_wrapped [] t v e = (refl, sym e)
finished_wrapped (w ∷ ws) t v e = absurd (no_context (round w) t (Finished v) refl (sym (finished_wrapped ws (plug (round w) t) v e).1))

-- a row of the whole is one of the term inside, or a result leaves the innermost of them
pub data RowOfWrapped (k : Bool) (c : Counts) : List Wrap → Term → Label → Counts → Term → Type 0 where
  moves : {ws : List Wrap} {d : Counts} {l : Label} {t u : Term} → Row k c t l d u → RowOfWrapped k c ws t l d (wrapped ws u)
  leaves : {w : Wrap} {ws : List Wrap} {v : Done} → RowOfWrapped k c (w ∷ ws) (Finished v) Silent c (wrapped ws (Finished v))

module _ {k : Bool} {c : Counts} where
  pub row_wrapped : (ws : List Wrap) {d : Counts} {l : Label} {t u : Term} → Row k c t l d u → Row k c (wrapped ws t) l d (wrapped ws u)
  row_wrapped [] r = r
  row_wrapped (w ∷ ws) r = row_wrapped ws (row_plug (round w) r)

  row_of_part : (w : Wrap) (f : Context) {ws : List Wrap} {d : Counts} {l : Label} {t u a a' : Term} → plug (round w) t ≡ plug f a → u ≡ plug f a'
      → Row k c a l d a' → RowOfWrapped k c (w ∷ ws) t l d (wrapped ws u)
  row_of_part w f {t = t} {a = a} e g r =
      let same : f ≡ round w = same_context f (round w) a t (sym e) in
      let part : t ≡ a = same_part (round w) t a (rw same at e) in
      rw (g, same, part) (moves r)

  row_of_wrap : (w : Wrap) {ws : List Wrap} {d : Counts} {l : Label} {t u : Term} → RowOfWrapped k c ws (plug (round w) t) l d u
      → RowOfWrapped k c (w ∷ ws) t l d u
  row_of_wrap (Closes q) (moves masked_ends) = leaves
  row_of_wrap (Closes q) (moves (inside f e g r)) = row_of_part (Closes q) f e g r
  row_of_wrap (Opens q) (moves opened_ends) = leaves
  row_of_wrap (Opens q) (moves (inside f e g r)) = row_of_part (Opens q) f e g r
  row_of_wrap (Cleans h) (moves oncancel_ends) = leaves
  row_of_wrap (Cleans h) (moves (inside f e g r)) = row_of_part (Cleans h) f e g r

  pub row_of_wrapped : (ws : List Wrap) {d : Counts} {l : Label} (t u : Term) → Row k c (wrapped ws t) l d u → RowOfWrapped k c ws t l d u
  row_of_wrapped [] t u r = moves r
  row_of_wrapped (w ∷ ws) t u r = row_of_wrap w (row_of_wrapped ws (plug (round w) t) u r)
