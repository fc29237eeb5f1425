-- A running term inside contexts: what closes its place, its clean-ups, and its rows.
use Rattle.std.proofs.Common.{◌≡◌, Bool, List, [], ◌∷◌, ◌++◌, refl, sym, ◌∙◌, ap, subst}
use Rattle.std.proofs.lemmas.List.{append_assoc, append-nil}
use Rattle.std.specs.Prelude.{◌&&◌, ◌||◌}
use Rattle.fx_term.specs.declared.done.Done.{Done}
use Rattle.fx_term.specs.Term.{Term, Finished}
use Rattle.fx_mask.specs.Closing.{Closing, is_none_closed}
use Rattle.fx_model.specs.Path.{Context, LetIn, HandleIn, OnCancelIn, AcquireIn, AcquireCaseIn, MaskedIn, OpenedIn, InUseIn, InUseCaseIn, InReleaseIn}
use Rattle.fx_model.specs.Path.{plug, leaf, closed_under, closed_along, closed_regions, CleanupTerm, Finalizer, Release, cleanups_with, cleanups_along}
use Rattle.fx_model.specs.Path.{cleanup_terms, is_canceled_form, is_open, must_cancel}
use Rattle.fx_model.specs.Row.{Counts, Label, Row}
use Rattle.fx_model.specs.Row as rule
use Rattle.fx_model.proofs.Paths.{closed_plug, leaf_plug, cleanups_plug, no_context, row_plug, part_row}
use Rattle.fx_laws.specs.Everywhere.{placed}

pub placed_append : (fs gs : List Context) (t : Term) → placed (fs ++ gs) t ≡ placed fs (placed gs t)
placed_append [] gs t = refl
placed_append (f ∷ fs) gs t = ap (plug f) (placed_append fs gs t)

pub closed_append : (outer : List Closing) (fs gs : List Context) → closed_along outer (fs ++ gs) ≡ closed_along (closed_along outer fs) gs
closed_append outer [] gs = refl
closed_append outer (f ∷ fs) gs = closed_append (closed_under outer f) fs gs

pub closed_placed : (outer : List Closing) (fs : List Context) (t : Term) → closed_regions outer (placed fs t) ≡ closed_regions (closed_along outer fs) t
closed_placed outer [] t = refl
closed_placed outer (f ∷ fs) t = closed_plug outer f (placed fs t) ∙ closed_placed (closed_under outer f) fs t

pub leaf_placed : (fs : List Context) (t : Term) → leaf (placed fs t) ≡ leaf t
leaf_placed [] t = refl
leaf_placed (f ∷ fs) t = leaf_plug f (placed fs t) ∙ leaf_placed fs t

-- clean-ups inside these contexts, and then theirs
abbrev pub around : List Context → List CleanupTerm → List CleanupTerm
around [] xs = xs
around (f ∷ fs) xs = cleanups_with f (around fs xs)

pub cleanups_placed : (fs : List Context) (t : Term) → cleanup_terms (placed fs t) ≡ around fs (cleanup_terms t)
cleanups_placed [] t = refl
cleanups_placed (f ∷ fs) t = cleanups_plug f (placed fs t) ∙ ap (cleanups_with f) (cleanups_placed fs t)

pub around_append : (fs gs : List Context) (xs : List CleanupTerm) → around (fs ++ gs) xs ≡ around fs (around gs xs)
around_append [] gs xs = refl
around_append (f ∷ fs) gs xs = ap (cleanups_with f) (around_append fs gs xs)

with_append : (f : Context) (xs ys : List CleanupTerm) → cleanups_with f (xs ++ ys) ≡ xs ++ cleanups_with f ys
with_append (OnCancelIn g) xs ys = append_assoc xs ys (Finalizer g ∷ [])
with_append (InUseIn k r) xs ys = append_assoc xs ys (Release k r ∷ [])
with_append (InUseCaseIn k y s z e d) xs ys = append_assoc xs ys (Release k d ∷ [])
with_append f xs ys = refl

pub around_is : (fs : List Context) (xs : List CleanupTerm) → around fs xs ≡ xs ++ cleanups_along fs
around_is [] xs = sym (append-nil xs)
around_is (f ∷ fs) xs = ap (cleanups_with f) (around_is fs xs) ∙ with_append f xs (cleanups_along fs)

pub open_placed : (fs : List Context) (t : Term) → is_open (placed fs t) ≡ is_none_closed (closed_regions (closed_along [] fs) t)
open_placed fs t = ap is_none_closed (closed_placed [] fs t)

pub must_placed : (known : Bool) (fs : List Context) (t : Term)
    → must_cancel known (placed fs t) ≡ (is_none_closed (closed_regions (closed_along [] fs) t) && (known || is_canceled_form (leaf t)))
must_placed known fs t = let p = open_placed fs t in let q = leaf_placed fs t in cc

-- what stands in contexts is a result only with none of them
pub result_placed : (fs : List Context) (t : Term) (w : Done) → Finished w ≡ placed fs t → (fs ≡ []) × (t ≡ Finished w)
result_placed [] t w e = (refl, sym e)
result_placed (f ∷ fs) t w e = absurd (no_context f (placed fs t) (Finished w) refl e)

-- a row of the whole is one of the part, unless that is a result
pub data RowOfPart (k : Bool) (c : Counts) (f : Context) : Term → Label → Counts → Term → Type 0 where
  moves : {t w : Term} {l : Label} {d : Counts} → Row k c t l d w → RowOfPart k c f t l d (plug f w)
  result : {u : Term} {l : Label} {d : Counts} {w : Done} → RowOfPart k c f (Finished w) l d u

module _ {k : Bool} {c : Counts} where
  row_inside : (f g : Context) {t u a a' : Term} {l : Label} {d : Counts} → plug f t ≡ plug g a → u ≡ plug g a' → Row k c a l d a' → RowOfPart k c f t l d u
  row_inside f g {t} e h r = let p = part_row f g t e h r in rw p.2 (moves p.1)

  pub row_of_part : (f : Context) {t u : Term} {l : Label} {d : Counts} → Row k c (plug f t) l d u → RowOfPart k c f t l d u
  row_of_part (LetIn x b) rule.let_value = result
  row_of_part (LetIn x b) rule.let_error = result
  row_of_part (LetIn x b) (rule.inside g e h r) = row_inside (LetIn x b) g e h r
  row_of_part (HandleIn x b) rule.handle_value = result
  row_of_part (HandleIn x b) rule.handle_error = result
  row_of_part (HandleIn x b) (rule.inside g e h r) = row_inside (HandleIn x b) g e h r
  row_of_part (OnCancelIn b) rule.oncancel_ends = result
  row_of_part (OnCancelIn b) (rule.inside g e h r) = row_inside (OnCancelIn b) g e h r
  row_of_part (AcquireIn x b b') rule.acquired = result
  row_of_part (AcquireIn x b b') rule.acquire_fails = result
  row_of_part (AcquireIn x b b') (rule.inside g e h r) = row_inside (AcquireIn x b b') g e h r
  row_of_part (AcquireCaseIn x b y s z e' d') rule.acquired_case = result
  row_of_part (AcquireCaseIn x b y s z e' d') rule.acquire_case_fails = result
  row_of_part (AcquireCaseIn x b y s z e' d') (rule.inside g e h r) = row_inside (AcquireCaseIn x b y s z e' d') g e h r
  row_of_part (MaskedIn q) rule.masked_ends = result
  row_of_part (MaskedIn q) (rule.inside g e h r) = row_inside (MaskedIn q) g e h r
  row_of_part (OpenedIn q) rule.opened_ends = result
  row_of_part (OpenedIn q) (rule.inside g e h r) = row_inside (OpenedIn q) g e h r
  row_of_part (InUseIn q b) rule.used = result
  row_of_part (InUseIn q b) (rule.inside g e h r) = row_inside (InUseIn q b) g e h r
  row_of_part (InUseCaseIn q y s z e' d') rule.use_succeeded = result
  row_of_part (InUseCaseIn q y s z e' d') rule.use_erred = result
  row_of_part (InUseCaseIn q y s z e' d') (rule.inside g e h r) = row_inside (InUseCaseIn q y s z e' d') g e h r
  row_of_part (InReleaseIn q b) rule.released = result
  row_of_part (InReleaseIn q b) (rule.inside g e h r) = row_inside (InReleaseIn q b) g e h r

-- and so of a part inside any contexts
pub data RowOfPlaced (k : Bool) (c : Counts) (fs : List Context) : Term → Label → Counts → Term → Type 0 where
  moves_in : {t w : Term} {l : Label} {d : Counts} → Row k c t l d w → RowOfPlaced k c fs t l d (placed fs w)
  result_in : {u : Term} {l : Label} {d : Counts} {w : Done} → RowOfPlaced k c fs (Finished w) l d u

module _ {k : Bool} {c : Counts} where
  pub row_placed : (fs : List Context) {t u : Term} {l : Label} {d : Counts} → Row k c t l d u → Row k c (placed fs t) l d (placed fs u)
  row_placed [] r = r
  row_placed (f ∷ fs) r = row_plug f (row_placed fs r)

  one_more : (f : Context) (fs : List Context) {t u : Term} {l : Label} {d : Counts} → RowOfPlaced k c fs t l d u → RowOfPlaced k c (f ∷ fs) t l d (plug f u)
  one_more f fs (moves_in r) = moves_in r
  one_more f fs result_in = result_in

  of_part : {f : Context} (fs : List Context) (t : Term) {x w : Term} {l : Label} {d : Counts} → RowOfPart k c f x l d w → x ≡ placed fs t
      → ((y : Term) → Row k c (placed fs t) l d y → RowOfPlaced k c fs t l d y) → RowOfPlaced k c (f ∷ fs) t l d w
  of_part {f} fs t (moves {w = y} {l = l} {d = d} r) at more = one_more f fs (more y (subst (λ (z : Term). Row k c z l d y) at r))
  of_part fs t (result {w = w}) at more = rw ((result_placed fs t w at).1) result_in

  pub row_of_placed : (fs : List Context) (t : Term) {u : Term} {l : Label} {d : Counts} → Row k c (placed fs t) l d u → RowOfPlaced k c fs t l d u
  row_of_placed [] t r = moves_in r
  row_of_placed (f ∷ fs) t r = of_part fs t (row_of_part f r) refl (λ y q. row_of_placed fs t q)
