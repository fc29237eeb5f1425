-- Each row has its mark, and each event stands in one row.
use Rattle.std.proofs.Common.{◌≡◌, ℕ, zero, suc, ◌<◌, ◌≤◌, Some, List, [], ◌∷◌, refl, sym, subst, map, arith, inl, inr, slice_get}
use Rattle.std.specs.Prelude.{Contains}
use Rattle.std.specs.List.Sorted.{IsPermutation}
use Rattle.std.proofs.lemmas.Bool.{cases_eq, eq-eqb, ne_eqb}
use Rattle.std.proofs.lemmas.List.Sorted.{IsPermutation-refl, IsPermutation-trans, IsPermutation-sym, IsPermutation-cons}
use Rattle.std.proofs.lemmas.List.Sorted.{IsPermutation-middle, IsPermutation-append_left}
use Rattle.fx_model.specs.Report.{FiberReportView}
use Rattle.fx_order.specs.declared.occurrence.Occurrence.{Occurrence}
use Rattle.fx_report.specs.declared.blocked.Blocked.{Blocked}
use Rattle.fx_picture.specs.Handles.{Named}
use Rattle.fx_svg.specs.Content.{Content}
use Rattle.fx_picture.specs.declared.drawn.Drawn.{Drawn}
use Rattle.fx_picture.specs.declared.stood.Stood.{Stood}
use Rattle.fx_picture.specs.Folds.{in_row, event_of, sheet_of}
use Rattle.fx_picture.specs.Has.{Has}
use Rattle.fx_picture.specs.IsFolded.{events_in}
use Rattle.fx_picture.specs.Picture.{mark_of, marks_in, picture}
use Rattle.fx_picture.proofs.Sheets.{same_events, sheet_is_sound}

here : (row : ℕ) (x : Drawn) (xs : List Drawn) → x.row ≡ row → in_row row (x ∷ xs) ≡ x.event ∷ in_row row xs
here row x xs same = rw (eq-eqb x.row row same) refl

there : (row : ℕ) (x : Drawn) (xs : List Drawn) → (x.row ≡ row → ⊥) → in_row row (x ∷ xs) ≡ in_row row xs
there row x xs other = rw (ne_eqb x.row row other) refl

none_in : (rows : ℕ) → events_in rows [] ≡ []
none_in zero = refl
none_in (suc row) = rw (none_in row) refl

-- an event in a row from this one on is in none of those above
above_it : (rows : ℕ) (x : Drawn) (xs : List Drawn) → rows ≤ x.row → events_in rows (x ∷ xs) ≡ events_in rows xs
above_it zero x xs le = refl
above_it (suc row) x xs le = rw (above_it row x xs (omega arith), there row x xs (λ same. absurd (omega arith))) refl

-- and one in a row above this one is there once
with_one : (rows : ℕ) (x : Drawn) (xs : List Drawn) → x.row < rows → IsPermutation (x.event ∷ events_in rows xs) (events_in rows (x ∷ xs))
with_one zero x xs lt = absurd (omega arith)
with_one (suc row) x xs lt = elim (cases_eq x.row row) [
  | inl same ↦ rw (above_it row x xs (omega arith), here row x xs same)
      (IsPermutation-sym _ _ (IsPermutation-middle (events_in row xs) x.event (in_row row xs)))
  | inr other ↦ rw (there row x xs other) (IsPermutation-append_left (in_row row xs) _ _ (with_one row x xs (omega arith)))
]

once_each : (rows : ℕ) (xs : List Drawn) → ((k : ℕ) (x : Drawn) → slice_get xs k ≡ Some x → x.row < rows)
    → IsPermutation (map event_of xs) (events_in rows xs)
once_each rows [] below = rw (none_in rows) (IsPermutation-refl [])
once_each rows (x ∷ xs) below =
    IsPermutation-trans _ _ _ (IsPermutation-cons x.event _ _ (once_each rows xs (λ k y is. below (suc k) y is))) (with_one rows x xs (below 0 x refl))

pub each_once : (stood : List Stood) (list : List Occurrence) → IsPermutation list (events_in (sheet_of stood list).rows (sheet_of stood list).drawn)
each_once stood list =
    subst (λ (l : List Occurrence). IsPermutation l (events_in (sheet_of stood list).rows (sheet_of stood list).drawn)) (same_events stood list)
    (once_each (sheet_of stood list).rows (sheet_of stood list).drawn (sheet_is_sound stood list).below)

-- an event stands among those of its row
pub stands_in : (k : ℕ) (xs : List Drawn) (x : Drawn) → slice_get xs k ≡ Some x → Contains (in_row x.row xs) x.event
stands_in k [] x is = absurd (cc is)
stands_in zero (y ∷ xs) x is =
    let same : y ≡ x = cc is in
    subst (λ (w : Drawn). Contains (in_row x.row (w ∷ xs)) x.event) (sym same)
    (rw (here x.row x xs refl) (0, omega arith, refl))
stands_in (suc k) (y ∷ xs) x is = elim (cases_eq y.row x.row) [
  | inl same ↦ (let c = stands_in k xs x is in rw (here x.row y xs same) (suc c.0, (let lt = c.1 in omega arith), c.2))
  | inr other ↦ rw (there x.row y xs other) (stands_in k xs x is)
]

-- the mark of a row with events is an element, which stands there
module _ (names : List (List ℕ)) (stood : List Stood) (fibers : List FiberReportView) where
  own_mark : (row : ℕ) (list : List Occurrence) (o : Occurrence) → Contains list o
      → Has (mark_of names stood fibers row list) (mark_of names stood fibers row list)
  own_mark row [] o c = (let lt = c.1 in absurd (omega arith))
  own_mark row (p ∷ []) o c = inl refl
  own_mark row (p ∷ q ∷ os) o c = inl refl

  has_mark : (list : List Drawn) (rows row : ℕ) (e : Content) → row < rows → Has (mark_of names stood fibers row (in_row row list)) e
      → Has (marks_in names stood fibers list rows) e
  has_mark list zero row e lt has = absurd (omega arith)
  has_mark list (suc rows) row e lt has = elim (cases_eq row rows) [
    | inl same ↦ inr (subst (λ (n : ℕ). Has (mark_of names stood fibers n (in_row n list)) e) same has)
    | inr other ↦ inl (has_mark list rows row e (omega arith) has)
  ]

pub is_marked : (names : List (List ℕ)) (stood : List Stood) (handles : List Named) (blocked : List Blocked) (fibers : List FiberReportView)
    (list : List Occurrence) (place : ℕ) (x : Drawn)
    → slice_get (sheet_of stood list).drawn place ≡ Some x
    → Contains (in_row x.row (sheet_of stood list).drawn) x.event × Has (picture names stood handles blocked fibers list)
    (mark_of names stood fibers x.row (in_row x.row (sheet_of stood list).drawn))
is_marked names stood handles blocked fibers list place x is =
    let stands = stands_in place (sheet_of stood list).drawn x is in (
      stands,
      inr (inr (inr (inr (inr (inr (has_mark names stood fibers (sheet_of stood list).drawn (sheet_of stood list).rows x.row _
          ((sheet_is_sound stood list).below place x is)
          (own_mark names stood fibers x.row (in_row x.row (sheet_of stood list).drawn) x.event stands))))))),
    )
