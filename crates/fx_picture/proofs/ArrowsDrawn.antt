-- Which arrows a picture has.
use Rattle.std.proofs.Common.{◌≡◌, ℕ, zero, suc, ◌+◌, ◌<◌, Option, Some, None, List, [], ◌∷◌, refl, sym, ap, subst, ◌∙◌, take, arith, inl, inr, slice_get}
use Rattle.fx_model.specs.Report.{FiberReportView}
use Rattle.fx_order.specs.declared.occurrence.Occurrence.{Occurrence}
use Rattle.fx_report.specs.declared.blocked.Blocked.{Blocked}
use Rattle.fx_picture.specs.Handles.{Named}
use Rattle.fx_svg.specs.Content.{Content}
use Rattle.fx_picture.specs.declared.cause.Cause.{Cause}
use Rattle.fx_picture.specs.declared.drawn.Drawn.{Drawn}
use Rattle.fx_picture.specs.declared.stood.Stood.{Stood}
use Rattle.fx_picture.specs.declared.stood.EventAt.{EventAt}
use Rattle.fx_picture.specs.Stood.{stood_at, told_cause}
use Rattle.fx_picture.specs.Causes.{cause_in}
use Rattle.fx_picture.specs.Folds.{sheet_of}
use Rattle.fx_picture.specs.Has.{Has, IsArrow}
use Rattle.fx_picture.specs.Picture.{arrow, arrow_for, arrows_to, arrows_from, picture}

-- what stands above a place
above_place : (xs : List Drawn) (i j : ℕ) (x : Drawn) → i < j → slice_get xs i ≡ Some x → slice_get (take j xs) i ≡ Some x
above_place [] i j x lt is = absurd (cc is)
above_place (y ∷ xs) zero zero x lt is = absurd (omega arith)
above_place (y ∷ xs) zero (suc j) x lt is = is
above_place (y ∷ xs) (suc i) zero x lt is = absurd (omega arith)
above_place (y ∷ xs) (suc i) (suc j) x lt is = above_place xs i j x (omega arith) is

in_front : (xs : List Drawn) (i j : ℕ) (x : Drawn) → slice_get (take j xs) i ≡ Some x → (i < j) × (slice_get xs i ≡ Some x)
in_front [] i zero x is = absurd (cc is)
in_front [] i (suc j) x is = absurd (cc is)
in_front (y ∷ xs) i zero x is = absurd (cc is)
in_front (y ∷ xs) zero (suc j) x is = (omega arith, is)
in_front (y ∷ xs) (suc i) (suc j) x is = let rest = in_front xs i j x is in (let lt : i < j = rest.0 in omega arith, rest.1)

module _ (stood : List Stood) (fibers : List FiberReportView) where
  -- the event that is told to have caused y
  abbrev told_of : Drawn → Option EventAt
  told_of y = told_cause (stood_at stood y.event.fiber y.event.place)

  -- there is an arrow to y from each of these that it stands on
  has_to : (y : Drawn) (xs : List Drawn) (k : ℕ) (x : Drawn) (cause : Cause) → slice_get xs k ≡ Some x → cause_in stood x.event y.event ≡ Some cause
      → Has (arrows_to fibers (told_of y) y xs) (arrow fibers x y cause)
  has_to y [] k x cause is stands = absurd (cc is)
  has_to y (z ∷ xs) zero x cause is stands =
      let same : z ≡ x = cc is in
      inl (subst (λ (o : Option Cause). Has (arrow_for fibers z y o) (arrow fibers x y cause))
      (sym (ap (λ (w : Drawn). cause_in stood w.event y.event) same ∙ stands)) (inl (ap (λ (w : Drawn). arrow fibers w y cause) (sym same))))
  has_to y (z ∷ xs) (suc k) x cause is stands = inr (has_to y xs k x cause is stands)

  has_from : (list ys : List Drawn) (place k : ℕ) (y : Drawn) (e : Content) → slice_get ys k ≡ Some y
      → Has (arrows_to fibers (told_of y) y (take (place + k) list)) e → Has (arrows_from stood fibers list place ys) e
  has_from list [] place k y e is has = absurd (cc is)
  has_from list (z ∷ ys) place zero y e is has =
      let same : y ≡ z = cc is in
      let here : place + 0 ≡ place = omega arith in
      inl (subst (λ (n : ℕ). Has (arrows_to fibers (told_of z) z (take n list)) e) here
      (subst (λ (w : Drawn). Has (arrows_to fibers (told_of w) w (take (place + 0) list)) e) same has))
  has_from list (z ∷ ys) place (suc k) y e is has =
      let next : place + suc k ≡ suc place + k = omega arith in
      inr (has_from list ys (suc place) k y e is (subst (λ (n : ℕ). Has (arrows_to fibers (told_of y) y (take n list)) e) next has))

  pub none_missing : (names : List (List ℕ)) (handles : List Named) (blocked : List Blocked) (list : List Occurrence) (above below : ℕ) (first second : Drawn)
      (cause : Cause) → above < below → slice_get (sheet_of stood list).drawn above ≡ Some first → slice_get (sheet_of stood list).drawn below ≡ Some second
      → cause_in stood first.event second.event ≡ Some cause → Has (picture names stood handles blocked fibers list) (arrow fibers first second cause)
  none_missing names handles blocked list above below first second cause lt is_first is_second stands =
      let drawn = (sheet_of stood list).drawn in
      let zero_below : below ≡ 0 + below = omega arith in
      let one = has_to second (take below drawn) above first cause (above_place drawn above below first lt is_first) stands in
      inr (inr (inr (inr (inr (inl (has_from drawn drawn 0 below second _ is_second
      (subst (λ (n : ℕ). Has (arrows_to fibers (told_of second) second (take n drawn)) (arrow fibers first second cause)) zero_below one)))))))

  -- one of these that y stands on, and its arrow
  record IsFrom (y : Drawn) (xs : List Drawn) (e : Content) : Type 0 where
    place : ℕ
    event : Drawn
    cause : Cause
    is_event : slice_get xs place ≡ Some event
    stands : cause_in stood event.event y.event ≡ Some cause
    is : e ≡ arrow fibers event y cause

  found_by : (y z : Drawn) (xs : List Drawn) (e : Content) (o : Option Cause) → cause_in stood z.event y.event ≡ o
      → Has (arrow_for fibers z y o) e → IsFrom y (z ∷ xs) e
  found_by y z xs e None stands has = absurd has
  found_by y z xs e (Some cause) stands (inl same) =
      record { place = 0; event = z; cause = cause; is_event = refl; stands = stands; is = same }
  found_by y z xs e (Some cause) stands (inr none) = absurd none

  found_to : (y : Drawn) (xs : List Drawn) (e : Content) → Has (arrows_to fibers (told_of y) y xs) e → IsFrom y xs e
  found_to y [] e has = absurd has
  found_to y (z ∷ xs) e (inl has) = found_by y z xs e (cause_in stood z.event y.event) refl has
  found_to y (z ∷ xs) e (inr has) =
      let rest = found_to y xs e has in
      record {
        place = suc rest.place;
        event = rest.event;
        cause = rest.cause;
        is_event = rest.is_event;
        stands = rest.stands;
        is = rest.is;
      }

  record IsTo (list : List Drawn) (place : ℕ) (ys : List Drawn) (e : Content) : Type 0 where
    at : ℕ
    event : Drawn
    is_event : slice_get ys at ≡ Some event
    has : Has (arrows_to fibers (told_of event) event (take (place + at) list)) e

  found_from : (list : List Drawn) (place : ℕ) (ys : List Drawn) (e : Content) → Has (arrows_from stood fibers list place ys) e → IsTo list place ys e
  found_from list place [] e has = absurd has
  found_from list place (y ∷ ys) e (inl has) =
      let here : place ≡ place + 0 = omega arith in
      record { at = 0; event = y; is_event = refl; has = subst (λ (n : ℕ). Has (arrows_to fibers (told_of y) y (take n list)) e) here has }
  found_from list place (y ∷ ys) e (inr has) =
      let rest = found_from list (suc place) ys e has in
      let next : suc place + rest.at ≡ place + suc rest.at = omega arith in
      record {
        at = suc rest.at;
        event = rest.event;
        is_event = rest.is_event;
        has = subst (λ (n : ℕ). Has (arrows_to fibers (told_of rest.event) rest.event (take n list)) e) next rest.has;
      }

  pub is_arrow : (list : List Drawn) (e : Content) → Has (arrows_from stood fibers list 0 list) e → IsArrow stood fibers list e
  is_arrow list e has =
      let to = found_from list 0 list e has in
      let row : 0 + to.at ≡ to.at = omega arith in
      let from = found_to to.event (take to.at list) e (subst (λ (n : ℕ). Has (arrows_to fibers (told_of to.event) to.event (take n list)) e) row to.has) in
      let front = in_front list from.place to.at from.event from.is_event in
      record {
        above = from.place;
        below = to.at;
        first = from.event;
        second = to.event;
        cause = from.cause;
        order = front.0;
        is_first = front.1;
        is_second = to.is_event;
        stands_on = from.stands;
        is = from.is;
      }
