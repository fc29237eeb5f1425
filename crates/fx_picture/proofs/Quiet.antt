-- Where an event is drawn, and that no arrow stands at a quiet one.
use Rattle.std.proofs.Common.{◌≡◌, ℕ, zero, suc, ◌<◌, ◌-◌, true, false, not, ◌==◌, ◌&&◌, Bool, Option, Some, None, List, [], ◌∷◌}
use Rattle.std.proofs.Common.{refl, sym, subst, ◌∙◌, map, inl, inr, slice_get}
use Rattle.std.specs.Prelude.{is_some}
use Rattle.std.proofs.lemmas.Bool.{and_parts, not-true, cases_Bool, and_left, or_parts}
use Rattle.fx_term.specs.declared.event.Event.{Event}
use Rattle.fx_term.specs.declared.event.Event.TheVariants as event
use Rattle.fx_order.specs.declared.occurrence.Occurrence.{Occurrence}
use Rattle.fx_picture.specs.declared.cause.Cause.{Cause}
use Rattle.fx_picture.specs.declared.drawn.Drawn.{Drawn}
use Rattle.fx_picture.specs.declared.stood.EventAt.{EventAt}
use Rattle.fx_picture.specs.declared.stood.Stood.{Stood}
use Rattle.fx_picture.specs.Stood.{stood_at, told_cause}
use Rattle.fx_picture.specs.Causes.{is_told_by, is_seen, is_first, is_got_of, is_at, has_caused, cause_by, cause_in}
use Rattle.fx_picture.specs.Folds.{is_work, is_linked, is_linked_by, is_quiet, event_of, sheet_of}
use Rattle.fx_picture.proofs.Sheets.{same_events, sheet_is_sound}

both_off : (x y : Bool) → y ≡ false → x && y ≡ false
both_off true y off = off
both_off false y off = refl

got_mapped : (xs : List Drawn) (k : ℕ) (o : Occurrence) → slice_get (map event_of xs) k ≡ Some o
    → (x : Drawn) × (slice_get xs k ≡ Some x) × (x.event ≡ o)
got_mapped [] k o is = absurd (cc is)
got_mapped (x ∷ xs) zero o is = (x, refl, cc is)
got_mapped (x ∷ xs) (suc k) o is = got_mapped xs k o is

-- what stands at a place of the list is drawn
pub drawn_at : (stood : List Stood) (list : List Occurrence) (k : ℕ) (o : Occurrence) → slice_get list k ≡ Some o
    → (x : Drawn) × (slice_get (sheet_of stood list).drawn k ≡ Some x) × (x.event ≡ o)
drawn_at stood list k o is =
    got_mapped (sheet_of stood list).drawn k o (subst (λ (l : List Occurrence). slice_get l k ≡ Some o) (sym (same_events stood list)) is)

-- a quiet event is work, no put that is told to have caused anything, and no got that is told to have a cause
work_of : (stood : List Stood) (o : Occurrence) → is_quiet stood o ≡ true → is_work o.event ≡ true
work_of stood o quiet = (and_parts (not (o.place == 0)) (is_work o.event) (and_parts (not (o.place == 0) && is_work o.event) _ quiet).0).1

late : (stood : List Stood) (o : Occurrence) → is_quiet stood o ≡ true → o.place == 0 ≡ false
late stood o quiet =
    not-true (o.place == 0) (and_parts (not (o.place == 0)) (is_work o.event) (and_parts (not (o.place == 0) && is_work o.event) _ quiet).0).0

free_of : (stood : List Stood) (o : Occurrence) → is_quiet stood o ≡ true → is_linked stood o ≡ false
free_of stood o quiet = not-true (is_linked stood o) (and_parts (not (o.place == 0) && is_work o.event) (not (is_linked stood o)) quiet).1

-- what no event is told to have as its cause is not that of any of them
untold : (x : Occurrence) (stood : List Stood) (f i : ℕ) → has_caused stood x ≡ false → is_at x (told_cause (stood_at stood f i)) ≡ false
untold x [] f i free = refl
untold x (s ∷ stood) f i free =
    let parts = or_parts (is_at x s.cause) (has_caused stood x) free in
    elim (cases_Bool (s.fiber == f)) [
      | inl here ↦ elim (cases_Bool (i == 0)) [
        | inl first ↦ rw (here, first) parts.0
        | inr later ↦ rw (here, later) (untold x stood f (i - 1) parts.1)
      ]
      | inr other ↦ rw other (untold x stood f i parts.1)
    ]

-- no arrow begins at such work
pub none_from : (stood : List Stood) (x y : Occurrence) → is_quiet stood x ≡ true → cause_in stood x y ≡ None
none_from stood x y quiet = by_event x.event (work_of stood x quiet) (free_of stood x quiet)
  where
    told : Option EventAt
    told = told_cause (stood_at stood y.fiber y.place)

    by_event : (e : Event) → is_work e ≡ true → is_linked_by stood e x ≡ false → cause_by told e x y ≡ None
    by_event (event.Start f) work free = absurd (cc work)
    by_event (event.Ended o) work free = absurd (cc work)
    by_event (event.Request f) work free = absurd (cc work)
    by_event (event.Put q v) work free = rw (both_off (is_got_of q v y.event) (is_at x told) (untold x stood y.fiber y.place free)) refl
    by_event _ work free = refl

-- nor ends at it, but at the first event of a fiber
told_of_none : (f : ℕ) (e : Event) → is_work e ≡ true → is_told_by f e ≡ false
told_of_none f (event.Joined g o) work = absurd (cc work)
told_of_none f (event.Awaited g) work = absurd (cc work)
told_of_none f _ work = refl

seen_by_none : (e : Event) → is_work e ≡ true → is_seen e ≡ false
seen_by_none event.Seen work = absurd (cc work)
seen_by_none _ work = refl

first_is_none : (e : Event) → is_work e ≡ true → is_first e ≡ false
first_is_none (event.First n) work = absurd (cc work)
first_is_none _ work = refl

at_none : (x : Occurrence) (told : Option EventAt) → is_some told ≡ false → is_at x told ≡ false
at_none x None free = refl
at_none x (Some at) free = absurd (cc free)

got_is_none : (stood : List Stood) (q v : ℕ) (e : Event) (x y : Occurrence) → is_linked_by stood e y ≡ false
    → is_got_of q v e && is_at x (told_cause (stood_at stood y.fiber y.place)) ≡ false
got_is_none stood q v (event.Got r w) x y free =
    both_off (is_got_of q v (event.Got r w)) _ (at_none x (told_cause (stood_at stood y.fiber y.place)) free)
got_is_none stood q v _ x y free = refl

pub none_to : (stood : List Stood) (x y : Occurrence) → is_quiet stood y ≡ true → cause_in stood x y ≡ None
none_to stood x y quiet = by_event x.event
  where
    told : Option EventAt
    told = told_cause (stood_at stood y.fiber y.place)

    work : is_work y.event ≡ true
    work = work_of stood y quiet

    by_event : (e : Event) → cause_by told e x y ≡ None
    by_event (event.Start f) = rw (and_left (y.place == 0) (y.fiber == f) (late stood y quiet)) refl
    by_event (event.Ended o) = rw (told_of_none x.fiber y.event work, first_is_none y.event work) refl
    by_event (event.Request f) = rw (and_left (is_seen y.event) (y.fiber == f) (seen_by_none y.event work)) refl
    by_event (event.Put q v) = rw (got_is_none stood q v y.event x y (free_of stood y quiet)) refl
    by_event _ = refl

-- so what stands on another one stands in a lower row
pub goes_down : (stood : List Stood) (list : List Occurrence) (above below : ℕ) (first second : Drawn) (cause : Cause) → above < below
    → slice_get (sheet_of stood list).drawn above ≡ Some first → slice_get (sheet_of stood list).drawn below ≡ Some second
    → cause_in stood first.event second.event ≡ Some cause → first.row < second.row
goes_down stood list above below first second cause lt is_first is_second stands =
    elim (cases_Bool (is_quiet stood second.event)) [
      | inl quiet ↦ absurd (cc (sym (none_to stood first.event second.event quiet) ∙ stands))
      | inr loud ↦ (sheet_is_sound stood list).down above below first second lt is_first is_second loud
    ]
